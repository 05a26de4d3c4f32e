-- The grammar of the table text: docs/LANGUAGE.md, "Table text". Keywords are in any case.
--
--   table   := CREATE TABLE [IF NOT EXISTS] [name .] name [UUID text] ( element {, element} )
--              ENGINE = MergeTree [( )] {clause} [COMMENT text] [;]
--   clause  := PARTITION BY (pexpr | ( pexpr {, pexpr} )) | PRIMARY KEY key | ORDER BY key
--            | SETTINGS setting {, setting}
--   setting := word = (number | text | word)
--   pexpr   := name | toYYYYMM ( name )
--
-- Each clause stands at most once, and ORDER BY must. There is at least one column.
use Rattle.std.specs.Prelude.{ℕ, List, [], ◌∷◌}
use Rattle.mt_tokens.specs.declared.sign.Sign.TheVariants.{Open, Close, Dot, Semicolon, Equal}
use Rattle.mt_tokens.specs.Tokens.{Tok}
use Rattle.mt_tokens.specs.Words.{is_sign}
use Rattle.mt_tokens.specs.Lexis.{IsTokens}
use Rattle.mt_phrases.specs.Terminals.{key, fixed, is_text}
use Rattle.mt_phrases.specs.Phrases.{Phrase, One, ◌▹◌, ◌◂◌, ◌&◌, ◌∣◌, Many, Made, Kept, Perhaps, Nothing, Chain, InParens, singleton}
use Rattle.mt_element_syntax.specs.Grammar.{IsName, IsWord, IsKey, IsElements}
use Rattle.mt_element_syntax.specs.declared.tree.Element.{Element}
use Rattle.mt_syntax.specs.declared.tree.PartitionText.{PartitionText}
use Rattle.mt_syntax.specs.declared.tree.PartitionText.TheVariants.{Plain, Month}
use Rattle.mt_syntax.specs.declared.tree.SettingText.{SettingText}
use Rattle.mt_syntax.specs.declared.tree.TableText.{TableText}
use Rattle.mt_syntax.specs.declared.clause.Clause.{Clause}
use Rattle.mt_syntax.specs.declared.clause.Clause.TheVariants as clause
use Rattle.mt_syntax.specs.declared.clause.Clauses.{Clauses}
use Rattle.mt_element_syntax.specs.Terminals.{is_name_token}
use Rattle.mt_syntax.specs.Terminals.{value_of}
use Rattle.mt_syntax.specs.Trees.{setting_of, no_clauses, with_clauses, sentence_of}

-- ---- clauses

-- pexpr := name | toYYYYMM ( name )
abbrev pub IsExpression : Phrase PartitionText
IsExpression =
    (fixed "toYYYYMM" ▹ Made Month (InParens IsName))
    ∣ Made Plain IsName

-- pexpr | ( pexpr {, pexpr} )
abbrev pub IsExpressions : Phrase (List PartitionText)
IsExpressions = InParens (Chain IsExpression) ∣ Made singleton IsExpression

-- setting := word = (number | text | word)
abbrev pub IsSetting : Phrase SettingText
IsSetting = Made setting_of (IsWord & (is_sign Equal ▹ One value_of))

-- clause := PARTITION BY .. | PRIMARY KEY key | ORDER BY key | SETTINGS setting {, setting}
abbrev pub IsClause : Phrase Clause
IsClause =
    (key "PARTITION" ▹ key "BY" ▹ Made clause.Partition IsExpressions)
    ∣ (key "PRIMARY" ▹ key "KEY" ▹ Made clause.Primary IsKey)
    ∣ (key "ORDER" ▹ key "BY" ▹ Made clause.Order IsKey)
    ∣ (key "SETTINGS" ▹ Made clause.Settings (Chain IsSetting))

-- {clause}, each at most once
abbrev pub IsClauses : Phrase Clauses
IsClauses = Kept (with_clauses no_clauses) (Many IsClause)

-- ---- the whole

-- ENGINE = MergeTree [( )] {clause}
abbrev pub IsEngine : Phrase Clauses
IsEngine =
    key "ENGINE" ▹ is_sign Equal ▹ fixed "MergeTree"
    ▹ Perhaps (is_sign Open ∷ is_sign Close ∷ []) IsClauses

-- [name .] name [UUID text] ( element {, element} ) ENGINE = MergeTree [( )] {clause}
abbrev pub IsBody : Phrase (List ℕ × (List Element × Clauses))
IsBody =
    Perhaps (is_name_token ∷ is_sign Dot ∷ []) (IsName &
    Perhaps (key "UUID" ∷ is_text ∷ []) (IsElements & IsEngine))

-- [COMMENT text] [;], and no more
abbrev pub IsEnd : Phrase (Unit {0})
IsEnd =
    Perhaps (key "COMMENT" ∷ is_text ∷ []) (Perhaps (is_sign Semicolon ∷ []) Nothing)

-- the whole sentence
abbrev pub IsSentence : Phrase TableText
IsSentence =
    key "CREATE" ▹ key "TABLE"
    ▹ Perhaps (key "IF" ∷ key "NOT" ∷ key "EXISTS" ∷ [])
    (Kept sentence_of IsBody ◂ IsEnd)

-- the text is this sentence
abbrev pub IsTableText : (text : List ℕ) → TableText → Type 0
IsTableText text tree = (tokens : List Tok) × IsTokens text tokens × IsSentence tokens tree []
