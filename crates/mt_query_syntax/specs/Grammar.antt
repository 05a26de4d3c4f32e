-- The grammar of the query text: docs/LANGUAGE.md, "Queries". Keywords are in any case.
--
--   query   := SELECT (* | item {, item}) FROM [name .] name [WHERE cond] [GROUP BY name {, name}]
--              ORDER BY ALL [LIMIT number] [;]
--   item    := name | count ( ) | (sum | min | max) ( name )
use Rattle.std.specs.Prelude.{ℕ, List, [], ◌∷◌, Option}
use Rattle.mt_tokens.specs.declared.sign.Sign.TheVariants.{Dot, Semicolon}
use Rattle.mt_tokens.specs.Tokens.{Tok}
use Rattle.mt_tokens.specs.Words.{is_sign}
use Rattle.mt_tokens.specs.Lexis.{IsTokens}
use Rattle.mt_phrases.specs.Phrases.{Chain, IsNumber, Phrase, ◌▹◌, ◌◂◌, ◌&◌, Maybe, Made, Perhaps, Nothing}
use Rattle.mt_phrases.specs.Selections.{IsSelected}
use Rattle.mt_phrases.specs.Terminals.{key}
use Rattle.mt_cond_syntax.specs.Grammar.{IsUnreservedName, IsCond}
use Rattle.mt_cond_syntax.specs.declared.tree.CondText.{CondText}
use Rattle.mt_query_syntax.specs.declared.tree.QueryText.{QueryText}
use Rattle.mt_phrases.specs.NameRules.{name_in}
use Rattle.mt_cond_syntax.specs.Terminals.{is_unreserved_name}
use Rattle.mt_query_syntax.specs.Trees.{query_of}

-- ---- clauses

-- [WHERE cond]
abbrev pub IsWhere : Phrase (Option CondText)
IsWhere = Maybe (key "WHERE" ▹ IsCond)

-- [GROUP BY name {, name}]
abbrev pub IsQueryGroup : Phrase (Option (List (List ℕ)))
IsQueryGroup = Maybe (key "GROUP" ▹ key "BY" ▹ Chain IsUnreservedName)

-- ORDER BY ALL [LIMIT number]
abbrev pub IsQueryOrder : Phrase (Option ℕ)
IsQueryOrder = key "ORDER" ▹ key "BY" ▹ key "ALL" ▹ Maybe (key "LIMIT" ▹ IsNumber)

-- ---- the whole

-- FROM [name .] name [WHERE cond] [GROUP BY name {, name}] ORDER BY ALL [LIMIT number]
abbrev pub IsFrom : Phrase (Option CondText × (Option (List (List ℕ)) × Option ℕ))
IsFrom =
    key "FROM" ▹ Perhaps (is_unreserved_name ∷ is_sign Dot ∷ []) (is_unreserved_name ▹ (IsWhere & IsQueryGroup & IsQueryOrder))

-- query := SELECT (* | item {, item}) FROM .. [;], and no more
abbrev pub IsQuery : Phrase QueryText
IsQuery =
    Made query_of (key "SELECT" ▹ (IsSelected name_in & IsFrom))
    ◂ Perhaps (is_sign Semicolon ∷ []) Nothing

-- the text is this sentence
abbrev pub IsQueryText : (text : List ℕ) → QueryText → Type 0
IsQueryText text tree = (tokens : List Tok) × IsTokens text tokens × IsQuery tokens tree []
