-- The grammar read from left to right: each reader has its phrase's name.
use Rattle.std.specs.Prelude.{ℕ, zero, suc, List, [], ◌∷◌, length, Option, Some, option_and_then, Bool, ◌||◌, if◌then◌else◌}
use Rattle.mt_tokens.specs.declared.sign.Sign.TheVariants.{Open, Close, Dot, Semicolon, Equal}
use Rattle.mt_tokens.specs.Tokens.{Tok}
use Rattle.mt_tokens.specs.Words.{is_sign}
use Rattle.mt_phrases.specs.Phrases.{first_is, second_is, singleton}
use Rattle.mt_phrases.specs.Terminals.{key, fixed, is_text}
use Rattle.mt_phrases.specs.Readers.{Reader, one, after, both, with_tree, with_tree_if, either, either_if, one_each, skip, skip_if, perhaps, perhaps_if, chain, to_close, in_parens, whole_tree}
use Rattle.mt_element_syntax.specs.Reading.{name_at, word_at, key_at, element_list_at}
use Rattle.mt_element_syntax.specs.declared.tree.Element.{Element}
use Rattle.mt_syntax.specs.declared.tree.PartitionText.{PartitionText}
use Rattle.mt_syntax.specs.declared.tree.PartitionText.TheVariants.{Plain, Month}
use Rattle.mt_syntax.specs.declared.tree.SettingText.{SettingText}
use Rattle.mt_syntax.specs.declared.tree.TableText.{TableText}
use Rattle.mt_syntax.specs.declared.clause.Clause.{Clause}
use Rattle.mt_syntax.specs.declared.clause.Clause.TheVariants as clause
use Rattle.mt_syntax.specs.declared.clause.Clauses.{Clauses}
use Rattle.mt_syntax.specs.Trees.{setting_of, with_clause, no_clauses, sentence_of}
use Rattle.mt_element_syntax.specs.Terminals.{is_name_token}
use Rattle.mt_syntax.specs.Terminals.{value_of}

-- ---- clauses

-- an expression of a partition key
unfoldable pub expression_at : Reader PartitionText
expression_at =
    either_if (second_is (is_sign Open))
    (after (fixed "toYYYYMM") (with_tree Month (in_parens name_at)))
    (with_tree Plain name_at)

-- expressions in parentheses, or one
abbrev pub expressions_at : Reader (List PartitionText)
expressions_at =
    either (is_sign Open) (to_close (chain expression_at)) (with_tree singleton expression_at)

-- a setting
abbrev pub setting_at : Reader SettingText
setting_at = with_tree setting_of (both word_at (after (is_sign Equal) (one value_of)))

-- a clause begins with this token
abbrev pub is_clause_key : Tok → Bool
is_clause_key token =
    key "PARTITION" token || (key "PRIMARY" token
    || (key "ORDER" token || key "SETTINGS" token))

-- a clause
unfoldable pub clause_at : Reader Clause
clause_at =
    either (key "PARTITION") (after (key "BY") (with_tree clause.Partition expressions_at))
    (either (key "PRIMARY") (after (key "KEY") (with_tree clause.Primary key_at))
    (either (key "ORDER") (after (key "BY") (with_tree clause.Order key_at))
    (after (key "SETTINGS") (with_tree clause.Settings (chain setting_at)))))

-- clauses beside others, at most so many
unfoldable pub more_clauses : (count : ℕ) → Clauses → Reader Clauses
more_clauses zero c tokens = Some (c, tokens)
more_clauses (suc count) c tokens =
    if first_is is_clause_key tokens
    then option_and_then (λ x. option_and_then (λ d. more_clauses count d x.1) (with_clause c x.0)) (clause_at tokens)
    else Some (c, tokens)

-- as many clauses as there are
abbrev pub clauses_at : Reader Clauses
clauses_at tokens = more_clauses (length tokens) no_clauses tokens

-- [( )] {clause}
abbrev pub parens_and_clauses_at : Reader Clauses
parens_and_clauses_at = perhaps (is_sign Open) (is_sign Close ∷ []) clauses_at

-- ---- the whole

-- the engine and its clauses
unfoldable pub engine_at : Reader Clauses
engine_at =
    after (key "ENGINE") (after (is_sign Equal) (after (fixed "MergeTree")
    parens_and_clauses_at))

-- the table's name, its elements and its clauses
unfoldable pub body_at : Reader (List ℕ × (List Element × Clauses))
body_at =
    perhaps_if (second_is (is_sign Dot)) (is_name_token ∷ is_sign Dot ∷ []) (both name_at
    (perhaps (key "UUID") (is_text ∷ []) (both element_list_at engine_at)))

-- what follows [COMMENT text] [;]
abbrev pub end_at : List Tok → Option (List Tok)
end_at tokens =
    option_and_then (skip (is_sign Semicolon) [])
    (skip (key "COMMENT") (is_text ∷ []) tokens)

-- the sentence behind [IF NOT EXISTS]
unfoldable pub rest_at : List Tok → Option TableText
rest_at tokens =
    option_and_then (λ x. option_and_then (whole_tree x.0) (end_at x.1)) (with_tree_if sentence_of body_at tokens)

-- the whole sentence
unfoldable pub sentence_at : List Tok → Option TableText
sentence_at tokens =
    option_and_then (λ named. option_and_then rest_at
    (skip_if (second_is (key "NOT")) (key "IF" ∷ key "NOT" ∷ key "EXISTS" ∷ []) named))
    (one_each (key "CREATE" ∷ key "TABLE" ∷ []) tokens)
