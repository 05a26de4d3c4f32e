-- The grammar read from left to right: each reader has its phrase's name.
use Rattle.std.specs.Prelude.{ℕ, List, [], ◌∷◌, Option, option_and_then}
use Rattle.mt_tokens.specs.declared.sign.Sign.TheVariants.{Dot, Semicolon}
use Rattle.mt_tokens.specs.Tokens.{Tok}
use Rattle.mt_tokens.specs.Words.{is_sign}
use Rattle.mt_phrases.specs.Phrases.{second_is}
use Rattle.mt_phrases.specs.Readers.{Reader, after, both, with_tree, maybe, skip, perhaps_if, chain, number_at, whole_tree}
use Rattle.mt_phrases.specs.Selections.{selects_at}
use Rattle.mt_phrases.specs.Terminals.{key}
use Rattle.mt_cond_syntax.specs.Reading.{unreserved_name_at, cond_at}
use Rattle.mt_cond_syntax.specs.declared.tree.CondText.{CondText}
use Rattle.mt_query_syntax.specs.declared.tree.QueryText.{QueryText}
use Rattle.mt_phrases.specs.NameRules.{name_in}
use Rattle.mt_cond_syntax.specs.Terminals.{is_unreserved_name}
use Rattle.mt_query_syntax.specs.Trees.{query_of}

-- ---- clauses

-- the condition of WHERE, where it is given
abbrev pub where_at : Reader (Option CondText)
where_at = maybe (key "WHERE") cond_at

-- the names of GROUP BY, where it is given
abbrev pub query_group_at : Reader (Option (List (List ℕ)))
query_group_at = maybe (key "GROUP") (after (key "BY") (chain unreserved_name_at))

-- the number of LIMIT, where it is given
abbrev pub limit_at : Reader (Option ℕ)
limit_at = maybe (key "LIMIT") number_at

-- ORDER BY ALL and LIMIT
abbrev pub query_order_at : Reader (Option ℕ)
query_order_at = after (key "ORDER") (after (key "BY") (after (key "ALL") limit_at))

-- the clauses behind a table's name
abbrev pub query_clauses_at : Reader (Option CondText × (Option (List (List ℕ)) × Option ℕ))
query_clauses_at = both where_at (both query_group_at query_order_at)

-- ---- the whole

-- FROM, a table's name and the clauses
abbrev pub from_at : Reader (Option CondText × (Option (List (List ℕ)) × Option ℕ))
from_at =
    after (key "FROM")
    (perhaps_if (second_is (is_sign Dot)) (is_unreserved_name ∷ is_sign Dot ∷ []) (after is_unreserved_name query_clauses_at))

-- SELECT, what it selects, and what follows
abbrev pub query_at : Reader QueryText
query_at = with_tree query_of (after (key "SELECT") (both (selects_at name_in) from_at))

-- the whole sentence
unfoldable pub query_sentence_at : List Tok → Option QueryText
query_sentence_at tokens =
    option_and_then (λ x. option_and_then (whole_tree x.0) (skip (is_sign Semicolon) [] x.1)) (query_at tokens)
