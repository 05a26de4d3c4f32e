-- The grammar read from left to right: each reader has its phrase's name.
use Rattle.std.specs.Prelude.{ℕ, zero, suc, List, Bool, true, false}
use Rattle.mt_tokens.specs.declared.sign.Sign.TheVariants.{Open, Comma, Minus}
use Rattle.mt_tokens.specs.Words.{is_sign}
use Rattle.mt_phrases.specs.Phrases.{second_is}
use Rattle.mt_phrases.specs.Readers.{Reader, one, after, both, with_tree, either, either_if, chain, to_close, in_parens, text_token_at}
use Rattle.mt_phrases.specs.Terminals.{key, fixed, tree_if}
use Rattle.mt_cond_syntax.specs.declared.limits.TheConstants.{MAX_COND_DEPTH}
use Rattle.mt_cond_syntax.specs.declared.tree.Literal.{Literal}
use Rattle.mt_cond_syntax.specs.declared.tree.CondText.{CondText}
use Rattle.mt_cond_syntax.specs.declared.tree.CondText.TheVariants.{And, Or, Not}
use Rattle.mt_cond_syntax.specs.Joins.{joined}
use Rattle.mt_phrases.specs.NameRules.{name_in}
use Rattle.mt_cond_syntax.specs.Terminals.{literal_of, negative_in, op_of}
use Rattle.mt_cond_syntax.specs.Trees.{comparison_of, one_of_of, null_test_of, starts_of, has_of}

-- a name
abbrev pub unreserved_name_at : Reader (List ℕ)
unreserved_name_at = one name_in

-- a literal
abbrev pub literal_at : Reader Literal
literal_at = either (is_sign Minus) (one negative_in) (one literal_of)

-- ---- conditions

-- a name, a comparison sign and a literal
abbrev pub comparison_at : Reader CondText
comparison_at = with_tree comparison_of (both unreserved_name_at (both (one op_of) literal_at))

-- a name, IN and literals
abbrev pub one_of_at : Reader CondText
one_of_at = with_tree one_of_of (both unreserved_name_at (after (key "IN") (in_parens (chain literal_at))))

-- NOT NULL or NULL
abbrev pub null_word_at : Reader Bool
null_word_at = either (key "NOT") (one (tree_if (key "NULL") true)) (one (tree_if (key "NULL") false))

-- a name, IS, and NOT NULL or NULL
abbrev pub null_test_at : Reader CondText
null_test_at = with_tree null_test_of (both unreserved_name_at (after (key "IS") null_word_at))

-- what stands behind startsWith
abbrev pub starts_at : Reader CondText
starts_at = in_parens (with_tree starts_of (both unreserved_name_at (after (is_sign Comma) text_token_at)))

-- what stands behind has
abbrev pub has_at : Reader CondText
has_at = in_parens (with_tree has_of (both unreserved_name_at (after (is_sign Comma) literal_at)))

-- startsWith or has
abbrev pub test_at : Reader CondText
test_at = either (fixed "startsWith") starts_at (after (fixed "has") has_at)

-- a condition without others inside
unfoldable pub atom_at : Reader CondText
atom_at =
    either_if (second_is (is_sign Open)) test_at
    (either_if (second_is (key "IN")) one_of_at
    (either_if (second_is (key "IS")) null_test_at comparison_at))

-- units with AND between them
abbrev pub conjunction_at : Reader CondText → Reader CondText
conjunction_at p = joined (key "AND") And p

-- conjunctions with OR between them
abbrev pub disjunction_at : Reader CondText → Reader CondText
disjunction_at p = joined (key "OR") Or (conjunction_at p)

-- a unit, by what reads the units inside it
abbrev pub nested_unit_at : Reader CondText → Reader CondText
nested_unit_at p =
    either (key "NOT") (with_tree Not p) (either (is_sign Open) (to_close (disjunction_at p)) atom_at)

-- a unit, with at most so many NOTs and parentheses around one another
unfoldable pub unit_at : (depth : ℕ) → Reader CondText
unit_at zero = atom_at
unit_at (suc depth) = nested_unit_at (unit_at depth)

-- a condition
abbrev pub cond_at : Reader CondText
cond_at = disjunction_at (unit_at MAX_COND_DEPTH)
