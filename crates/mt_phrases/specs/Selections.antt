-- What a projection and a query select, with any notion of names: docs/LANGUAGE.md, "Table text" and "Queries".
--
--   * | item {, item}      item := name | count ( ) | (sum | min | max) ( name )
use Rattle.std.specs.Prelude.{ℕ, List, Option}
use Rattle.mt_tokens.specs.declared.sign.Sign.TheVariants.{Open, Close, Star}
use Rattle.mt_tokens.specs.Tokens.{Tok}
use Rattle.mt_tokens.specs.Words.{is_sign}
use Rattle.mt_phrases.specs.declared.selection.Selection.{Selection}
use Rattle.mt_phrases.specs.declared.selection.Selection.TheVariants as item
use Rattle.mt_phrases.specs.declared.selection.Selected.{Selected}
use Rattle.mt_phrases.specs.declared.selection.Selected.TheVariants.{All, Items}
use Rattle.mt_phrases.specs.Phrases.{Phrase, One, ◌▹◌, ◌&◌, ◌∣◌, Made, Chain, InParens, first_is, second_is}
use Rattle.mt_phrases.specs.Readers.{Reader, one, after, both, with_tree, either_if, chain, in_parens}
use Rattle.mt_phrases.specs.Terminals.{key, tree_if, agg_of}

-- count ( )
abbrev pub IsCount : Phrase Selection
IsCount = key "count" ▹ is_sign Open ▹ One (tree_if (is_sign Close) item.Count)

-- (sum | min | max) ( name )
abbrev pub IsAggregate : (name_in : Tok → Option (List ℕ)) → Phrase Selection
IsAggregate name_in = Made (λ x. item.Of x.0 x.1) (One agg_of & InParens (One name_in))

-- item := name | count ( ) | (sum | min | max) ( name )
abbrev pub IsItem : (name_in : Tok → Option (List ℕ)) → Phrase Selection
IsItem name_in = (IsCount ∣ IsAggregate name_in) ∣ Made item.Column (One name_in)

-- * | item {, item}
abbrev pub IsSelected : (name_in : Tok → Option (List ℕ)) → Phrase Selected
IsSelected name_in = One (tree_if (is_sign Star) All) ∣ Made Items (Chain (IsItem name_in))

-- what reads count()
abbrev pub count_at : Reader Selection
count_at = after (key "count") (after (is_sign Open) (one (tree_if (is_sign Close) item.Count)))

-- what reads sum, min or max of a column
abbrev pub aggregate_at : (name_in : Tok → Option (List ℕ)) → Reader Selection
aggregate_at name_in = with_tree (λ x. item.Of x.0 x.1) (both (one agg_of) (in_parens (one name_in)))

-- what reads a call
abbrev pub call_at : (name_in : Tok → Option (List ℕ)) → Reader Selection
call_at name_in = either_if (first_is (key "count")) count_at (aggregate_at name_in)

-- what reads an item
unfoldable pub item_at : (name_in : Tok → Option (List ℕ)) → Reader Selection
item_at name_in = either_if (second_is (is_sign Open)) (call_at name_in) (with_tree item.Column (one name_in))

-- what reads * or items
abbrev pub selects_at : (name_in : Tok → Option (List ℕ)) → Reader Selected
selects_at name_in =
    either_if (first_is (is_sign Star)) (one (tree_if (is_sign Star) All)) (with_tree Items (chain (item_at name_in)))
