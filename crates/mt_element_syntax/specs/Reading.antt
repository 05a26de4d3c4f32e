-- The grammar read from left to right: each reader has its phrase's name.
use Rattle.std.specs.Prelude.{ℕ, zero, suc, List, [], ◌∷◌, Option, None}
use Rattle.mt_tokens.specs.declared.sign.Sign.TheVariants.{Open}
use Rattle.mt_tokens.specs.Words.{is_sign, name_of}
use Rattle.mt_phrases.specs.declared.selection.Selected.{Selected}
use Rattle.mt_phrases.specs.Phrases.{first_is, singleton}
use Rattle.mt_phrases.specs.Selections.{selects_at}
use Rattle.mt_phrases.specs.Terminals.{key, fixed, is_number, is_text, tree_if}
use Rattle.mt_phrases.specs.Readers.{Reader, one, after, both, with_tree, either, either_if, maybe, perhaps, chain, to_close, in_parens, number_at, text_token_at}
use Rattle.mt_element_syntax.specs.declared.limits.TheConstants.{MAX_TYPE_DEPTH}
use Rattle.mt_element_syntax.specs.declared.tree.TypeText.{TypeText}
use Rattle.mt_element_syntax.specs.declared.tree.TypeArg.{TypeArg}
use Rattle.mt_element_syntax.specs.declared.tree.TypeArg.TheVariants as arg
use Rattle.mt_element_syntax.specs.declared.tree.CodecText.{CodecText}
use Rattle.mt_element_syntax.specs.declared.tree.IndexKind.{IndexKind}
use Rattle.mt_element_syntax.specs.declared.tree.IndexKind.TheVariants.{Minmax, Set}
use Rattle.mt_element_syntax.specs.declared.tree.Element.{Element}
use Rattle.mt_element_syntax.specs.Trees.{type_of, codec_of, column_element_of, index_of, projection_element_of}
use Rattle.mt_element_syntax.specs.Terminals.{word_of}

-- a name
abbrev pub name_at : Reader (List ℕ)
name_at = one name_of

-- a plain word
abbrev pub word_at : Reader (List ℕ)
word_at = one word_of

-- names with commas between them
abbrev pub names_at : Reader (List (List ℕ))
names_at = chain name_at

-- a list, with or without parentheses
abbrev pub name_list_at : Reader (List (List ℕ))
name_list_at = either (is_sign Open) (to_close names_at) names_at

-- a key: names in parentheses, or one name
abbrev pub key_at : Reader (List (List ℕ))
key_at = either (is_sign Open) (to_close names_at) (with_tree singleton name_at)

-- ---- types

-- an argument, by what reads types
abbrev pub arg_at : Reader TypeText → Reader TypeArg
arg_at p =
    either_if (first_is is_number) (with_tree arg.Number number_at)
    (either_if (first_is is_text) (with_tree arg.Text text_token_at) (with_tree arg.Type p))

-- a type, by what reads the types inside its parentheses
abbrev pub nested_at : Reader TypeText → Reader TypeText
nested_at p = with_tree type_of (both word_at (maybe (is_sign Open) (to_close (chain (arg_at p)))))

-- a type, with at most so many parentheses around one another
unfoldable pub type_at : (depth : ℕ) → Reader TypeText
type_at zero = with_tree (λ word. type_of (word, None)) word_at
type_at (suc depth) = nested_at (type_at depth)

-- ---- columns

-- a codec
abbrev pub codec_at : Reader CodecText
codec_at = with_tree codec_of (both word_at (maybe (is_sign Open) (to_close number_at)))

-- the codecs of CODEC, where it is given
abbrev pub codecs_at : Reader (Option (List CodecText))
codecs_at = maybe (key "CODEC") (in_parens (chain codec_at))

-- a column
unfoldable pub column_element_at : Reader Element
column_element_at =
    with_tree column_element_of (both name_at (both (type_at MAX_TYPE_DEPTH)
    (perhaps (key "COMMENT") (is_text ∷ []) codecs_at)))

-- ---- indexes

-- the kind of an index
abbrev pub kind_at : Reader IndexKind
kind_at =
    either_if (first_is (fixed "minmax")) (one (tree_if (fixed "minmax") Minmax))
    (after (fixed "set") (with_tree Set (in_parens number_at)))

-- the number of GRANULARITY, where it is given
abbrev pub granularity_at : Reader (Option ℕ)
granularity_at = maybe (key "GRANULARITY") number_at

-- an index behind INDEX
unfoldable pub index_at : Reader Element
index_at =
    with_tree index_of (both name_at (both name_at
    (after (key "TYPE") (both kind_at granularity_at))))

-- ---- projections

-- the names of GROUP BY, where it is given
abbrev pub group_at : Reader (Option (List (List ℕ)))
group_at = maybe (key "GROUP") (after (key "BY") name_list_at)

-- the names of ORDER BY, where it is given
abbrev pub order_at : Reader (Option (List (List ℕ)))
order_at = maybe (key "ORDER") (after (key "BY") name_list_at)

-- SELECT and what follows it
abbrev pub selection_at : Reader (Selected × (Option (List (List ℕ)) × Option (List (List ℕ))))
selection_at = after (key "SELECT") (both (selects_at name_of) (both group_at order_at))

-- a projection behind PROJECTION
unfoldable pub projection_element_at : Reader Element
projection_element_at =
    with_tree projection_element_of (both name_at
    (in_parens selection_at))

-- ---- elements

-- an element
unfoldable pub element_at : Reader Element
element_at =
    either (key "INDEX") index_at
    (either (key "PROJECTION") projection_element_at column_element_at)

-- elements in parentheses
abbrev pub element_list_at : Reader (List Element)
element_list_at = in_parens (chain element_at)
