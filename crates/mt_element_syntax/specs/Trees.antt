-- The tree of a production, made of those of its parts.
use Rattle.std.specs.Prelude.{ℕ, List, [], Option, Bool, true, false, is_some, unwrap_or}
use Rattle.mt_phrases.specs.declared.selection.Selected.{Selected}
use Rattle.mt_element_syntax.specs.declared.tree.TypeText.{TypeText}
use Rattle.mt_element_syntax.specs.declared.tree.TypeArg.{TypeArg}
use Rattle.mt_element_syntax.specs.declared.tree.CodecText.{CodecText}
use Rattle.mt_element_syntax.specs.declared.tree.IndexKind.{IndexKind}
use Rattle.mt_element_syntax.specs.declared.tree.Element.{Element}
use Rattle.mt_element_syntax.specs.declared.tree.Element.TheVariants as element

-- a type of its word and its arguments
abbrev pub type_of : List ℕ × Option (List TypeArg) → TypeText
type_of x = record { word = x.0; args = unwrap_or x.1 [] }

-- a codec of its word and its number
abbrev pub codec_of : List ℕ × Option ℕ → CodecText
codec_of x = record { word = x.0; has_number = is_some x.1 }

-- a column of its name, its type and its codecs
abbrev pub column_element_of : List ℕ × (TypeText × Option (List CodecText)) → Element
column_element_of x = element.Column x.0 x.1.0 x.1.1

-- an index of its name, its column, its kind and its granularity, 1 where it isn't given
abbrev pub index_of : List ℕ × (List ℕ × (IndexKind × Option ℕ)) → Element
index_of x = element.Index x.0 x.1.0 x.1.1.0 (unwrap_or x.1.1.1 1)

-- a projection of its name, its items, GROUP BY and ORDER BY
abbrev pub projection_element_of : List ℕ × (Selected × (Option (List (List ℕ)) × Option (List (List ℕ)))) → Element
projection_element_of x = element.Projection x.0 x.1.0 x.1.1.0 x.1.1.1

-- an element is a column
abbrev pub is_column_element : Element → Bool
is_column_element (element.Column name ty codecs) = true
is_column_element _ = false
