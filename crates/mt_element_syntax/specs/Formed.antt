-- What every element of the grammar has: a name that is one, and lists of at least one.
use Rattle.std.specs.Prelude.{Bool, true, ◌&&◌, nat_le, List, length, Option, Some, None}
use Rattle.mt_types.specs.Words.{is_name}
use Rattle.mt_element_syntax.specs.declared.tree.Element.{Element}
use Rattle.mt_element_syntax.specs.declared.tree.Element.TheVariants as element

-- at least one
abbrev pub has_one : {A : Type 0} → List A → Bool
has_one list = nat_le 1 (length list)

-- at least one, where it is given
abbrev pub has_one_given : {A : Type 0} → Option (List A) → Bool
has_one_given None = true
has_one_given (Some list) = has_one list

-- an element has a name, and the keys of a projection have columns
abbrev pub is_formed_element : Element → Bool
is_formed_element (element.Column name ty codecs) = is_name name
is_formed_element (element.Index name column kind granularity) = is_name name
is_formed_element (element.Projection name items group order) = is_name name && (has_one_given group && has_one_given order)
