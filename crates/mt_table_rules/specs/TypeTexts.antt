-- The type of a column as it is written: docs/LANGUAGE.md, "Table text".
use Rattle.std.specs.Prelude.{ℕ, List, [], ◌∷◌, ◌++◌, codes, Option, Some, None, if◌then◌else◌}
use Rattle.std.specs.Fmt.{decimal}
use Rattle.std.specs.List.{flat_map}
use Rattle.mt_types.specs.declared.ty.Ty.{Ty}
use Rattle.mt_types.specs.NameReading.{type_named}
use Rattle.mt_element_syntax.specs.declared.tree.TypeText.{TypeText}
use Rattle.mt_element_syntax.specs.declared.tree.TypeArg.{TypeArg}
use Rattle.mt_element_syntax.specs.declared.tree.TypeArg.TheOpen.{TypeArg-F, TypeText-F}
use Rattle.mt_element_syntax.specs.declared.tree.TypeArg.TheFolds.{fold-TypeArg, fold-TypeText}
use Rattle.mt_table.specs.ColumnTypes.{is_state_type}

-- the argument, where the types inside it are given by their texts
abbrev pub arg_step : TypeArg-F (List ℕ) (List ℕ) → List ℕ
arg_step (TypeArg-F.Number n) = decimal n
arg_step (TypeArg-F.Type text) = text
arg_step (TypeArg-F.Text bytes) = codes "'" ++ (bytes ++ codes "'")

-- a text behind a comma and a blank
abbrev pub behind_comma : List ℕ → List ℕ
behind_comma text = codes ", " ++ text

-- in parentheses, if there is something, with commas between
abbrev pub in_parentheses : List (List ℕ) → List ℕ
in_parentheses [] = []
in_parentheses (text ∷ texts) = codes "(" ++ (text ++ (flat_map behind_comma texts ++ codes ")"))

-- a type, where its arguments are given by their texts
abbrev pub text_step : TypeText-F (List ℕ) (List ℕ) → List ℕ
text_step text = text.word ++ in_parentheses text.args

-- a type as its name is printed: no blanks but one after a comma, numbers by their values, and the bytes of texts in quotes
abbrev pub type_text : TypeText → List ℕ
type_text = fold-TypeText (List ℕ) (List ℕ) arg_step text_step

-- an argument as it is printed
abbrev pub arg_text : TypeArg → List ℕ
arg_text = fold-TypeArg (List ℕ) (List ℕ) arg_step text_step

-- a type, unless it is a state's
abbrev pub column_type_if : Option Ty → Option Ty
column_type_if None = None
column_type_if (Some ty) = if is_state_type ty then None else Some ty

-- the type that a text names, if it is one of a column
abbrev pub column_type_of : TypeText → Option Ty
column_type_of text = column_type_if (type_named (type_text text))
