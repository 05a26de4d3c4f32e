-- The columns of a sentence: docs/LANGUAGE.md, "Table text", NotAType.
use Rattle.std.specs.Prelude.{ℕ, List, [], ◌∷◌, Option, Some, option_and_then}
use Rattle.mt_types.specs.declared.ty.Ty.{Ty}
use Rattle.mt_element_syntax.specs.declared.tree.Element.{Element}
use Rattle.mt_element_syntax.specs.declared.tree.Element.TheVariants as element
use Rattle.mt_table.specs.declared.column.Column.{Column}
use Rattle.mt_table_rules.specs.TypeTexts.{column_type_of}

-- the next step, where there is a value
infixl 10 ◌>>=◌
abbrev pub ◌>>=◌ : {A B : Type 0} → Option A → (A → Option B) → Option B
o >>= f = option_and_then f o

-- one column more, if its type and the others are there
abbrev pub with_listed_column : List ℕ → Option Ty → Option (List Column) → Option (List Column)
with_listed_column name ty columns = do
  ty ← ty
  columns ← columns
  Some (record { name = name; ty = ty } ∷ columns)

-- the columns, if each type is one of a column
abbrev pub columns_of : List Element → Option (List Column)
columns_of [] = Some []
columns_of (element.Column name ty codecs ∷ elements) = with_listed_column name (column_type_of ty) (columns_of elements)
columns_of (element.Index name column kind granularity ∷ elements) = columns_of elements
columns_of (element.Projection name items group order ∷ elements) = columns_of elements
