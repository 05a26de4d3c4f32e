-- Rows of a table's columns, and how many cells they have: docs/FORMAT.md, "Limits".
use Rattle.std.specs.Prelude.{ℕ, ◌+◌, ◌*◌, List, [], ◌∷◌, length, sum, IsTrue}
use Rattle.std.specs.List.{sum_by}
use Rattle.mt_types.specs.declared.value.Value.{Value}
use Rattle.mt_types.specs.declared.value.Value.TheOpen.{Value-F}
use Rattle.mt_types.specs.declared.value.Value.TheFolds.{fold-Value}
use Rattle.mt_types.specs.Fits.{fits_of}
use Rattle.mt_table.specs.declared.column.Column.{Column}

-- the relation holds of the elements at each index, and the lists are equally long
abbrev pub Pointwise : {A B : Type 0} → (A → B → Type 0) → List A → List B → Type 0
Pointwise R [] [] = Unit {0}
Pointwise R [] (y ∷ ys) = ⊥
Pointwise R (x ∷ xs) [] = ⊥
Pointwise R (x ∷ xs) (y ∷ ys) = R x y × Pointwise R xs ys

-- one value of its type per column
abbrev pub RowFits : List Column → List Value → Type 0
RowFits columns row = Pointwise (λ column value. IsTrue (fits_of column.ty value)) columns row

-- the elements at one level, and those inside them
abbrev pub element_count_step : Value-F ℕ → ℕ
element_count_step (Value-F.List counts) = length counts + sum counts
element_count_step _ = 0

-- the elements of all arrays in a value
abbrev pub element_count : Value → ℕ
element_count = fold-Value ℕ element_count_step

-- rows times columns, and all elements of arrays
abbrev pub cell_count : List Column → List (List Value) → ℕ
cell_count columns rows = length rows * length columns + sum_by (λ row. sum_by element_count row) rows
