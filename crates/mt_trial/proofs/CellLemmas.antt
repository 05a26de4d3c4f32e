-- Rows of a trial have no arrays: they have a cell for each column, and no more.
use Rattle.std.proofs.Common.{◌≡◌, ℕ, ℤ, ◌+◌, ◌*◌, arith, List, [], ◌∷◌, length, refl, ap, ◌∙◌}
use Rattle.std.specs.Prelude.{All}
use Rattle.std.specs.List.{sum_by}
use Rattle.std.proofs.lemmas.List.Elements.{All-head, All-tail}
use Rattle.std.proofs.lemmas.List.Sums.{sum_by-cons}
use Rattle.mt_types.specs.declared.value.AggState.{AggState}
use Rattle.mt_types.specs.declared.value.Value.TheVariants.{Num, Text, State, outs-Num, outs-Text, outs-State}
use Rattle.mt_table.specs.declared.column.Column.{Column}
use Rattle.mt_table.specs.Rows.{cell_count, element_count}
use Rattle.mt_defs.specs.Rows.{Row}
use Rattle.mt_law_written.proofs.CellSums.{elements_at}
use Rattle.mt_trial.specs.Rows.{row_of_number}

pub num_none : (n : ℤ) → element_count (Num n) ≡ 0
num_none n = elements_at (Num n) _ (outs-Num n)

text_none : (bytes : List ℕ) → element_count (Text bytes) ≡ 0
text_none bytes = elements_at (Text bytes) _ (outs-Text bytes)

pub state_none : (state : AggState) → element_count (State state) ≡ 0
state_none state = elements_at (State state) _ (outs-State state)

-- a row without elements of arrays
abbrev pub HasNone : Row → Type 0
HasNone row = sum_by element_count row ≡ 0

pub row_none : (x : ℕ) → HasNone (row_of_number x)
row_none x = simp (num_none, text_none) refl

no_elements : (rows : List Row) → All HasNone rows → sum_by (λ row. sum_by element_count row) rows ≡ 0
no_elements [] none = refl
no_elements (row ∷ rows) none =
    let here = All-head HasNone row rows none in
    let later = no_elements rows (All-tail HasNone row rows none) in
    let both = sum_by-cons (λ (row : Row). sum_by element_count row) row rows in
    omega (arith, here, later, both)

pub cells_are : (columns : List Column) (rows : List Row) → All HasNone rows → cell_count columns rows ≡ length rows * length columns
cells_are columns rows none = ap (λ n. length rows * length columns + n) (no_elements rows none) ∙ plus_none (length rows * length columns)
  where
    plus_none : (n : ℕ) → n + 0 ≡ n
    plus_none n = omega arith
