-- The rows that are read are few enough, and so are their cells.
use Rattle.std.proofs.Common.{◌≡◌, ◌≢◌, ℕ, suc, ◌+◌, ◌-◌, ◌*◌, ◌<◌, ◌≤◌, List, [], ◌∷◌, length, Result, Ok, Err, Option, Some, None, Bool, true, false, All, eqb, subst, refl, sym, ap, ◌∙◌, arith, ltb, leb, inl, inr}
use Rattle.std.specs.List.{sum_by}
use Rattle.std.proofs.lemmas.Bool.{cases_Bool, leb-true, ltb-true, eqb-true}
use Rattle.std.specs.List.{join_with_byte}
use Rattle.std.proofs.lemmas.List.Elements.{All-nil, All-cons, All-head, All-tail}
use Rattle.std.proofs.lemmas.List.Splits.{join_with_byte-slice_split}
use Rattle.std.proofs.lemmas.List.Sums.{sum_by-cons}
use Rattle.mt_facts.proofs.Lists.{nil_from_length}
use Rattle.mt_types.specs.declared.value.Value.{Value}
use Rattle.mt_table.specs.declared.column.Column.{Column}
use Rattle.mt_table.specs.Rows.{element_count, cell_count}
use Rattle.mt_tsv.specs.declared.ascii.TheConstants.{LINE_END}
use Rattle.mt_table.specs.declared.limits.TheConstants.{MAX_ROWS, MAX_CELLS}
use Rattle.mt_tsv.specs.declared.fault.RowWhy.{RowWhy}
use Rattle.mt_tsv.specs.declared.fault.RowWhy.TheVariants.{Columns}
use Rattle.mt_tsv.specs.declared.fault.RowError.{RowError}
use Rattle.mt_tsv.specs.declared.fault.RowError.TheVariants as row
use Rattle.mt_types.specs.Steps.{◌>>=◌, onto}
use Rattle.mt_tsv.specs.Results.{unless_bad}
use Rattle.mt_tsv.specs.Cells.{cells_of, room_after}
use Rattle.mt_tsv.specs.Fields.{field_of}
use Rattle.mt_tsv.specs.Reading.{field_values, row_of, line_fields, rows_of_lines, rows_reading, on_line, with_room, lines}

-- what a step that succeeds had before it
pub then_ok : {A B E : Type 0} (read : Result A E) (next : A → Result B E) (b : B) → (read >>= next) ≡ Ok b → (a : A) × (read ≡ Ok a) × (next a ≡ Ok b)
then_ok (Ok a) next b e = (a, refl, e)
then_ok (Err why) next b e = cc

pub passed : {B E : Type 0} (ok : Bool) (why : E) (next : Result B E) (b : B) → unless_bad ok why next ≡ Ok b → (ok ≡ true) × (next ≡ Ok b)
passed true why next b e = (refl, e)
passed false why next b e = cc

pub onto_ok : {A E : Type 0} (x : A) (read : Result (List A) E) (xs : List A) → onto x read ≡ Ok xs → (more : List A) × (read ≡ Ok more) × (xs ≡ x ∷ more)
onto_ok x (Ok more) xs e = (more, refl, cc)
onto_ok x (Err why) xs e = cc

at_ok : {A : Type 0} (line : ℕ) (read : Result A RowWhy) (a : A) → on_line line read ≡ Ok a → read ≡ Ok a
at_ok line (Ok x) a e = cc
at_ok line (Err why) a e = cc

room_ok : {A : Type 0} (room : Option ℕ) (next : ℕ → Result A RowError) (a : A) → with_room room next ≡ Ok a → (left : ℕ) × (room ≡ Some left) × (next left ≡ Ok a)
room_ok (Some left) next a e = (left, refl, e)
room_ok None next a e = cc

room_is : (cells room left : ℕ) → room_after cells room ≡ Some left → left + cells ≡ room
room_is cells room left e =
    elim (cases_Bool (leb cells room)) [
      | inl fits ↦
          let some : room_after cells room ≡ Some (room - cells) = rw fits refl in
          let is : Some (room - cells) ≡ Some left = sym some ∙ e in
          let same : room - cells ≡ left = cc in
          omega (arith, leb-true cells room fits, same)
      | inr not ↦
          let none : room_after cells room ≡ None = rw not refl in
          let bad : None ≡ Some left = sym none ∙ e in
          cc
    ]

-- the row of a line that is followed by others, and the rows of these
pub data Step (columns : List Column) (before room : ℕ) (line : List ℕ) (more : List (List ℕ)) (rows : List (List Value)) : Type 0 where
  step : (values : List Value) (left : ℕ) (others : List (List Value)) → row_of columns line ≡ Ok values → before < MAX_ROWS → left + cells_of values ≡ room
      → rows_of_lines columns (before + 1) left more ≡ Ok others → rows ≡ values ∷ others → Step columns before room line more rows

pub step_of : (columns : List Column) (before room : ℕ) (line next : List ℕ) (more : List (List ℕ)) (rows : List (List Value)) → rows_of_lines columns before room (line ∷ next ∷ more) ≡ Ok rows → Step columns before room line (next ∷ more) rows
unfolding rows_of_lines
step_of columns before room line next more rows e =
    let read = then_ok (on_line (before + 1) (row_of columns line)) _ rows e in
    let few = passed (ltb before MAX_ROWS) row.Rows _ rows read.2 in
    let cells = room_ok (room_after (cells_of read.0) room) _ rows few.1 in
    let others = onto_ok read.0 (rows_of_lines columns (before + 1) cells.0 (next ∷ more)) rows cells.2 in
    step read.0 cells.0 others.0 (at_ok (before + 1) (row_of columns line) read.0 read.1) (ltb-true before MAX_ROWS few.0) (room_is (cells_of read.0) room cells.0 cells.1) others.1 others.2

-- no line, or the nothing after the last line end
last_ok : (columns : List Column) (before room : ℕ) (rest : List ℕ) (rows : List (List Value)) → rows_of_lines columns before room (rest ∷ []) ≡ Ok rows → (length rest ≡ 0) × (rows ≡ [])
unfolding rows_of_lines
last_ok columns before room rest rows e =
    let blank = passed (eqb (length rest) 0) _ _ rows e in
    (eqb-true (length rest) 0 blank.0, let is : Ok [] ≡ Ok rows = blank.1 in cc)

none_ok : (columns : List Column) (before room : ℕ) (rows : List (List Value)) → rows_of_lines columns before room [] ≡ Ok rows → rows ≡ []
unfolding rows_of_lines
none_ok columns before room rows e = cc

-- ---- each row

pub all_rows : (L : List ℕ → Type 0) (P : List Value → Type 0) (columns : List Column) → ((line : List ℕ) (values : List Value) → L line → row_of columns line ≡ Ok values → P values)
    → (texts : List (List ℕ)) → All L texts → (before room : ℕ) (rows : List (List Value)) → rows_of_lines columns before room texts ≡ Ok rows → All P rows
all_rows L P columns each [] are before room rows e = subst (All P) (sym (none_ok columns before room rows e)) (All-nil P)
all_rows L P columns each (rest ∷ []) are before room rows e = subst (All P) (sym (last_ok columns before room rest rows e).1) (All-nil P)
all_rows L P columns each (line ∷ next ∷ more) are before room rows e =
    elim (step_of columns before room line next more rows e) [
      | step values left others read few cells more_read is ↦
          let first = each line values (All-head L line (next ∷ more) are) read in
          subst (All P) (sym is) (All-cons P values others first (all_rows L P columns each (next ∷ more) (All-tail L line (next ∷ more) are) (before + 1) left others more_read))
    ]

-- ---- how many rows

few_rows_of : (columns : List Column) (texts : List (List ℕ)) (before room : ℕ) (rows : List (List Value)) → before ≤ MAX_ROWS → rows_of_lines columns before room texts ≡ Ok rows → before + length rows ≤ MAX_ROWS
few_rows_of columns [] before room rows le e = omega (arith, ap length (none_ok columns before room rows e))
few_rows_of columns (rest ∷ []) before room rows le e = omega (arith, ap length (last_ok columns before room rest rows e).1)
few_rows_of columns (line ∷ next ∷ more) before room rows le e =
    elim (step_of columns before room line next more rows e) [
      | step values left others read few cells more_read is ↦
          omega (arith, few_rows_of columns (next ∷ more) (before + 1) left others (omega (arith, few)) more_read, ap length is)
    ]

-- ---- how many cells

values_length : (columns : List Column) (texts : List (List ℕ)) (values : List Value) → length texts ≡ length columns → field_values columns texts ≡ Ok values → length values ≡ length columns
unfolding field_values
values_length [] texts values is e = let none : Ok [] ≡ Ok values = e in let empty : [] ≡ values = cc in ap length (sym empty)
values_length (column ∷ columns) [] values is e = absurd (omega (arith, is))
values_length (column ∷ columns) (text ∷ texts) values is e =
    let first = then_ok (field_of column.ty text) _ values e in
    let others = onto_ok first.0 (field_values columns texts) values first.2 in
    ap length others.2 ∙ ap suc (values_length columns texts others.0 (omega (arith, is)) others.1)

row_length : (columns : List Column) (line : List ℕ) (values : List Value) → row_of columns line ≡ Ok values → length values ≡ length columns
unfolding row_of
row_length columns line values e =
    let counted = passed (eqb (length (line_fields line)) (length columns)) Columns (field_values columns (line_fields line)) values e in
    values_length columns (line_fields line) values (eqb-true (length (line_fields line)) (length columns) counted.0) counted.1

times_more : (a b : ℕ) → suc a * b ≡ b + a * b
times_more a b = omega arith

pub cells_more : (columns : List Column) (values : List Value) (others : List (List Value)) → length values ≡ length columns → cell_count columns (values ∷ others) ≡ cells_of values + cell_count columns others
cells_more columns values others is =
    omega (arith, sum_by-cons (λ row. sum_by element_count row) values others, times_more (length others) (length columns), is)

few_cells_of : (columns : List Column) (texts : List (List ℕ)) (before room : ℕ) (rows : List (List Value)) → rows_of_lines columns before room texts ≡ Ok rows → cell_count columns rows ≤ room
few_cells_of columns [] before room rows e = rw (none_ok columns before room rows e) (omega arith)
few_cells_of columns (rest ∷ []) before room rows e = rw (last_ok columns before room rest rows e).1 (omega arith)
few_cells_of columns (line ∷ next ∷ more) before room rows e =
    elim (step_of columns before room line next more rows e) [
      | step values left others read few cells more_read is ↦
          omega (arith, ap (cell_count columns) is, cells_more columns values others (row_length columns line values read), few_cells_of columns (next ∷ more) (before + 1) left others more_read, cells)
    ]

-- ---- some row

some_rows_of : (columns : List Column) (texts : List (List ℕ)) (before room : ℕ) (rows : List (List Value)) → rows_of_lines columns before room texts ≡ Ok rows → rows ≡ [] → join_with_byte LINE_END texts ≡ []
some_rows_of columns [] before room rows e none = refl
some_rows_of columns (rest ∷ []) before room rows e none = nil_from_length rest (last_ok columns before room rest rows e).0
some_rows_of columns (line ∷ next ∷ more) before room rows e none =
    elim (step_of columns before room line next more rows e) [
      | step values left others read few cells more_read is ↦ let bad : values ∷ others ≡ [] = sym is ∙ none in cc
    ]

-- ---- of a text

pub few_rows : (columns : List Column) (text : List ℕ) (rows : List (List Value)) → rows_reading columns text ≡ Ok rows → length rows ≤ MAX_ROWS
unfolding rows_reading
few_rows columns text rows e = omega (arith, few_rows_of columns (lines text) 0 MAX_CELLS rows (omega arith) e)

pub few_cells : (columns : List Column) (text : List ℕ) (rows : List (List Value)) → rows_reading columns text ≡ Ok rows → cell_count columns rows ≤ MAX_CELLS
unfolding rows_reading
few_cells columns text rows e = few_cells_of columns (lines text) 0 MAX_CELLS rows e

pub some_rows : (columns : List Column) (text : List ℕ) (rows : List (List Value)) → rows_reading columns text ≡ Ok rows → text ≢ [] → rows ≢ []
unfolding rows_reading
some_rows columns text rows e some none = some (sym (join_with_byte-slice_split LINE_END text) ∙ some_rows_of columns (lines text) 0 MAX_CELLS rows e none)
