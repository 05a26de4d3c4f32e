-- The room that rows leave of the limits on a part.
use Rattle.std.proofs.Common.{◌≡◌, ℕ, ◌+◌, ◌-◌, ◌*◌, ◌≤◌, Bool, true, false, ltb, Some, None, List, [], ◌∷◌, ◌++◌, length, All, Result, Ok, Err, if◌then◌else◌, refl, sym, ap, ap₂, add-mul, suc-mul, zero-mul, ◌∙◌, arith, inl, inr}
use Rattle.std.specs.Prelude.{nat_le, nat_lt}
use Rattle.std.specs.List.{sum_by}
use Rattle.std.proofs.lemmas.Bool.{cases_Bool, leb-true, leb-false, ltb-true, ltb-false, lt-ltb, le-ltb}
use Rattle.std.proofs.lemmas.List.{length-append}
use Rattle.std.proofs.lemmas.List.Elements.{All-head, All-tail}
use Rattle.std.proofs.lemmas.List.Sums.{sum_by-append, sum_by-cons}
use Rattle.mt_table.specs.declared.column.Column.{Column}
use Rattle.mt_table.specs.declared.definition.Table.{Table}
use Rattle.mt_table.specs.declared.limits.TheConstants.{MAX_ROWS, MAX_CELLS}
use Rattle.mt_table.specs.Rows.{RowFits, cell_count, element_count}
use Rattle.mt_tsv.specs.Cells.{cells_of, room_after}
use Rattle.mt_defs.specs.Rows.{Row}
use Rattle.mt_defs.proofs.RowLemmas.{row_length}
use Rattle.mt_command.specs.declared.status.What.TheVariants as what
use Rattle.mt_command.specs.declared.status.Status.{Status}
use Rattle.mt_command.specs.declared.status.Status.TheVariants.{TooMuch}
use Rattle.mt_merging.specs.Rooms.{LeaveRoom, have_room, within_limits}
use Rattle.mt_merging.specs.declared.room.Room.{Room}

-- one more row of so many columns
cells_more : (columns : List Column) (row : Row) (rows : List Row) → length row ≡ length columns → cell_count columns (row ∷ rows) ≡ cells_of row + cell_count columns rows
cells_more columns row rows long =
    let elements = sum_by-cons (λ values. sum_by element_count values) row rows in
    let rest = suc-mul (length rows) (length columns) in
    omega (arith, elements, rest, long)

-- the cells of rows that fit, row by row
pub cells_by_row : (columns : List Column) (rows : List Row) → All (RowFits columns) rows → sum_by cells_of rows ≡ cell_count columns rows
cells_by_row columns [] fit = nothing (length columns)
  where
    nothing : (n : ℕ) → 0 ≡ 0 * n + 0
    nothing n = let none = zero-mul n in omega (arith, none)
cells_by_row columns (row ∷ rows) fit =
    sum_by-cons cells_of row rows
    ∙ ap (λ n. cells_of row + n) (cells_by_row columns rows (All-tail (RowFits columns) row rows fit))
    ∙ sym (cells_more columns row rows (row_length columns row (All-head (RowFits columns) row rows fit)))

-- the cells of rows after others
pub cells_after : (columns : List Column) (xs ys : List Row) → cell_count columns (xs ++ ys) ≡ cell_count columns xs + cell_count columns ys
cells_after columns xs ys =
    let elements : Row → ℕ = λ row. sum_by element_count row in
    let long : length (xs ++ ys) * length columns ≡ length xs * length columns + length ys * length columns = ap (λ n. n * length columns) (length-append xs ys) ∙ spread (length xs) (length ys) (length columns) in
    let all = sum_by-append elements xs ys in
    omega (arith, long, all)
  where
    spread : (a b n : ℕ) → (a + b) * n ≡ a * n + b * n
    spread a b n = add-mul a b n

-- a limit that is passed beside others
passes : (room others limit more : ℕ) → room + others ≡ limit → nat_lt room more ≡ nat_lt limit (others + more)
passes room others limit more is =
    elim (cases_Bool (ltb room more)) [
      | inl above ↦ above ∙ sym (lt-ltb limit (others + more) (omega (arith, is, ltb-true room more above)))
      | inr within ↦ within ∙ sym (le-ltb limit (others + more) (omega (arith, is, ltb-false room more within)))
    ]

-- rows after others are within the limits where they have the room that the others leave
pub limits_after : (table : Table) (others rows : List Row) (room : Room) → LeaveRoom table others room
    → have_room (length rows) (cell_count table.columns rows) room.rows room.cells ≡ within_limits table (others ++ rows)
limits_after table others rows room left =
    let row_test : nat_lt room.rows (length rows) ≡ nat_lt MAX_ROWS (length (others ++ rows)) =
    passes room.rows (length others) MAX_ROWS (length rows) left.rows_left ∙ ap (λ n. nat_lt MAX_ROWS n) (sym (length-append others rows)) in
    let cell_test : nat_lt room.cells (cell_count table.columns rows) ≡ nat_lt MAX_CELLS (cell_count table.columns (others ++ rows)) =
    passes room.cells (cell_count table.columns others) MAX_CELLS (cell_count table.columns rows) left.cells_left ∙ ap (λ n. nat_lt MAX_CELLS n) (sym (cells_after table.columns others rows)) in
    ap₂ chosen row_test cell_test
  where
    chosen : Bool → Bool → Result Unit Status
    chosen rows_pass cells_pass = if rows_pass then Err (TooMuch what.Rows MAX_ROWS) else if cells_pass then Err (TooMuch what.Cells MAX_CELLS) else Ok tt

-- what is left beside others
pub room_after_others : (table : Table) (others rows : List Row) (room left : Room) → LeaveRoom table others room
    → left.rows + length rows ≡ room.rows → left.cells + cell_count table.columns rows ≡ room.cells → LeaveRoom table (others ++ rows) left
room_after_others table others rows room left before row_room cell_room =
    let row_sum = before.rows_left in
    let cell_sum = before.cells_left in
    let long = length-append others rows in
    let cells = cells_after table.columns others rows in
    record {
      rows_left = omega (arith, row_sum, row_room, long);
      cells_left = omega (arith, cell_sum, cell_room, cells);
    }

-- rows with room are within the limit on cells
pub cells_within : (table : Table) (rows : List Row) (room : Room) → LeaveRoom table rows room → cell_count table.columns rows ≤ MAX_CELLS
cells_within table rows room left = let sum = left.cells_left in omega (arith, sum)

-- ---- the room that is left

-- rows and cells that have room
room_left : (cells room left : ℕ) (fits : Bool) → nat_le cells room ≡ fits → room_after cells room ≡ Some left → (nat_lt room cells ≡ false) × (left + cells ≡ room)
room_left cells room left true is e =
    let some : room_after cells room ≡ Some (room - cells) = rw is refl in
    let both : Some (room - cells) ≡ Some left = sym some ∙ e in
    let same : room - cells ≡ left = cc in
    let within = leb-true cells room is in
    (le-ltb room cells within, omega (arith, within, same))
room_left cells room left false is e =
    let none : room_after cells room ≡ None = rw is refl in
    let both : None ≡ Some left = sym none ∙ e in
    cc

no_room : (cells room : ℕ) (fits : Bool) → nat_le cells room ≡ fits → room_after cells room ≡ None → nat_lt room cells ≡ true
no_room cells room true is e =
    let some : room_after cells room ≡ Some (room - cells) = rw is refl in
    let both : Some (room - cells) ≡ None = sym some ∙ e in
    cc
no_room cells room false is e = lt-ltb room cells (leb-false cells room is)

pub all_have_room : (columns : List Column) (rows : List Row) (row_room cell_room left : ℕ) → All (RowFits columns) rows → length rows ≤ row_room → room_after (sum_by cells_of rows) cell_room ≡ Some left
    → (have_room (length rows) (cell_count columns rows) row_room cell_room ≡ Ok tt) × (left + cell_count columns rows ≡ cell_room)
all_have_room columns rows row_room cell_room left fit few e =
    let here : room_after (cell_count columns rows) cell_room ≡ Some left = ap (λ n. room_after n cell_room) (sym (cells_by_row columns rows fit)) ∙ e in
    let both = room_left (cell_count columns rows) cell_room left (nat_le (cell_count columns rows) cell_room) refl here in
    let row_test = le-ltb row_room (length rows) few in
    let cell_test = both.0 in
    (rw (row_test, cell_test) refl, both.1)

pub cells_have_no_room : (columns : List Column) (rows : List Row) (row_room cell_room : ℕ) → All (RowFits columns) rows → length rows ≤ row_room → room_after (sum_by cells_of rows) cell_room ≡ None
    → have_room (length rows) (cell_count columns rows) row_room cell_room ≡ Err (TooMuch what.Cells MAX_CELLS)
cells_have_no_room columns rows row_room cell_room fit few e =
    let here : room_after (cell_count columns rows) cell_room ≡ None = ap (λ n. room_after n cell_room) (sym (cells_by_row columns rows fit)) ∙ e in
    let cell_test = no_room (cell_count columns rows) cell_room (nat_le (cell_count columns rows) cell_room) refl here in
    let row_test = le-ltb row_room (length rows) few in
    rw (row_test, cell_test) refl
