-- An input beside those before it.
use Rattle.std.proofs.Common.{◌≡◌, ◌≢◌, List, [], ◌∷◌, ◌++◌, length, All, Ok, Err, refl, sym, ap, ◌∙◌, subst, arith}
use Rattle.std.specs.Prelude.{◌+◌, Contains}
use Rattle.std.proofs.lemmas.List.Elements.{All-nil, All-cons, All-append}
use Rattle.mt_table.specs.declared.definition.Table.{Table}
use Rattle.mt_defs.specs.Partition.{HaveOnePartition}
use Rattle.mt_defs.specs.Rows.{Row, RowFits, cell_count}
use Rattle.mt_command.specs.declared.status.Status.{Status}
use Rattle.mt_merging.specs.Inputs.{AreInputs, all_rows, inputs_partition, with_input}
use Rattle.mt_merging.specs.Rooms.{LeaveRoom, have_room, within_limits}
use Rattle.mt_merging.specs.declared.room.Room.{Room}
use Rattle.mt_merging.proofs.RoomLemmas.{cells_within, limits_after, room_after_others}
use Rattle.mt_merging.proofs.RowLemmas.{all_rows_push, joined_one}

-- what the room says of the limits
limits_push : (table : Table) (read : List (List Row)) (rows : List Row) (room : Room) → LeaveRoom table (all_rows read) room
    → have_room (length rows) (cell_count table.columns rows) room.rows room.cells ≡ within_limits table (all_rows (read ++ rows ∷ []))
limits_push table read rows room left = limits_after table (all_rows read) rows room left ∙ ap (within_limits table) (sym (all_rows_push read rows))

-- ---- refusals

pub other_refused : (table : Table) (read : List (List Row)) (rows : List Row) (status : Status) → inputs_partition table read rows ≡ Err status → with_input table read rows ≡ Err status
other_refused table read rows status refused = rw refused refl

pub limit_refused : (table : Table) (read : List (List Row)) (rows : List Row) (room : Room) (status : Status) → LeaveRoom table (all_rows read) room → inputs_partition table read rows ≡ Ok tt
    → have_room (length rows) (cell_count table.columns rows) room.rows room.cells ≡ Err status → with_input table read rows ≡ Err status
limit_refused table read rows room status left one refused =
    let limits : within_limits table (all_rows (read ++ rows ∷ [])) ≡ Err status = sym (limits_push table read rows room left) ∙ refused in
    rw (one, limits) refl

-- ---- an input that is added

pub input_added : (table : Table) (read : List (List Row)) (rows : List Row) (room : Room) → LeaveRoom table (all_rows read) room → inputs_partition table read rows ≡ Ok tt
    → have_room (length rows) (cell_count table.columns rows) room.rows room.cells ≡ Ok tt → with_input table read rows ≡ Ok (read ++ rows ∷ [])
input_added table read rows room left one there =
    let limits : within_limits table (all_rows (read ++ rows ∷ [])) ≡ Ok tt = sym (limits_push table read rows room left) ∙ there in
    rw (one, limits) refl

pub room_added : (table : Table) (read : List (List Row)) (rows : List Row) (room left : Room) → LeaveRoom table (all_rows read) room
    → left.rows + length rows ≡ room.rows → left.cells + cell_count table.columns rows ≡ room.cells → LeaveRoom table (all_rows (read ++ rows ∷ [])) left
room_added table read rows room left before row_room cell_room =
    subst (λ all. LeaveRoom table all left) (sym (all_rows_push read rows)) (room_after_others table (all_rows read) rows room left before row_room cell_room)

pub inputs_added : (table : Table) (read : List (List Row)) (rows : List Row) (left : Room) → AreInputs table read → rows ≢ [] → All (RowFits table.columns) rows → HaveOnePartition table rows
    → inputs_partition table read rows ≡ Ok tt → LeaveRoom table (all_rows (read ++ rows ∷ [])) left → AreInputs table (read ++ rows ∷ [])
inputs_added table read rows left are there fit one passed room =
    let Some : List Row → Type 0 = λ input. input ≢ [] in
    let Fit : List Row → Type 0 = λ input. All (RowFits table.columns) input in
    record {
      some = All-append Some read (rows ∷ []) are.some (All-cons Some rows [] there (All-nil Some));
      fit = All-append Fit read (rows ∷ []) are.fit (All-cons Fit rows [] fit (All-nil Fit));
      one_partition = subst (HaveOnePartition table) (sym (all_rows_push read rows)) (joined_one table read rows are.some there are.one_partition one passed);
      few_cells = cells_within table (all_rows (read ++ rows ∷ [])) left room;
    }

-- before the first input
pub no_inputs : (table : Table) → AreInputs table []
no_inputs table = record {
  some = All-nil (λ (rows : List Row). rows ≢ []);
  fit = All-nil (λ (rows : List Row). All (RowFits table.columns) rows);
  one_partition = λ a b in_none also. absurd (nowhere a in_none);
  few_cells = omega arith;
}
  where
    nowhere : (a : Row) → Contains [] a → ⊥
    nowhere a in_none = let inside = in_none.1 in omega (arith, inside)
