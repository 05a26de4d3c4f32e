-- Reading the columns of a Compact part one after another.
use Rattle.std.proofs.Common.{◌≡◌, ℕ, ◌+◌, ◌<◌, ◌≤◌, List, [], ◌∷◌, ◌++◌, length, map, take, get_or, refl, ap, sym, ◌∙◌, subst}
use Rattle.std.specs.Prelude.{Ok, sum}
use Rattle.std.specs.List.{enumerate_from}
use Rattle.std.proofs.lemmas.List.{map-append}
use Rattle.mt_types.specs.declared.value.Value.{Value}
use Rattle.mt_types.specs.Steps.{◌>>=◌}
use Rattle.mt_types.proofs.StepLemmas.{then_of}
use Rattle.mt_table.specs.declared.column.Column.{Column}
use Rattle.mt_defs.specs.Folder.{Folder}
use Rattle.mt_defs.specs.Rows.{Row}
use Rattle.mt_defs.specs.Compact.{compact_data_name, compact_marks_name}
use Rattle.mt_fault.specs.Faults.{Judged}
use Rattle.mt_granules.specs.FileFaults.{in_order}
use Rattle.mt_granules.specs.PayloadReading.{GranulePayloads, granules_reading}
use Rattle.mt_granules.specs.ColumnRows.{all_values, rows_of, with_column}
use Rattle.mt_granules.proofs.OrderLemmas.{numbered_continues, numbered_ends, order_next}
use Rattle.mt_granules.proofs.RowLemmas.{column_added, length-rows_of}
use Rattle.mt_granules.proofs.LayoutLemmas.{values_fit}
use Rattle.mt_compact.specs.CompactReading.{compact_column_reading, compact_reading, compact_rows_reading}

-- the columns before are read, and the rows have their values
pub record IsReadSoFar (width : ℕ) (read : GranulePayloads) (count : ℕ) (columns : List (ℕ × Column)) (rows : List Row) : Type 0 where
  pub values : List (List (List Value))
  pub so_far : in_order (compact_column_reading width read) columns ≡ Ok values
  pub rows_are : rows ≡ rows_of count (map all_values values)

pub first_read : (width : ℕ) (read : GranulePayloads) (count : ℕ) (columns others : List Column) (column : Column) (rows : List Row) (values : List (List Value)) → columns ≡ column ∷ others → compact_column_reading width read (0, column) ≡ Ok values
    → rows ≡ rows_of count (all_values values ∷ []) → IsReadSoFar width read count (take 1 (enumerate_from 0 columns)) rows
first_read width read count columns others column rows values split here is =
    let step = compact_column_reading width read in
    record { values = values ∷ []; so_far = ap (λ (cs : List Column). in_order step (take 1 (enumerate_from 0 cs))) split ∙ order_next step (0, column) [] values [] here refl; rows_are = is }

pub rows_many : (width : ℕ) (read : GranulePayloads) (count : ℕ) (columns : List (ℕ × Column)) (rows : List Row) → IsReadSoFar width read count columns rows → length rows ≡ count
rows_many width read count columns rows had = ap (λ (l : List Row). length l) had.rows_are ∙ length-rows_of count (map all_values had.values)

pub column_read : (width : ℕ) (read : GranulePayloads) (count : ℕ) (columns : List Column) (i : ℕ) (column : Column) (rows new : List Row) (values : List (List Value)) → i < length columns → column ≡ get_or columns i column
    → compact_column_reading width read (i, column) ≡ Ok values → map (λ (h : List Value). length h) values ≡ read.granules → sum read.granules ≡ count → new ≡ with_column rows (all_values values)
    → IsReadSoFar width read count (take i (enumerate_from 0 columns)) rows → IsReadSoFar width read count (take (i + 1) (enumerate_from 0 columns)) new
column_read width read count columns i column rows new values h at is each all new_is had = record {
  values = had.values ++ values ∷ [];
  so_far = numbered_continues (compact_column_reading width read) columns i column had.values had.so_far values h at is;
  rows_are = new_is ∙ ap (λ (l : List Row). with_column l (all_values values)) had.rows_are
      ∙ sym (column_added count (map all_values had.values) (all_values values) (values_fit count read.granules values each all))
      ∙ ap (rows_of count) (sym (map-append all_values had.values (values ∷ [])));
}

pub all_read : (read : GranulePayloads) (count width : ℕ) (columns : List Column) (i : ℕ) (column : Column) (rows : List Row) → width ≡ length columns → length columns ≤ i → IsReadSoFar width read count (take i (enumerate_from 0 columns)) rows
    → compact_rows_reading read count columns ≡ Ok rows
all_read read count width columns i column rows width_is h had =
    let ended = numbered_ends (compact_column_reading width read) columns i column had.values had.so_far h in
    then_of (in_order (compact_column_reading (length columns) read) (enumerate_from 0 columns)) had.values (λ values. Ok (rows_of count (map all_values values)))
    (ap (λ (n : ℕ). in_order (compact_column_reading n read) (enumerate_from 0 columns)) (sym width_is) ∙ ended)
    ∙ ap (λ (l : List Row). let r : Judged (List Row) = Ok l in r) (sym had.rows_are)

-- ---- the whole part

pub part_read : (folder given : Folder) (count : ℕ) (columns : List Column) (read : GranulePayloads) (rows shown : List Row) (granules : List ℕ) → folder ≡ given → granules_reading folder count compact_data_name compact_marks_name (length columns) ≡ Ok read
    → compact_rows_reading read count columns ≡ Ok rows → shown ≡ rows → granules ≡ read.granules → compact_reading given count columns ≡ Ok (shown, granules)
part_read folder given count columns read rows shown granules same first all is granules_are =
    subst (λ (f : Folder). compact_reading f count columns ≡ Ok (shown, granules)) same
    (then_of (granules_reading folder count compact_data_name compact_marks_name (length columns)) read (λ read. compact_rows_reading read count columns >>= λ rows. Ok (rows, read.granules)) first
    ∙ then_of (compact_rows_reading read count columns) rows (λ rows. Ok (rows, read.granules)) all
    ∙ ap (λ (l : List Row). let r : Judged (List Row × List ℕ) = Ok (l, read.granules) in r) (sym is) ∙ ap (λ (g : List ℕ). let r : Judged (List Row × List ℕ) = Ok (shown, g) in r) (sym granules_are))
