-- What a definition's folder holds, is read of it.
use Rattle.std.proofs.Common.{◌≡◌, ℕ, suc, ◌+◌, ◌<◌, ◌≤◌, List, length, map, get_or, refl, ap, ◌∙◌, arith}
use Rattle.std.specs.Prelude.{All, IsSorted, None, Ok, Option, nat_le}
use Rattle.std.specs.Fmt.{decimal}
use Rattle.std.specs.Ordering.{is_lt}
use Rattle.std.proofs.lemmas.Bool.{le-leb}
use Rattle.std.proofs.lemmas.List.{length-map}
use Rattle.std.proofs.lemmas.List.Elements.{All-map}
use Rattle.mt_types.proofs.StepLemmas.{require_is}
use Rattle.mt_fault.specs.declared.fault.Why.TheVariants as why
use Rattle.mt_table.specs.declared.definition.PartDef.{PartDef}
use Rattle.mt_table.specs.declared.limits.TheConstants.{MAX_CELLS}
use Rattle.mt_defs.specs.Folder.{Folder}
use Rattle.mt_defs.specs.Metadata.{column_at, columns_text, count_name, no_column}
use Rattle.mt_defs.specs.Part.{HoldsRows}
use Rattle.mt_defs.proofs.ListedColumns.{listed}
use Rattle.mt_defs.specs.Rows.{ArePartRows, Row, cell_count, key_cmp, key_of}
use Rattle.mt_definition.specs.declared.accepted.Accepted.{Accepted}
use Rattle.mt_definition.specs.DataReading.{data_reading}
use Rattle.mt_definition.specs.DefinitionReading.{cells_reading, definition_reading, sort_file, sorted_reading, stored_reading}
use Rattle.mt_fault.specs.Faults.{file_fault, granule_fault}
use Rattle.mt_defs.proofs.RowLemmas.{all_cells_fit, rows_length}
use Rattle.mt_files.specs.Faults.{none_found}
use Rattle.mt_definition.specs.RowsReading.{first_fall, granule_of}
use Rattle.mt_definition.proofs.RowLemmas.{free_of_falls}
use Rattle.mt_definition.proofs.StoredLemmas.{definition_read, stored_read}
use Rattle.mt_definition.proofs.WholeRows.{rows_back}
use Rattle.mt_files.specs.PartTexts.{order_reading}
use Rattle.mt_law_written.proofs.ListLemmas.{some_of}
use Rattle.mt_law_checked.specs.Readable.{HasByteName, IsReadable}
use Rattle.mt_law_checked.proofs.DataLemmas.{CompactIsExact, WideIsExact, read_data}
use Rattle.mt_law_checked.proofs.FileLemmas.{AllLists, CountsAreRead, HasCount, HasOrder, read_count, read_index, read_order}
use Rattle.mt_law_checked.proofs.ReadLemmas.{can_be_read}

-- ---- rows that a part may hold

-- rows in order fall nowhere
no_fall : (sort : List ℕ) (rows : List Row) → IsSorted (key_cmp sort) rows → first_fall sort rows ≡ None
no_fall sort rows sorted =
    free_of_falls sort rows (λ k d inside.
    let next : suc k ≡ k + 1 = omega arith in
    ap (λ i. is_lt (key_cmp sort (get_or rows i d) (get_or rows k d))) next ∙ sorted k d (omega arith) (omega (arith, inside)))

pub cells_pass : (definition : PartDef) (accepted : Accepted) → ArePartRows definition accepted.rows → cells_reading definition accepted ≡ Ok tt
cells_pass definition accepted are = require_is (nat_le (cell_count definition.columns accepted.rows) MAX_CELLS) (file_fault count_name why.TooLong) (le-leb (cell_count definition.columns accepted.rows) MAX_CELLS are.few_cells)

pub order_passes : (definition : PartDef) (folder : Folder) (accepted : Accepted) → ArePartRows definition accepted.rows → sorted_reading definition folder accepted ≡ Ok tt
order_passes definition folder accepted are =
    ap (λ (found : Option ℕ). none_found found (λ row. granule_fault (sort_file definition folder) (granule_of accepted.granules row) why.Sorted)) (no_fall definition.sort accepted.rows are.ordered)

-- ---- the columns that the folder lists

orders_held : (definition : PartDef) (folder : Folder) (rows : List Row) (granules : List ℕ) (held : HoldsRows definition folder rows granules) → HasOrder definition held.order folder
orders_held definition folder rows granules held = record {
  text = columns_text (map (column_at definition.columns) held.order);
  there = held.metadata.lists_columns;
  lists = record { may = held.metadata.listed; listed = refl };
}

known_held : (definition : PartDef) (folder : Folder) (rows : List Row) (granules : List ℕ) (held : HoldsRows definition folder rows granules) → All (λ i. i < length definition.columns) held.order
known_held definition folder rows granules held = (listed definition.columns definition.must held.order held.metadata.listed).known

-- they are what is read of columns.txt
pub order_is_held : AllLists → (definition : PartDef) (folder : Folder) (rows : List Row) (granules : List ℕ) → IsReadable definition → (held : HoldsRows definition folder rows granules) → order_reading definition folder ≡ Ok held.order
order_is_held all definition folder rows granules readable held =
    let known = known_held definition folder rows granules held in
    let named : All HasByteName (map (column_at definition.columns) held.order) = All-map HasByteName (column_at definition.columns) held.order (λ k d inside. readable.named (get_or held.order k d) no_column (known k d inside)) in
    read_order definition folder held.order all readable.listed named (orders_held definition folder rows granules held)

-- ---- the rows

module _ (all : AllLists) (counted : CountsAreRead) (wide_is : WideIsExact) (compact_is : CompactIsExact) (definition : PartDef) (folder : Folder) (readable : IsReadable definition) (accepted : Accepted)
    (held : HoldsRows definition folder accepted.rows accepted.granules) where
  some : 1 ≤ length accepted.rows
  some = some_of accepted.rows held.part_rows.not_empty

  counts : HasCount (length definition.columns) (length accepted.rows) folder
  counts =
      let few = held.part_rows.few_cells in
      record {
        text = decimal (length accepted.rows);
        there = held.metadata.counts_rows;
        counts = record { some = some; few_rows = held.part_rows.few_rows; few_cells = omega (arith, few); decimal = refl };
      }

  stored_is_read : stored_reading definition folder ≡ Ok accepted
  stored_is_read =
      let order = held.order in
      let columns = map (column_at definition.columns) order in
      let rows : List Row = map (key_of order) accepted.rows in
      let known = known_held definition folder accepted.rows accepted.granules held in
      let can = can_be_read definition folder order (length accepted.rows) readable (orders_held definition folder accepted.rows accepted.granules held) some held.part_rows.few_rows in
      let reads : data_reading folder (length accepted.rows) columns ≡ Ok (rows, accepted.granules) = read_data wide_is compact_is folder (length accepted.rows) columns rows accepted.granules can (record {
        many = length-map accepted.rows (key_of order);
        fit = all_cells_fit definition.columns order accepted.rows known held.part_rows.fit;
        layout = held.columns;
      }) in
      stored_read definition folder order (length accepted.rows) columns (rows, accepted.granules) accepted.rows (order_is_held all definition folder accepted.rows accepted.granules readable held) (read_count definition folder (length accepted.rows) counted counts) refl reads
      (rows_back definition.columns order accepted.rows (rows_length definition.columns accepted.rows held.part_rows.fit) held.defaults)

  pub held_rows_are_read : definition_reading definition folder ≡ Ok accepted
  held_rows_are_read =
      definition_read definition folder accepted stored_is_read (cells_pass definition accepted held.part_rows) (order_passes definition folder accepted held.part_rows)
      (read_index definition folder accepted held.part_rows.fit held.index)
