-- Storable rows are writable in key order.
use Rattle.std.proofs.Common.{◌≡◌, ◌≤◌, false, List, get_or, arith}
use Rattle.std.specs.Prelude.{All}
use Rattle.std.specs.List.{list_any}
use Rattle.mt_facts.proofs.Lists.{none_passes}
use Rattle.mt_table.specs.declared.definition.Table.{Table}
use Rattle.mt_table.specs.declared.limits.TheConstants.{MAX_CELLS}
use Rattle.mt_defs.specs.Rows.{Row, RowFits, cell_count}
use Rattle.mt_defs.specs.Sorting.{sorted_rows}
use Rattle.mt_defs.specs.Writer.{IsWritable}
use Rattle.mt_defs.proofs.Sorted.{IsSorted-sorted_rows, All-sorted_rows, cell_count-sorted_rows, length-sorted_rows, some_sorted_rows}
use Rattle.mt_defs.proofs.PartitionLemmas.{sorted_one}
use Rattle.mt_law_written.proofs.FolderLemmas.{rules_of}
use Rattle.mt_command.specs.Targets.{has_many_cells}
use Rattle.mt_command.proofs.ProjectionParts.{projection_part}
use Rattle.mt_headline.specs.Storable.{AreStorable}
use Rattle.mt_headline.proofs.SizeLemmas.{ok_of}

few_each : (table : Table) (rows : List Row) → AreStorable table rows → All (λ projection. has_many_cells table rows projection ≡ false) table.projections
few_each table rows are = none_passes (has_many_cells table rows) table.projections (ok_of (list_any (has_many_cells table rows) table.projections) _ tt are.projection_limit)

pub rows_writable : (table : Table) (rows : List Row) → AreStorable table rows → IsWritable table (sorted_rows table.sort rows)
rows_writable table rows are =
    let some = are.not_empty in
    let fit : All (RowFits table.columns) rows = are.fit in
    let sorted_fit = All-sorted_rows (RowFits table.columns) table.sort rows fit in
    let few_rows = are.row_limit in
    let few_cells = are.cell_limit in
    let count = length-sorted_rows table.sort rows in
    let cells = cell_count-sorted_rows table.columns table.sort rows in
    let sorted_few : cell_count table.columns (sorted_rows table.sort rows) ≤ MAX_CELLS = omega (arith, cells, few_cells) in
    let keeps = (rules_of table).projections.each in
    let few = few_each table rows are in
    record {
      part_rows = record {
        not_empty = some_sorted_rows table.sort rows some;
        fit = sorted_fit;
        ordered = IsSorted-sorted_rows table.sort rows;
        few_rows = omega (arith, count, few_rows);
        few_cells = sorted_few;
      };
      one_partition = sorted_one table rows are.one_partition;
      projections = λ k d h. projection_part table (get_or table.projections k d) rows (keeps k d h) fit sorted_fit some few_rows sorted_few (few k d h);
    }
