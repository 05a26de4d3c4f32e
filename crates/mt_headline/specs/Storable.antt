-- Rows of which a command makes a part: docs/CLI.md, "write" and "merge".
use Rattle.std.specs.Prelude.{◌≡◌, ◌≢◌, ◌≤◌, List, [], length, All, Ok}
use Rattle.mt_table.specs.declared.definition.Table.{Table}
use Rattle.mt_table.specs.declared.limits.TheConstants.{MAX_ROWS, MAX_CELLS}
use Rattle.mt_defs.specs.Partition.{HaveOnePartition}
use Rattle.mt_defs.specs.Rows.{Row, RowFits, cell_count}
use Rattle.mt_command.specs.Targets.{few_cells}

-- rows of a table, in any order, of one partition and within the limits, those on its projections included
pub record AreStorable (table : Table) (rows : List Row) : Type 0 where
  pub not_empty : rows ≢ []
  pub fit : All (RowFits table.columns) rows
  pub row_limit : length rows ≤ MAX_ROWS
  pub cell_limit : cell_count table.columns rows ≤ MAX_CELLS
  pub projection_limit : few_cells table rows ≡ Ok tt
  pub one_partition : HaveOnePartition table rows
