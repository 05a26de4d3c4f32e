use Rattle.std.proofs.Common.{◌≡◌, ◌≤◌, length}
use Rattle.mt_table.specs.declared.limits.TheConstants.{MAX_ROWS}
use Rattle.mt_tsv.specs.Reading.{lines, rows_of_lines, rows_reading}
use Rattle.mt_tsv.proofs.Prefixes.{with_prefix}
use Rattle.mt_tsv.proofs.rows.read_rows.Given as goal

abbrev pub invariant-lines : goal.invariant-lines
invariant-lines l = record {
  so_far : with_prefix l.rows (rows_of_lines l.fn.table.columns (length l.rows) l.room (lines l.rest)) ≡ rows_reading l.fn.table.columns l.fn.text;
  columns : l.columns ≡ l.fn.table.columns;
  within : length l.rows ≤ MAX_ROWS;
}

abbrev pub decreases-lines : goal.decreases-lines
decreases-lines l = length l.rest
