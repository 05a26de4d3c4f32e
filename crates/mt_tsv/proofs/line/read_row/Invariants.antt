use Rattle.std.proofs.Common.{◌≡◌, ◌+◌, drop, length}
use Rattle.std.specs.Option.{option_copied}
use Rattle.mt_tsv.specs.declared.ascii.TheConstants.{TAB}
use Rattle.mt_tsv.specs.Reading.{parts, line_fields, field_values}
use Rattle.mt_tsv.proofs.Prefixes.{with_prefix}
use Rattle.mt_tsv.proofs.line.read_row.Given as goal

abbrev pub invariant-loop-column : goal.invariant-loop-column
invariant-loop-column l = record {
  so_far : with_prefix l.row (field_values (drop l.column-index l.columns) (parts TAB (option_copied l.rest))) ≡ field_values l.columns (line_fields l.line);
  count : length (line_fields l.line) ≡ l.column-index + length (parts TAB (option_copied l.rest));
}
