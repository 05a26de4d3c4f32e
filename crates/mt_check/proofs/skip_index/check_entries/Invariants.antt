use Rattle.std.proofs.Common.{◌≡◌, length, drop}
use Rattle.std.specs.Prelude.{sum}
use Rattle.std.specs.List.{zip}
use Rattle.mt_defs.specs.Granules.{granule_rows}
use Rattle.mt_defs.specs.Rows.{column_values}
use Rattle.mt_skip.specs.Items.{AllFit}
use Rattle.mt_check.specs.FolderChecks.{entries_checks}
use Rattle.mt_files.specs.SkipMarks.{pieces_at}
use Rattle.mt_check.proofs.GroupLemmas.{entries_from}
use Rattle.mt_check.proofs.skip_index.check_entries.Given as goal

-- what is left decides
abbrev pub invariant-loop-index : goal.invariant-loop-index
invariant-loop-index l = record {
  ahead : entries_from l.skip l.ty l.sizes l.entries.payload l.index l.rest l.ahead ≡ entries_checks l.skip l.ty 0 (zip (granule_rows l.sizes l.rows) (pieces_at l.entries.payload l.entries.positions));
  fit : AllFit l.ty (column_values l.skip.column l.rest);
  cut : sum (drop l.index l.sizes) ≡ length l.rest;
}
