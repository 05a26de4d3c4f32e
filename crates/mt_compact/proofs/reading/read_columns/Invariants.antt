use Rattle.std.proofs.Common.{◌+◌, take}
use Rattle.std.specs.Prelude.{All}
use Rattle.std.specs.List.{enumerate_from}
use Rattle.mt_defs.specs.Rows.{RowFits}
use Rattle.mt_granules.specs.PayloadView.{payloads_in}
use Rattle.mt_compact.proofs.ReadingLemmas.{IsReadSoFar}
use Rattle.mt_compact.proofs.reading.read_columns.Given as goal

abbrev pub invariant-loop-other_index : goal.invariant-loop-other_index
invariant-loop-other_index l = record {
  read : IsReadSoFar l.width (payloads_in l.payloads) l.count (take (l.other_index + 1) (enumerate_from 0 l.columns)) l.rows.items;
  fit : All (RowFits (take (l.other_index + 1) l.columns)) l.rows.items;
}
