use Rattle.std.proofs.Common.{◌≡◌, ◌-◌, [], take, drop}
use Rattle.mt_defs.specs.WrittenGranules.{granules_from, is_full}
use Rattle.mt_plain.proofs.granules.first_granule.Given as goal

abbrev pub invariant-loop-count : goal.invariant-loop-count
invariant-loop-count l =
    granules_from (is_full l.table.settings l.table.columns) [] l.rows ≡ granules_from (is_full l.table.settings l.table.columns) (take (l.count - 1) l.rows) (drop (l.count - 1) l.rows)
