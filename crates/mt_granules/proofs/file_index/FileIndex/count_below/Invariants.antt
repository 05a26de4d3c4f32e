use Rattle.std.proofs.Common.{◌-◌}
use Rattle.mt_granules.specs.FileOrder.{referenced_files}
use Rattle.mt_granules.proofs.FileLemmas.{IsBetween}
use Rattle.mt_granules.proofs.file_index.FileIndex.count_below.Given as goal

abbrev pub invariant-loop-low : goal.invariant-loop-low
invariant-loop-low l = IsBetween l.name (referenced_files l.self.sorted.items) l.low l.high

abbrev pub decreases-loop-low : goal.decreases-loop-low
decreases-loop-low l = l.high - l.low
