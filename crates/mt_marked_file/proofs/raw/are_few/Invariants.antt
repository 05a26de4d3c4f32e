use Rattle.std.proofs.Common.{◌≡◌, drop}
use Rattle.std.specs.Prelude.{nat_le, sum}
use Rattle.mt_table.specs.declared.limits.TheConstants.{MAX_ROWS}
use Rattle.mt_marked_file.proofs.raw.are_few.Given as goal

abbrev pub invariant-loop-count : goal.invariant-loop-count
invariant-loop-count l = nat_le (sum (drop l.count-index l.counts)) l.left ≡ nat_le (sum l.counts) MAX_ROWS
