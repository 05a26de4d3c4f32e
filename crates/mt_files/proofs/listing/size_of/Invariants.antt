use Rattle.std.proofs.Common.{◌-◌}
use Rattle.mt_files.proofs.ListingLemmas.{Narrowed}
use Rattle.mt_files.proofs.listing.size_of.Given as goal

abbrev pub invariant-loop-low : goal.invariant-loop-low
invariant-loop-low l = Narrowed l.listing l.name l.low l.high

abbrev pub decreases-loop-low : goal.decreases-loop-low
decreases-loop-low l = l.high - l.low
