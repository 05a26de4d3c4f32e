use Rattle.std.proofs.Common.{◌≡◌, drop}
use Rattle.mt_shelf.specs.Files.{entries_below}
use Rattle.mt_shelf.specs.Held.{files_in}
use Rattle.mt_shelf.proofs.entries.entries_below.Given as goal

abbrev pub invariant-loop-i : goal.invariant-loop-i
invariant-loop-i l = l.entries.items ≡ entries_below l.part (files_in (drop l.i l.held))
