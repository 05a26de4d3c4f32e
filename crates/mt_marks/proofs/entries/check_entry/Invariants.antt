use Rattle.std.proofs.Common.{◌≡◌, drop}
use Rattle.mt_marks.specs.MarkReading.{last_reading}
use Rattle.mt_marks.proofs.entries.check_entry.Given as goal

abbrev pub invariant-loop-mark : goal.invariant-loop-mark
invariant-loop-mark l = last_reading l.frames l.last l.before (drop l.mark-index l.entry) ≡ last_reading l.frames l.last l.fn.former l.entry
