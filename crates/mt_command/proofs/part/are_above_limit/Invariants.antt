use Rattle.std.proofs.Common.{◌≡◌, ◌^◌, ◌-◌, min, take}
use Rattle.mt_command.specs.Parts.{listed_bytes}
use Rattle.mt_command.proofs.part.are_above_limit.Given as goal

abbrev pub invariant-loop-entry : goal.invariant-loop-entry
invariant-loop-entry l = l.bytes ≡ min (listed_bytes (take l.entry-index l.listing)) (2 ^ 64 - 1)
