use Rattle.std.proofs.Common.{◌≡◌, ◌+◌, drop}
use Rattle.mt_writing.specs.Partitions.{other_line}
use Rattle.mt_writing.proofs.partition.other_line.Given as goal

-- what is left decides
abbrev pub invariant-loop-i : goal.invariant-loop-i
invariant-loop-i l = other_line l.table l.first (l.i + 1) (drop l.i l.rows) ≡ other_line l.table l.first 1 l.rows
