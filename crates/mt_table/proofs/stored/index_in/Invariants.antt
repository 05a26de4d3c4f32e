use Rattle.std.proofs.Common.{◌≡◌, ◌+◌, drop}
use Rattle.mt_table.specs.Stored.{index_in}
use Rattle.mt_table.proofs.stored.index_in.Given as goal

-- what is left decides
abbrev pub invariant-loop-place : goal.invariant-loop-place
invariant-loop-place l = index_in (drop l.place l.columns) l.column + l.place ≡ index_in l.columns l.column
