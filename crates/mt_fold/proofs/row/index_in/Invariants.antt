use Rattle.std.proofs.Common.{◌≡◌, ◌+◌, drop}
use Rattle.mt_table.specs.Stored.{index_in}
use Rattle.mt_fold.proofs.row.index_in.Given as goal

-- so many were passed, and what is left decides
abbrev pub invariant-loop-index : goal.invariant-loop-index
invariant-loop-index l = index_in l.columns l.column ≡ l.index + index_in (drop l.index l.columns) l.column
