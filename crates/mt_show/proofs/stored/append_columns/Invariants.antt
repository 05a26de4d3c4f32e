use Rattle.std.proofs.Common.{◌≡◌, ◌++◌, take}
use Rattle.mt_show.specs.Text.{shown_columns}
use Rattle.mt_show.proofs.stored.append_columns.Given as goal

-- the lines so far
abbrev pub invariant-loop-place : goal.invariant-loop-place
invariant-loop-place l = l.out ≡ l.initial.out ++ shown_columns l.columns (take l.place-index l.order)
