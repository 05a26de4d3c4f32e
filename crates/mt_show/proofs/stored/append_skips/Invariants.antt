use Rattle.std.proofs.Common.{◌≡◌, ◌++◌, drop}
use Rattle.mt_show.specs.Text.{pair_lines, skip_line}
use Rattle.mt_show.proofs.stored.append_skips.Given as goal

-- the lines so far and of what is left
abbrev pub invariant-loop-place : goal.invariant-loop-place
invariant-loop-place l = l.out ++ pair_lines skip_line (drop l.place l.skips) (drop l.place l.there) ≡ l.initial.out ++ pair_lines skip_line l.skips l.there
