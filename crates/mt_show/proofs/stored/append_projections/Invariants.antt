use Rattle.std.proofs.Common.{◌≡◌, ◌++◌, drop}
use Rattle.mt_show.specs.Text.{pair_lines, projection_line}
use Rattle.mt_show.proofs.stored.append_projections.Given as goal

-- the lines so far and of what is left
abbrev pub invariant-loop-place : goal.invariant-loop-place
invariant-loop-place l =
    l.out ++ pair_lines projection_line (drop l.place l.projections) (drop l.place l.sizes) ≡ l.initial.out ++ pair_lines projection_line l.projections l.sizes
