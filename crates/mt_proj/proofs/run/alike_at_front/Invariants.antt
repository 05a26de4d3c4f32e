use Rattle.std.proofs.Common.{◌≡◌, ◌+◌, drop}
use Rattle.mt_sort.specs.References.{rows_in}
use Rattle.mt_proj.specs.Keys.{key_in}
use Rattle.mt_proj.specs.Runs.{alike_at_front}
use Rattle.mt_proj.proofs.run.alike_at_front.Given as goal

-- what is left decides
abbrev pub invariant-loop-count : goal.invariant-loop-count
invariant-loop-count l =
    l.count + alike_at_front (key_in l.key) l.first (rows_in (drop l.count l.rows)) ≡ alike_at_front (key_in l.key) l.first (rows_in l.rows)
