use Rattle.std.proofs.Common.{◌≡◌, drop}
use Rattle.mt_plan_known.specs.Granules.{is_marked}
use Rattle.mt_plan_known.proofs.granules.is_marked.Given as goal

-- what is left decides
abbrev pub invariant-loop-rows : goal.invariant-loop-rows
invariant-loop-rows l = is_marked l.left (drop l.rows-index l.granules) ≡ is_marked l.count l.granules
