use Rattle.std.proofs.Common.{◌∙◌, rules, sym}
use Rattle.mt_plan_known.proofs.GranuleLemmas.{unmarked}
use Rattle.mt_plan_known.proofs.granules.granules_of.Goals as goal

pub returns-then-not-is_marked-clause-only : goal.returns-then-not-is_marked-clause-only
returns-then-not-is_marked-clause-only c granules marked =
    unmarked c.args.count c.args.rows.now c.in-Some.granules.now c.in-Some.last.now granules (search rules) (sym c.is_marked.ensures ∙ c.if-not-is_marked.true) marked
