use Rattle.mt_cells.proofs.SizeLemmas.{pushed}
use Rattle.mt_cells.proofs.sizes.Sizes.push.Goals as goal

pub invariant_of-self-2 : goal.invariant_of-self-2
invariant_of-self-2 c = (pushed c.self.inside.ends c.args.self.now c.self.invariant c.self.view_is c.total.result c.args.size c.in-Some.end c.push.new.self c.total.ensures c.in-Some.ensures.1 c.in_ok-push.ensures.ok).0

pub returns-clause-ok : goal.returns-clause-ok
returns-clause-ok c = (pushed c.self.inside.ends c.args.self.now c.self.invariant c.self.view_is c.total.result c.args.size c.in-Some.end c.push.new.self c.total.ensures c.in-Some.ensures.1 c.in_ok-push.ensures.ok).1
