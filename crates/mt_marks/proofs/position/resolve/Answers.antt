use Rattle.mt_marks.proofs.DenotedLemmas.{position_denotes}
use Rattle.mt_marks.proofs.position.resolve.Goals as goal

pub returns-clause-denotes : goal.returns-clause-denotes
returns-clause-denotes c = position_denotes c.args.frames.now c.args.mark.now c.position.result c.position.ensures
