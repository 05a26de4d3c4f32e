use Rattle.std.proofs.Common.{◌∙◌}
use Rattle.mt_cells.proofs.SizeLemmas.{many}
use Rattle.mt_cells.proofs.sizes.Sizes.len.Goals as goal

pub returns : goal.returns
returns c = c.len.ensures ∙ many c.self.inside.ends c.args.self.now c.self.invariant c.self.view_is
