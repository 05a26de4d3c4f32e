use Rattle.std.proofs.Common.{ap, ◌∙◌, arith}
use Rattle.std.specs.Prelude.{sum}
use Rattle.std.proofs.lemmas.List.{take_all}
use Rattle.mt_cells.proofs.sizes.Sizes.total.Goals as goal

pub returns : goal.returns
returns c = c.start.ensures ∙ ap sum (take_all c.len.result c.args.self.now (omega (arith, c.len.ensures)))
