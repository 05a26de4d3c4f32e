use Rattle.std.proofs.Common.{◌∙◌, arith}
use Rattle.mt_cells.proofs.SizeLemmas.{many, start_at}
use Rattle.mt_cells.proofs.sizes.Sizes.start.Goals as goal

pub end_before-requires : goal.end_before-requires
end_before-requires c =
    let m = many c.self.inside.ends c.args.self.now c.self.invariant c.self.view_is in
    rw c.as_slice.ensures (omega (arith, m, c.requires))

pub returns : goal.returns
returns c = (rw c.as_slice.ensures at c.end_before.ensures) ∙ start_at c.self.inside.ends c.args.self.now c.self.invariant c.self.view_is c.args.index c.requires
