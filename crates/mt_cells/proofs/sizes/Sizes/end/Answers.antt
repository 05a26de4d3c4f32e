use Rattle.std.proofs.Common.{◌∙◌, arith}
use Rattle.mt_cells.proofs.SizeLemmas.{many, end_is}
use Rattle.mt_cells.proofs.sizes.Sizes.end.Goals as goal

pub end_at-requires : goal.end_at-requires
end_at-requires c =
    let m = many c.self.inside.ends c.args.self.now c.self.invariant c.self.view_is in
    rw c.as_slice.ensures (omega (arith, m, c.requires))

pub returns : goal.returns
returns c = (rw c.as_slice.ensures at c.end_at.ensures) ∙ end_is c.self.inside.ends c.args.self.now c.self.invariant c.self.view_is c.args.index c.requires
