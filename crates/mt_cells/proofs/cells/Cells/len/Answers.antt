use Rattle.mt_cells.proofs.CellLemmas.{holds, count_is}
use Rattle.mt_cells.proofs.cells.Cells.len.Goals as goal

pub returns : goal.returns
returns c =
    let h = holds c.self.inside.kind c.self.inside.count c.self.inside.bytes.items c.args.self.now c.self.invariant c.self.view_is in
    count_is c.self.inside.kind c.self.inside.count c.self.inside.bytes.items c.args.self.now h
