use Rattle.std.proofs.Common.{◌≡◌, length, arith, rules}
use Rattle.mt_cells.proofs.CellLemmas.{holds, default_behind}
use Rattle.mt_cells.proofs.cells.Cells.push_default.Goals as goal

pub returns-clause-ok : goal.returns-clause-ok
returns-clause-ok c =
    let h = holds c.self.inside.kind c.self.inside.count c.self.inside.bytes.items c.args.self.now c.self.invariant c.self.view_is in
    let same : c.self.inside.bytes.len ≡ length c.self.inside.bytes.items = search rules in
    default_behind c.self.inside.kind c.self.inside.count c.self.inside.bytes.items c.args.self.now h c.in-Some.total c.self.inside.bytes.len c.in-Some-checked_add.end c.resize.new.self.items (omega (arith, c.in-Some.ensures)) same (omega (arith, c.in-Some-checked_add.ensures, c.len.ensures, c.size.ensures)) c.in_ok-resize.ensures.items
