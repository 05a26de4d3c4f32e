use Rattle.mt_cells.proofs.CellLemmas.{holds, appended}
use Rattle.mt_cells.proofs.cells.Cells.append_items.Goals as goal

pub invariant_of-self-2 : goal.invariant_of-self-2
invariant_of-self-2 c =
    let h = holds c.self.inside.kind c.self.inside.count c.self.inside.bytes.items c.args.self.now c.self.invariant c.self.view_is in
    (appended c.self.inside.kind c.self.inside.count c.self.inside.bytes.items c.args.self.now h c.in-Some.total c.args.count c.extend_from_slice.new.self.items c.args.bytes.now c.in-Some.ensures.1 c.in_ok-extend_from_slice.ensures.items c.requires).0

pub returns-clause-ok : goal.returns-clause-ok
returns-clause-ok c =
    let h = holds c.self.inside.kind c.self.inside.count c.self.inside.bytes.items c.args.self.now c.self.invariant c.self.view_is in
    (appended c.self.inside.kind c.self.inside.count c.self.inside.bytes.items c.args.self.now h c.in-Some.total c.args.count c.extend_from_slice.new.self.items c.args.bytes.now c.in-Some.ensures.1 c.in_ok-extend_from_slice.ensures.items c.requires).1
