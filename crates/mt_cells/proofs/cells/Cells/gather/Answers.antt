use Rattle.mt_cells.proofs.CellLemmas.{holds, all_within, gathers}
use Rattle.mt_cells.proofs.cells.Cells.gather.Goals as goal

pub gather_items-requires : goal.gather_items-requires
gather_items-requires c =
    let h = holds c.self.inside.kind c.self.inside.count c.self.inside.bytes.items c.args.self.now c.self.invariant c.self.view_is in
    rw c.as_slice.ensures.value (all_within c.self.inside.kind c.self.inside.count c.self.inside.bytes.items c.args.self.now h c.args.order.now c.size.result c.size.ensures c.requires)

pub invariant_of-result : goal.invariant_of-result
invariant_of-result c =
    let h = holds c.self.inside.kind c.self.inside.count c.self.inside.bytes.items c.args.self.now c.self.invariant c.self.view_is in
    (gathers c.self.inside.kind c.self.inside.count c.self.inside.bytes.items c.args.self.now h c.args.order.now c.size.result c.in_ok-bytes.bytes.items c.size.ensures c.requires (rw c.as_slice.ensures.value at c.in_ok-bytes.ensures)).0

pub returns : goal.returns
returns c =
    let h = holds c.self.inside.kind c.self.inside.count c.self.inside.bytes.items c.args.self.now c.self.invariant c.self.view_is in
    (h.kind, (gathers c.self.inside.kind c.self.inside.count c.self.inside.bytes.items c.args.self.now h c.args.order.now c.size.result c.in_ok-bytes.bytes.items c.size.ensures c.requires (rw c.as_slice.ensures.value at c.in_ok-bytes.ensures)).1)
