use Rattle.std.proofs.Common.{◌∙◌}
use Rattle.mt_cells.proofs.CellLemmas.{holds, at_within, at_long, at_value}
use Rattle.mt_cells.proofs.cells.Cells.seen.Goals as goal

pub item_at-item-requires : goal.item_at-item-requires
item_at-item-requires c =
    let h = holds c.self.inside.kind c.self.inside.count c.self.inside.bytes.items c.args.self.now c.self.invariant c.self.view_is in
    rw c.as_slice.ensures.value (at_within c.self.inside.kind c.self.inside.count c.self.inside.bytes.items c.args.self.now h c.args.index c.size.result c.size.ensures c.requires)

pub value_of-requires : goal.value_of-requires
value_of-requires c =
    let h = holds c.self.inside.kind c.self.inside.count c.self.inside.bytes.items c.args.self.now c.self.invariant c.self.view_is in
    at_long c.self.inside.kind c.self.inside.count c.self.inside.bytes.items c.args.self.now h c.args.index c.size.result c.item_at-item.result.now c.size.ensures c.requires (rw c.as_slice.ensures.value at c.item_at-item.ensures.value)

pub returns : goal.returns
returns c =
    let h = holds c.self.inside.kind c.self.inside.count c.self.inside.bytes.items c.args.self.now c.self.invariant c.self.view_is in
    c.value_of.ensures ∙ at_value c.self.inside.kind c.self.inside.count c.self.inside.bytes.items c.args.self.now h c.args.index c.size.result c.item_at-item.result.now c.size.ensures c.requires (rw c.as_slice.ensures.value at c.item_at-item.ensures.value)
