use Rattle.mt_cells.proofs.CellLemmas.{holds, at_within, default_bytes}
use Rattle.mt_cells.proofs.cells.Cells.is_default.Goals as goal

pub item_at-requires : goal.item_at-requires
item_at-requires c =
    let h = holds c.self.inside.kind c.self.inside.count c.self.inside.bytes.items c.args.self.now c.self.invariant c.self.view_is in
    rw c.as_slice.ensures.value (at_within c.self.inside.kind c.self.inside.count c.self.inside.bytes.items c.args.self.now h c.args.index c.size.result c.size.ensures c.requires)

pub returns : goal.returns
returns c =
    let h = holds c.self.inside.kind c.self.inside.count c.self.inside.bytes.items c.args.self.now c.self.invariant c.self.view_is in
    let d = default_bytes c.self.inside.kind c.self.inside.count c.self.inside.bytes.items c.args.self.now h c.args.index c.size.result c.item_at.result.now c.size.ensures c.requires (rw c.as_slice.ensures.value at c.item_at.ensures.value) c.item_at.ensures.bytes in
    (λ r. d.0 (c.is_zero.ensures.0 r), λ e. c.is_zero.ensures.1 (d.1 e))
