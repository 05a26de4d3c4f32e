use Rattle.mt_cells.proofs.CellLemmas.{holds, to_within, slice_long, slice_read, slice_written}
use Rattle.mt_cells.proofs.cells.Cells.items.Goals as goal

pub items_between-requires-clause-within : goal.items_between-requires-clause-within
items_between-requires-clause-within c =
    let h = holds c.self.inside.kind c.self.inside.count c.self.inside.bytes.items c.args.self.now c.self.invariant c.self.view_is in
    rw c.as_slice.ensures.value (to_within c.self.inside.kind c.self.inside.count c.self.inside.bytes.items c.args.self.now h c.args.to c.size.result c.size.ensures c.requires.within)

pub returns-clause-size : goal.returns-clause-size
returns-clause-size c =
    let h = holds c.self.inside.kind c.self.inside.count c.self.inside.bytes.items c.args.self.now c.self.invariant c.self.view_is in
    slice_long c.self.inside.kind c.self.inside.count c.self.inside.bytes.items c.args.self.now h c.args.from c.args.to c.size.result c.items_between.result.now c.size.ensures c.requires.order c.requires.within (rw c.as_slice.ensures.value at c.items_between.ensures.value)

pub returns-clause-read : goal.returns-clause-read
returns-clause-read c =
    let h = holds c.self.inside.kind c.self.inside.count c.self.inside.bytes.items c.args.self.now c.self.invariant c.self.view_is in
    slice_read c.self.inside.kind c.self.inside.count c.self.inside.bytes.items c.args.self.now h c.args.from c.args.to c.size.result c.items_between.result.now c.size.ensures c.requires.order c.requires.within (rw c.as_slice.ensures.value at c.items_between.ensures.value)

pub returns-clause-written : goal.returns-clause-written
returns-clause-written c =
    let h = holds c.self.inside.kind c.self.inside.count c.self.inside.bytes.items c.args.self.now c.self.invariant c.self.view_is in
    slice_written c.self.inside.kind c.self.inside.count c.self.inside.bytes.items c.args.self.now h c.args.from c.args.to c.size.result c.items_between.result.now c.items_between.ensures.bytes c.size.ensures c.requires.order c.requires.within (rw c.as_slice.ensures.value at c.items_between.ensures.value)
