use Rattle.std.proofs.Common.{◌++◌, ap, ◌∙◌, arith}
use Rattle.mt_cells.proofs.CutLemmas.{as_many, pieces_more, range_sum, start_within}
use Rattle.mt_cells.proofs.texts.Texts.append.Goals as goal

pub start-start-requires : goal.start-start-requires
start-start-requires c = omega (arith, as_many c.other.inside.sizes c.other.inside.bytes.items c.args.other.now c.other.invariant c.other.view_is, c.requires.order, c.requires.within)

pub start-end-requires : goal.start-end-requires
start-end-requires c = omega (arith, as_many c.other.inside.sizes c.other.inside.bytes.items c.args.other.now c.other.invariant c.other.view_is, c.requires.within)

pub append-requires-clause-within : goal.append-requires-clause-within
append-requires-clause-within c = omega (arith, as_many c.other.inside.sizes c.other.inside.bytes.items c.args.other.now c.other.invariant c.other.view_is, c.requires.within)

pub piece-requires-clause-order : goal.piece-requires-clause-order
piece-requires-clause-order c = omega (arith, c.start-start.ensures, c.start-end.ensures, range_sum c.other.inside.sizes c.args.from c.args.to c.requires.order)

pub piece-requires-clause-within : goal.piece-requires-clause-within
piece-requires-clause-within c = rw c.as_slice.ensures.value (omega (arith, c.start-end.ensures, start_within c.other.inside.sizes c.other.inside.bytes.items c.args.other.now c.other.invariant c.other.view_is c.args.to))

pub invariant_of-result : goal.invariant_of-result
invariant_of-result c =
    (pieces_more c.self.inside.sizes c.append.new.self c.other.inside.sizes c.self.inside.bytes.items c.extend_from_slice.new.self.items c.other.inside.bytes.items c.args.self c.args.other.now c.args.from c.args.to c.start-start.result c.start-end.result
    c.self.invariant c.self.view_is c.other.invariant c.other.view_is c.requires.order c.start-start.ensures c.start-end.ensures c.in_ok-append.ensures (c.in_ok-extend_from_slice.ensures.items ∙ ap (λ bs. c.self.inside.bytes.items ++ bs) (rw c.as_slice.ensures.value at c.piece.ensures))).0

pub returns : goal.returns
returns c =
    (pieces_more c.self.inside.sizes c.append.new.self c.other.inside.sizes c.self.inside.bytes.items c.extend_from_slice.new.self.items c.other.inside.bytes.items c.args.self c.args.other.now c.args.from c.args.to c.start-start.result c.start-end.result
    c.self.invariant c.self.view_is c.other.invariant c.other.view_is c.requires.order c.start-start.ensures c.start-end.ensures c.in_ok-append.ensures (c.in_ok-extend_from_slice.ensures.items ∙ ap (λ bs. c.self.inside.bytes.items ++ bs) (rw c.as_slice.ensures.value at c.piece.ensures))).1
