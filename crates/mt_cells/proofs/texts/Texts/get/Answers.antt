use Rattle.std.proofs.Common.{◌+◌, [], arith}
use Rattle.mt_cells.proofs.CutLemmas.{as_many, next_start, start_within, piece_at}
use Rattle.mt_cells.proofs.texts.Texts.get.Goals as goal

pub start-start-requires : goal.start-start-requires
start-start-requires c = omega (arith, as_many c.self.inside.sizes c.self.inside.bytes.items c.args.self.now c.self.invariant c.self.view_is, c.requires)

pub end-end-requires : goal.end-end-requires
end-end-requires c = omega (arith, as_many c.self.inside.sizes c.self.inside.bytes.items c.args.self.now c.self.invariant c.self.view_is, c.requires)

pub piece-requires-clause-order : goal.piece-requires-clause-order
piece-requires-clause-order c = omega (arith, c.start-start.ensures, c.end-end.ensures, next_start c.self.inside.sizes c.self.inside.bytes.items c.args.self.now c.self.invariant c.self.view_is c.args.index c.requires)

pub piece-requires-clause-within : goal.piece-requires-clause-within
piece-requires-clause-within c = rw c.as_slice.ensures.value (omega (arith, c.end-end.ensures, start_within c.self.inside.sizes c.self.inside.bytes.items c.args.self.now c.self.invariant c.self.view_is (c.args.index + 1)))

pub returns : goal.returns
returns c = piece_at c.self.inside.sizes c.self.inside.bytes.items c.args.self.now c.self.invariant c.self.view_is c.args.index c.start-start.result c.end-end.result [] c.piece.result.now c.requires c.start-start.ensures c.end-end.ensures (rw c.as_slice.ensures.value at c.piece.ensures)
