use Rattle.std.proofs.Common.{ℕ, ◌-◌, ◌*◌, ap, arith, take, drop}
use Rattle.mt_cells.proofs.CellLemmas.{minus_times}
use Rattle.mt_item.proofs.LengthLemmas.{Small}
use Rattle.mt_item.proofs.ExactLemmas.{small_taken}
use Rattle.mt_cells.proofs.NumberLemmas.{small_drop}
use Rattle.mt_cells.proofs.cells.items_between.Goals as goal

pub returns-clause-value : goal.returns-clause-value
returns-clause-value c = ap (λ (n : ℕ). take n (drop (c.args.from * c.args.size) c.args.bytes.now)) (minus_times c.args.from c.args.to c.args.size c.requires.order)

pub returns-clause-bytes : goal.returns-clause-bytes
returns-clause-bytes c =
    let small : Small c.args.bytes.now = λ i. omega (arith, c.type_inv.bytes i) in
    small_taken (c.args.to * c.args.size - c.args.from * c.args.size) (drop (c.args.from * c.args.size) c.args.bytes.now) (small_drop (c.args.from * c.args.size) c.args.bytes.now small)
