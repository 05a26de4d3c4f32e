use Rattle.std.proofs.Common.{Ok, ℕ, List, ap, sym, ◌∙◌, arith}
use Rattle.mt_item.specs.ItemReading.{First}
use Rattle.mt_item.proofs.LengthLemmas.{read_got, read_short, read_bad}
use Rattle.mt_item.proofs.text.read_length.Goals as goal

pub returns-in-Got : goal.returns-in-Got
returns-in-Got c = read_got c.args.bytes.now c.in-Got.value c.in-Got.used c.in-Got.ensures ∙ ap (λ (bs : List ℕ). let r : First ℕ = Ok (c.in-Got.value, bs) in r) (sym c.bytes_after.ensures)

pub returns-in-Short : goal.returns-in-Short
returns-in-Short c = read_short c.args.bytes.now c.in-Short.ensures

pub returns-in-Bad : goal.returns-in-Bad
returns-in-Bad c = read_bad c.args.bytes.now (λ i. omega (arith, c.type_inv.bytes i)) c.in-Bad.ensures
