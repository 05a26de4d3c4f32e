use Rattle.std.proofs.Common.{rules, ◌∙◌, sym, FitsSigned}
use Rattle.std.specs.Int.{w128}
use Rattle.std.proofs.lemmas.Int.{to_z-of_z}
use Rattle.mt_tsv.proofs.Narrow.{no_integer, inside, outside}
use Rattle.mt_tsv.proofs.number.read_signed.Goals as goal

pub returns-in-Err : goal.returns-in-Err
returns-in-Err c = sym (no_integer c.args.width c.args.text.now c.in-Err.why (sym c.in-Err.ensures))

pub returns-then-holds_signed : goal.returns-then-holds_signed
returns-then-holds_signed c =
    let fits : FitsSigned w128 c.in-Ok.n = search rules in
    let same = to_z-of_z w128 c.in-Ok.n fits in
    let holds = rw same at (sym c.holds_signed.ensures ∙ c.if-holds_signed.true) in
    rw same (sym (inside c.args.width c.args.text.now c.in-Ok.n (sym c.in-Ok.ensures) holds))

pub returns-else-holds_signed : goal.returns-else-holds_signed
returns-else-holds_signed c =
    let fits : FitsSigned w128 c.in-Ok.n = search rules in
    let other = rw (to_z-of_z w128 c.in-Ok.n fits) at (sym c.holds_signed.ensures ∙ c.if-holds_signed.false) in
    sym (outside c.args.width c.args.text.now c.in-Ok.n (sym c.in-Ok.ensures) other)
