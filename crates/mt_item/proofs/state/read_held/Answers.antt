use Rattle.std.proofs.Common.{ℕ, ◌≡◌, ◌∷◌, ap, sym, subst, ◌∙◌, arith}
use Rattle.mt_facts.proofs.Lists.{nil_from_length}
use Rattle.mt_types.specs.declared.ty.Ty.{out-Ty}
use Rattle.mt_item.specs.ItemReading.{held_front, number_front}
use Rattle.mt_item.specs.Results.{GivesRead}
use Rattle.mt_item.proofs.ExactLemmas.{held_none, held_nothing, held_some, held_bad}
use Rattle.mt_item.proofs.state.read_held.Goals as goal

pub returns-in_default : goal.returns-in_default
returns-in_default c =
    let number = number_front (out-Ty c.args.ty.now) in
    ap (held_front number) (nil_from_length c.args.bytes.now c.in_default.ensures.cases) ∙ held_none number

pub returns-then-first-gt1 : goal.returns-then-first-gt1
returns-then-first-gt1 c =
    let number = number_front (out-Ty c.args.ty.now) in
    ap (held_front number) c.in-Some.ensures.cases.0 ∙ held_bad number c.in-Some.first.now c.in-Some.rest.now c.if-first-gt1.true

pub returns-then-first-eq0 : goal.returns-then-first-eq0
returns-then-first-eq0 c =
    let number = number_front (out-Ty c.args.ty.now) in
    ap (held_front number) (c.in-Some.ensures.cases.0 ∙ ap (λ (b : ℕ). b ∷ c.in-Some.rest.now) c.if-first-eq0.true) ∙ held_nothing number c.in-Some.rest.now

pub returns : goal.returns
returns c =
    let number = number_front (out-Ty c.args.ty.now) in
    let one : c.in-Some.first.now ≡ 1 = omega (arith, c.if-first-gt1.false, c.if-first-eq0.false) in
    let whole = ap (held_front number) (c.in-Some.ensures.cases.0 ∙ ap (λ (b : ℕ). b ∷ c.in-Some.rest.now) one) ∙ held_some number c.in-Some.rest.now in
    subst (GivesRead c.read_some.result) (sym whole) c.read_some.ensures
