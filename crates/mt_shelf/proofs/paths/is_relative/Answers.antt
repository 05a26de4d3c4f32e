use Rattle.std.proofs.Common.{◌≡◌, ◌+◌, ◌-◌, ◌<◌, ◌&&◌, suc, ℕ, Bool, arith, length, take, drop, sym, ◌∙◌, ap, subst}
use Rattle.mt_shelf.specs.Paths.{is_entry_name}
use Rattle.mt_shelf.proofs.PathNames.{Split, at_end, at_slash, at_other, at_start}
use Rattle.mt_shelf.proofs.paths.is_relative.Goals as goal

pub loop-i-init : goal.loop-i-init
loop-i-init c = at_end c.args.path.now

pub loop-i-preserved-then-path-i-eq47 : goal.loop-i-preserved-then-path-i-eq47
loop-i-preserved-then-path-i-eq47 c =
    let i = c.loop-i.i in
    let path = c.args.path.now in
    let e : i ≡ suc (i - 1) = omega arith in
    let inside : i - 1 < length path = omega arith in
    let back : i - 1 + 1 ≡ i = omega arith in
    let P : ℕ → Type 0 = λ k. c.subslice.result.now ≡ take (c.loop-i.end - k) (drop k path) in
    let same : is_entry_name c.subslice.result.now ≡ is_entry_name (take (c.loop-i.end - i) (drop i path)) = ap is_entry_name (subst P back c.subslice.ensures) in
    at_slash path i (i - 1) c.loop-i.end c.loop-i.rest_good _ e c.loop-i.invariant inside c.if-path-i-eq47.true (ap (λ (b : Bool). b && c.loop-i.rest_good) (c.is_name-rest_good.ensures ∙ same))

pub loop-i-preserved : goal.loop-i-preserved
loop-i-preserved c =
    let i = c.loop-i.i in
    let path = c.args.path.now in
    let e : i ≡ suc (i - 1) = omega arith in
    let inside : i - 1 < length path = omega arith in
    at_other path i (i - 1) c.loop-i.end c.loop-i.rest_good e c.loop-i.invariant inside c.if-path-i-eq47.false

pub returns : goal.returns
returns c =
    let at_zero : c.loop-i.i ≡ 0 = omega arith in
    let P : ℕ → Type 0 = λ k. Split c.args.path.now k c.loop-i.end c.loop-i.rest_good in
    let whole : c.loop-i.end - 0 ≡ c.loop-i.end = omega arith in
    let Q : ℕ → Type 0 = λ n. c.subslice-2.result.now ≡ take n c.args.path.now in
    ap (λ (b : Bool). b && c.loop-i.rest_good) (c.is_name.ensures ∙ ap is_entry_name (subst Q whole c.subslice-2.ensures)) ∙ sym (at_start c.args.path.now c.loop-i.end c.loop-i.rest_good (subst P at_zero c.loop-i.invariant))
