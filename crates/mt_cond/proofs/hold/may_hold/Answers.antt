use Rattle.std.proofs.Common.{arith, ◌≡◌, ℕ, length, get_or, ap, sym, ◌∙◌, []}
use Rattle.std.specs.Ordering.{is_eq}
use Rattle.std.specs.declared.cmp.Ordering.TheVariants.{Equal}
use Rattle.mt_types.specs.declared.ty.Ty.TheVariants.{Str}
use Rattle.mt_cond.proofs.HoldLemmas.{hold_sound}
use Rattle.mt_types.specs.Ties.{exact_values}
use Rattle.mt_types.specs.Order.{value_cmp}
use Rattle.mt_cond.specs.Cover.{box_may, fronts}
use Rattle.mt_cond.specs.Keys.{types_of}
use Rattle.mt_cond.proofs.WalkLemmas.{between_tied, between_end, fronts_alike, cover_walk}
use Rattle.mt_cond.proofs.hold.may_hold.Goals as goal

pub returns-then-ne-clause-exact : goal.returns-then-ne-clause-exact
returns-then-ne-clause-exact c = c.may_apart.ensures ∙ c.loop-i.invariant.left ∙ sym (cover_walk c.args.cond.now c.args.key.now c.args.lo.now c.args.hi.now)

pub loop-i-preserved : goal.loop-i-preserved
loop-i-preserved c =
    let key = c.args.key.now in
    let lo = c.args.lo.now in
    let hi = c.args.hi.now in
    let i = c.loop-i.i in
    let tie : value_cmp (get_or lo i c.index-lo-i.result) (get_or hi i c.index-hi-i.result) ≡ Equal = grind (arith, c.index-lo-i.is, c.index-hi-i.is, c.compare.ensures, c.ne.ensures, c.if-ne.false) in
    record {
      left = sym (between_tied (box_may c.args.cond.now key) key lo hi i (record { column = 0; ty = Str }) c.index-lo-i.result c.index-hi-i.result (omega arith) (omega arith) (omega arith) (ap is_eq tie)) ∙ c.loop-i.invariant.left;
      alike = fronts_alike i lo hi c.index-lo-i.result c.index-hi-i.result (omega arith) (omega arith)
          (exact_values (get_or lo i c.index-lo-i.result) (get_or hi i c.index-hi-i.result) tie) c.loop-i.invariant.alike;
    }

pub returns-clause-exact : goal.returns-clause-exact
returns-clause-exact c =
    let key = c.args.key.now in
    let lo = c.args.lo.now in
    let hi = c.args.hi.now in
    let all : length lo ≡ c.loop-i.i = omega arith in
    c.may_point.ensures ∙ ap (λ (n : ℕ). box_may c.args.cond.now key (fronts n lo [])) all
    ∙ between_end (box_may c.args.cond.now key) key lo hi c.loop-i.i (omega arith) ∙ c.loop-i.invariant.left ∙ sym (cover_walk c.args.cond.now key lo hi)

pub returns-then-ne-clause-sound : goal.returns-then-ne-clause-sound
returns-then-ne-clause-sound c columns row keys of suits fits low high holds =
    let key = c.args.key.now in
    c.may_apart.ensures ∙ c.loop-i.invariant.left ∙ sym (cover_walk c.args.cond.now key c.args.lo.now c.args.hi.now)
    ∙ hold_sound columns c.args.cond.now key c.args.lo.now c.args.hi.now row keys.types keys.lo_fits keys.hi_fits keys.ordered suits of fits low high holds

pub returns-clause-sound : goal.returns-clause-sound
returns-clause-sound c columns row keys of suits fits low high holds =
    let key = c.args.key.now in
    let lo = c.args.lo.now in
    let hi = c.args.hi.now in
    let all : length lo ≡ c.loop-i.i = omega arith in
    c.may_point.ensures ∙ ap (λ (n : ℕ). box_may c.args.cond.now key (fronts n lo [])) all
    ∙ between_end (box_may c.args.cond.now key) key lo hi c.loop-i.i (omega arith) ∙ c.loop-i.invariant.left ∙ sym (cover_walk c.args.cond.now key lo hi)
    ∙ hold_sound columns c.args.cond.now key lo hi row keys.types keys.lo_fits keys.hi_fits keys.ordered suits of fits low high holds
