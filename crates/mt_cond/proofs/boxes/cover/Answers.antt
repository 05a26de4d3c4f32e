use Rattle.std.proofs.Common.{arith, ◌≡◌, ◌++◌, ◌∷◌, [], ℕ, List, length, get_or, ap, sym, ◌∙◌, subst}
use Rattle.std.specs.Prelude.{IfOk}
use Rattle.std.specs.Ordering.{is_eq}
use Rattle.std.specs.declared.cmp.Ordering.TheVariants.{Equal}
use Rattle.mt_types.specs.declared.ty.Ty.TheVariants.{Str}
use Rattle.mt_types.specs.Order.{value_cmp}
use Rattle.mt_types.specs.Ties.{exact_values}
use Rattle.mt_cond.specs.declared.types.Side.{Side}
use Rattle.mt_cond.specs.Cover.{sides_of, fronts}
use Rattle.mt_cond.specs.Keys.{types_of}
use Rattle.mt_cond.proofs.WalkLemmas.{fronts_alike}
use Rattle.mt_cond.proofs.BoxLemmas.{tied_next, between_last}
use Rattle.mt_cond.proofs.boxes.cover.Goals as goal

pub returns-then-ne : goal.returns-then-ne
returns-then-ne c = subst (λ (x : List (List Side)). IfOk c.apart.result (λ boxes. boxes ≡ x)) c.loop-i.invariant.left c.apart.ensures

pub loop-i-preserved : goal.loop-i-preserved
loop-i-preserved c =
    let key = c.args.key.now in
    let lo = c.args.lo.now in
    let hi = c.args.hi.now in
    let i = c.loop-i.i in
    let tie : value_cmp (get_or lo i c.index-lo-i.result) (get_or hi i c.index-hi-i.result) ≡ Equal = grind (arith, c.index-lo-i.is, c.index-hi-i.is, c.compare.ensures, c.ne.ensures, c.if-ne.false) in
    record {
      left = sym (tied_next (sides_of key) key lo hi i (record { column = 0; ty = Str }) c.index-lo-i.result c.index-hi-i.result (omega arith) (omega arith) (omega arith) (ap is_eq tie)) ∙ c.loop-i.invariant.left;
      alike = fronts_alike i lo hi c.index-lo-i.result c.index-hi-i.result (omega arith) (omega arith)
          (exact_values (get_or lo i c.index-lo-i.result) (get_or hi i c.index-hi-i.result) tie) c.loop-i.invariant.alike;
    }

pub returns : goal.returns
returns c =
    let key = c.args.key.now in
    let lo = c.args.lo.now in
    let all : length lo ≡ c.loop-i.i = omega arith in
    c.in_ok-push_point.ensures ∙ ap (λ (bs : List (List Side)). bs ++ sides_of key (fronts (length lo) lo []) ∷ []) c.new-boxes.ensures ∙ ap (λ (n : ℕ). sides_of key (fronts n lo []) ∷ []) all
    ∙ sym (between_last (sides_of key) key lo c.args.hi.now c.loop-i.i (omega arith)) ∙ c.loop-i.invariant.left
