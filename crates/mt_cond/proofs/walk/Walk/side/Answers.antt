use Rattle.std.proofs.Common.{inl, inr, arith, ◌≤◌, length, drop, ◌-◌, ◌∙◌}
use Rattle.std.specs.Prelude.{◌⊎◌}
use Rattle.std.specs.Option.{option_map}
use Rattle.mt_types.specs.declared.value.Value.TheVariants.{Null}
use Rattle.mt_cond.specs.Views.{interval_of}
use Rattle.mt_cond.specs.Cover.{opt_span, fronts}
use Rattle.mt_cond.proofs.WalkLemmas.{side_last, side_fixed, side_none}
use Rattle.mt_cond.proofs.walk.Walk.side.Goals as goal
use Rattle.mt_cond.proofs.walk.Walk.side.Goals.{then-i-self-via-then-i-self, then-i-self-via-else-i-self+then-i-self-2}

pub returns-then-k-column : goal.returns-then-k-column
returns-then-k-column c =
    let w = c.args.self in
    let i = c.loop-i.i in
    let over : (w.at ≤ i) ⊎ (length w.fixed.now ≤ i) = elim c.then-i-self.branch [ then-i-self-via-then-i-self b ↦ inl (omega arith) | then-i-self-via-else-i-self+then-i-self-2 b ↦ inr (omega arith) ] in
    let e = side_last w.key.now w.fixed.now w.at i (option_map interval_of w.last) c.args.column c.k-item.result (omega arith) over in
    grind (arith, e, c.k-item.is, c.if-k-column.true, c.loop-i.invariant.left)

pub returns-then-i-self : goal.returns-then-i-self
returns-then-i-self c =
    let w = c.args.self in
    let i = c.loop-i.i in
    let over : (w.at ≤ i) ⊎ (length w.fixed.now ≤ i) = elim c.then-i-self.branch [ then-i-self-via-then-i-self b ↦ inl (omega arith) | then-i-self-via-else-i-self+then-i-self-2 b ↦ inr (omega arith) ] in
    let e = side_last w.key.now w.fixed.now w.at i (option_map interval_of w.last) c.args.column c.k-item.result (omega arith) over in
    grind (arith, e, c.k-item.is, c.if-k-column.false, c.loop-i.invariant.left)

pub returns-then-k-column-2 : goal.returns-then-k-column-2
returns-then-k-column-2 c =
    let w = c.args.self in
    let i = c.loop-i.i in
    let e = side_fixed w.key.now w.fixed.now w.at i (opt_span (option_map interval_of w.last)) c.args.column c.k-item.result c.index-self-i.result (omega arith) (omega arith) (omega arith) in
    grind (arith, e, c.k-item.is, c.index-self-i.is, c.point.ensures, c.if-k-column-2.true, c.loop-i.invariant.left)

pub loop-i-preserved : goal.loop-i-preserved
loop-i-preserved c =
    let w = c.args.self in
    let i = c.loop-i.i in
    let e = side_fixed w.key.now w.fixed.now w.at i (opt_span (option_map interval_of w.last)) c.args.column c.k-item.result Null (omega arith) (omega arith) (omega arith) in
    record { left = grind (arith, e, c.k-item.is, c.if-k-column-2.false, c.loop-i.invariant.left); within = omega arith; room = omega arith }

pub returns : goal.returns
returns c =
    let w = c.args.self in
    let i = c.loop-i.i in
    side_none w.key.now (fronts (w.at - i) (drop i w.fixed.now) (opt_span (option_map interval_of w.last))) i c.args.column (omega arith) ∙ c.loop-i.invariant.left
