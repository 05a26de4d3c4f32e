use Rattle.std.proofs.Common.{◌≡◌, drop}
use Rattle.std.specs.List.{list_any}
use Rattle.mt_cond.specs.Cover.{Spans, box_may, fronts, spans_between}
use Rattle.mt_cond.specs.Keys.{types_of}
use Rattle.mt_cond.proofs.hold.may_hold.Given as goal

-- what is left decides, and so far the keys are the same
abbrev pub invariant-loop-i : goal.invariant-loop-i
invariant-loop-i l = record {
  left : list_any (λ is. box_may l.cond l.key (fronts l.i l.lo is)) (spans_between (types_of (drop l.i l.key)) (drop l.i l.lo) (drop l.i l.hi))
      ≡ list_any (box_may l.cond l.key) (spans_between (types_of l.key) l.lo l.hi);
  alike : (is : Spans) → fronts l.i l.lo is ≡ fronts l.i l.hi is;
}
