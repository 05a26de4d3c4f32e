use Rattle.std.proofs.Common.{◌≡◌, drop, map}
use Rattle.mt_cond.specs.Cover.{Spans, sides_of, fronts, spans_between, cover_of}
use Rattle.mt_cond.specs.Keys.{types_of}
use Rattle.mt_cond.proofs.boxes.cover.Given as goal

-- what is left is the cover, and so far the keys are the same
abbrev pub invariant-loop-i : goal.invariant-loop-i
invariant-loop-i l = record {
  left : map (λ is. sides_of l.key (fronts l.i l.lo is)) (spans_between (types_of (drop l.i l.key)) (drop l.i l.lo) (drop l.i l.hi)) ≡ cover_of l.key l.lo l.hi;
  alike : (is : Spans) → fronts l.i l.lo is ≡ fronts l.i l.hi is;
}
