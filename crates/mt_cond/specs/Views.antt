-- What ends, intervals and boxes that borrow their values stand for.
use Rattle.std.specs.Prelude.{[], ◌∷◌}
use Rattle.std.specs.Option.{option_map}
use Rattle.mt_types.specs.declared.value.Value.TheVariants.{Num, Huge}
use Rattle.mt_cond.specs.declared.types.End.{End}
use Rattle.mt_cond.specs.declared.types.End.TheVariants.{Free, At, Past}
use Rattle.mt_cond.specs.declared.types.Interval.{Interval}
use Rattle.mt_cond.specs.declared.bounds.Bound.{Bound}
use Rattle.mt_cond.specs.declared.bounds.Bound.TheVariants as bound
use Rattle.mt_cond.specs.declared.bounds.Bounds.{Bounds}
use Rattle.mt_cond.specs.declared.masks.Sides.{Sides}
use Rattle.mt_cond.specs.declared.masks.Sides.TheVariants as sides
use Rattle.mt_cond.specs.Intervals.{interval_at}
use Rattle.mt_cond.specs.Masks.{Box}
use Rattle.mt_cond.specs.declared.walk.Walk.{Walk}
use Rattle.mt_cond.specs.Cover.{Spans, sides_of, fronts, opt_span}

-- an end
abbrev pub end_of : Bound → End
end_of bound.Free = Free
end_of (bound.At v) = At v.now
end_of (bound.Past v) = Past v.now
end_of (bound.Number n) = At (Num n)
end_of (bound.Huge n) = At (Huge n)

-- an interval
abbrev pub interval_of : Bounds → Interval
interval_of b = record { lo = end_of b.lo; hi = end_of b.hi }

-- the intervals of a box of a cover
abbrev pub walk_spans : Walk → Spans
walk_spans w = fronts w.at w.fixed.now (opt_span (option_map interval_of w.last))

-- a box, by the interval of each column
abbrev pub box_of : Sides → Box
box_of (sides.Given given) = interval_at given.now
box_of (sides.One own bounds) = interval_at (record { column = own; interval = interval_of bounds } ∷ [])
box_of (sides.Covering walk) = interval_at (sides_of walk.key.now (walk_spans walk))
