-- Intervals and boxes, as sets of values and of rows: docs/LANGUAGE.md, "Masks and covers".
use Rattle.std.specs.Prelude.{ℕ, Bool, true, false, not, ◌&&◌, ◌==◌, if◌then◌else◌, List, [], ◌∷◌, length, Option, Some, None}
use Rattle.std.specs.List.{list_all}
use Rattle.std.specs.Ordering.{is_lt, is_le, is_gt}
use Rattle.mt_types.specs.declared.value.Value.{Value, out-Value}
use Rattle.mt_types.specs.Fits.{text_at}
use Rattle.mt_types.specs.Order.{value_cmp}
use Rattle.mt_defs.specs.Rows.{Row, cell}
use Rattle.mt_query.specs.Truth.{is_same}
use Rattle.mt_cond.specs.declared.types.End.{End}
use Rattle.mt_cond.specs.declared.types.End.TheVariants.{Free, At, Past}
use Rattle.mt_cond.specs.declared.types.Interval.{Interval}
use Rattle.mt_cond.specs.declared.types.Side.{Side}

-- these two ends
abbrev pub span : End → End → Interval
span lo hi = record { lo = lo; hi = hi }

-- from a value to another, both inside
abbrev pub closed : (low high : Value) → Interval
closed low high = span (At low) (At high)

-- ---- which values are inside

-- the value isn't below an interval that begins so
abbrev pub above_low : End → Value → Bool
above_low Free v = true
above_low (At w) v = is_le (value_cmp w v)
above_low (Past w) v = is_lt (value_cmp w v)

-- the value isn't above an interval that ends so
abbrev pub below_high : End → Value → Bool
below_high Free v = true
below_high (At w) v = is_le (value_cmp v w)
below_high (Past w) v = is_lt (value_cmp v w)

-- the value is in the interval
abbrev pub is_in : Interval → Value → Bool
is_in interval v = above_low interval.lo v && below_high interval.hi v

-- ---- what the table of masks asks

-- the value is the empty text
abbrev pub is_empty_text : Value → Bool
is_empty_text v = text_at (λ bytes. length bytes == 0) (out-Value v)

-- below(v): the low end's value is less than v, or it is Free and v isn't empty
abbrev pub low_less : End → Value → Bool
low_less Free v = not (is_empty_text v)
low_less (At w) v = is_lt (value_cmp w v)
low_less (Past w) v = is_lt (value_cmp w v)

-- above(v): the high end's value is greater than v, or it is Free
abbrev pub high_greater : End → Value → Bool
high_greater Free v = true
high_greater (At w) v = is_gt (value_cmp w v)
high_greater (Past w) v = is_gt (value_cmp w v)

-- the end is At(v)
abbrev pub at_value : End → Value → Bool
at_value (At w) v = is_same w v
at_value _ v = false

-- both ends are At(v)
abbrev pub is_point : Interval → Value → Bool
is_point interval v = at_value interval.lo v && at_value interval.hi v

-- ---- boxes

-- the interval of a column, where the box has one
abbrev pub interval_at : List Side → ℕ → Option Interval
interval_at [] column = None
interval_at (side ∷ sides) column = if side.column == column then Some side.interval else interval_at sides column

-- the row's values lie in the box
abbrev pub lies_in : List Side → Row → Bool
lies_in sides row = list_all (λ side. is_in side.interval (cell row side.column)) sides

-- the box of one column, whose values are between two, both inside
abbrev pub between_sides : (column : ℕ) → (low high : Value) → List Side
between_sides column low high = record { column = column; interval = closed low high } ∷ []
