-- The boxes that hold all keys between two keys: docs/LANGUAGE.md, "Masks and covers".
use Rattle.std.specs.Prelude.{ℕ, zero, suc, ◌-◌, ◌^◌, ℤ, pos, negsuc, ◌+ℤ◌, ◌-ℤ◌, Bool, false, if◌then◌else◌, List, [], ◌∷◌, ◌++◌, map, Option, Some, None}
use Rattle.std.specs.List.{list_any}
use Rattle.std.specs.Ordering.{is_gt, is_ge, is_lt, int_cmp}
use Rattle.mt_types.specs.declared.ty.Ty.{Ty, out-Ty}
use Rattle.mt_types.specs.declared.ty.Ty.TheOpen.{Ty-F}
use Rattle.mt_types.specs.declared.value.Value.{Value, out-Value}
use Rattle.mt_types.specs.declared.value.Value.TheOpen.{Value-F}
use Rattle.mt_types.specs.declared.value.Value.TheVariants.{Num}
use Rattle.mt_types.specs.Fits.{Level, bits, number_value}
use Rattle.mt_types.specs.Order.{value_cmp}
use Rattle.mt_query.specs.declared.cond.Cond.{Cond}
use Rattle.mt_query.specs.Truth.{is_same}
use Rattle.mt_cond.specs.declared.types.End.{End}
use Rattle.mt_cond.specs.declared.types.End.TheVariants.{Free, At, Past}
use Rattle.mt_cond.specs.declared.types.Interval.{Interval}
use Rattle.mt_cond.specs.declared.types.Side.{Side}
use Rattle.mt_cond.specs.declared.types.KeyColumn.{KeyColumn}
use Rattle.mt_cond.specs.declared.ranges.Range.{Range}
use Rattle.mt_cond.specs.Intervals.{closed, span}
use Rattle.mt_cond.specs.Keys.{types_of}
use Rattle.mt_cond.specs.Masks.{mask_of}

-- ---- the ends of a type's values

-- the numbers of so many bits
abbrev pub unsigned_range : ℕ → Range
unsigned_range size = record { least = pos 0; greatest = 2 ^ size - 1 }

-- the same in two's complement
abbrev pub signed_range : ℕ → Range
signed_range size = record { least = negsuc (2 ^ (size - 1) - 1); greatest = 2 ^ (size - 1) - 1 }

-- the numbers of a type, if it has numbers
abbrev pub range_at : {X : Type 0} → Ty-F X → Option Range
range_at (Ty-F.UInt width) = Some (unsigned_range (bits width))
range_at (Ty-F.Int width) = Some (signed_range (bits width))
range_at Ty-F.Date = Some (unsigned_range 16)
range_at Ty-F.Moment = Some (unsigned_range 32)
range_at _ = None

-- the lower end of all values: of a type of numbers its least one, which is Num
abbrev pub free_low : Option Range → End
free_low None = Free
free_low (Some range) = At (Num range.least)

-- the upper end of all values: of a type of numbers its greatest one
abbrev pub free_high : Option Range → End
free_high None = Free
free_high (Some range) = At (number_value (pos range.greatest))

-- past a value, which is this number: at the next one, if the type has it
abbrev pub end_after : Range → Value → ℤ → End
end_after range value n = if is_lt (int_cmp n (pos range.greatest)) then At (number_value (n +ℤ pos 1)) else Past value

-- the same of a value of this level
abbrev pub next_end : Range → Value → Level → End
next_end range value (Value-F.Num n) = end_after range value n
next_end range value (Value-F.Huge n) = end_after range value (pos n)
next_end range value _ = Past value

-- up to a value of this level: of a number at the former one, if the type has it
abbrev pub former_end : Range → Value → Level → End
former_end range value (Value-F.Num n) = if is_gt (int_cmp n range.least) then At (Num (n -ℤ pos 1)) else Past value
former_end range value (Value-F.Huge n) = At (number_value (pos (n - 1)))
former_end range value _ = Past value

-- the lower end of the values past one
abbrev pub past_low : Option Range → Value → End
past_low None value = Past value
past_low (Some range) value = next_end range value (out-Value value)

-- the upper end of the values up to one, itself outside
abbrev pub past_high : Option Range → Value → End
past_high None value = Past value
past_high (Some range) value = former_end range value (out-Value value)

-- ---- empty intervals

-- the low end is above the high one, or both are at a value that is outside
abbrev pub ends_empty : End → End → Bool
ends_empty Free hi = false
ends_empty (At a) Free = false
ends_empty (At a) (At b) = is_gt (value_cmp a b)
ends_empty (At a) (Past b) = is_ge (value_cmp a b)
ends_empty (Past a) Free = false
ends_empty (Past a) (At b) = is_ge (value_cmp a b)
ends_empty (Past a) (Past b) = is_ge (value_cmp a b)

-- the interval is empty
abbrev pub is_void : Interval → Bool
is_void interval = ends_empty interval.lo interval.hi

-- ---- the boxes, as intervals of a key's first columns

abbrev pub Spans : Type 0
Spans = List Interval

-- one value alone
abbrev pub point : Value → Interval
point value = closed value value

-- the box of one interval, unless it is empty
abbrev pub some_box : Interval → List Spans
some_box interval = if is_void interval then [] else (interval ∷ []) ∷ []

-- the keys from these values on: past the first of them; or at it, and from the others on
abbrev pub from_key : List Ty → List Value → List Spans
from_key (ty ∷ types) (l ∷ lo) =
    some_box (span (past_low (range_at (out-Ty ty)) l) (free_high (range_at (out-Ty ty)))) ++ map (λ spans. point l ∷ spans) (from_key types lo)
from_key _ _ = [] ∷ []

-- the keys up to these values: up to the first of them; or at it, and up to the others
abbrev pub to_key : List Ty → List Value → List Spans
to_key (ty ∷ types) (h ∷ hi) =
    some_box (span (free_low (range_at (out-Ty ty))) (past_high (range_at (out-Ty ty)) h)) ++ map (λ spans. point h ∷ spans) (to_key types hi)
to_key _ _ = [] ∷ []

-- the keys between: at a common value; or, at the first place where they differ, between the two, at the lower one, or at the upper one
abbrev pub spans_between : List Ty → List Value → List Value → List Spans
spans_between (ty ∷ types) (l ∷ lo) (h ∷ hi) =
    if is_same l h then map (λ spans. point l ∷ spans) (spans_between types lo hi)
    else some_box (span (past_low (range_at (out-Ty ty)) l) (past_high (range_at (out-Ty ty)) h))
    ++ (map (λ spans. point l ∷ spans) (from_key types lo) ++ map (λ spans. point h ∷ spans) (to_key types hi))
spans_between _ _ _ = [] ∷ []

-- ---- the boxes, as sides

-- these intervals, of a key's first columns
abbrev pub sides_of : List KeyColumn → Spans → List Side
sides_of key [] = []
sides_of [] (interval ∷ spans) = []
sides_of (column ∷ key) (interval ∷ spans) = record { column = column.column; interval = interval } ∷ sides_of key spans

-- the cover of two keys
abbrev pub cover_of : List KeyColumn → (lo hi : List Value) → List (List Side)
cover_of key lo hi = map (sides_of key) (spans_between (types_of key) lo hi)

-- some box of the cover may be true
abbrev pub may_hold_of : Cond → List KeyColumn → (lo hi : List Value) → Bool
may_hold_of cond key lo hi = list_any (λ sides. (mask_of cond sides).may_true) (cover_of key lo hi)

-- ---- the same, box by box

-- a box may be true
abbrev pub box_may : Cond → List KeyColumn → Spans → Bool
box_may cond key spans = (mask_of cond (sides_of key spans)).may_true

-- the first so many values, and then these intervals
abbrev pub fronts : ℕ → List Value → Spans → Spans
fronts zero values spans = spans
fronts (suc n) [] spans = spans
fronts (suc n) (value ∷ values) spans = point value ∷ fronts n values spans

-- an interval, if there is one
abbrev pub opt_span : Option Interval → Spans
opt_span None = []
opt_span (Some interval) = interval ∷ []

-- the values of a column past one
abbrev pub from_span : KeyColumn → Value → Interval
from_span column value = span (past_low (range_at (out-Ty column.ty)) value) (free_high (range_at (out-Ty column.ty)))

-- the values of a column up to one, itself outside
abbrev pub to_span : KeyColumn → Value → Interval
to_span column value = span (free_low (range_at (out-Ty column.ty))) (past_high (range_at (out-Ty column.ty)) value)

-- the values of a column between two, both outside
abbrev pub both_span : KeyColumn → (low high : Value) → Interval
both_span column low high = span (past_low (range_at (out-Ty column.ty)) low) (past_high (range_at (out-Ty column.ty)) high)
