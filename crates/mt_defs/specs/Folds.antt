-- Aggregates over rows, and their states: docs/FORMAT.md, "States" (ClickHouse: IAggregateFunction).
use Rattle.std.specs.Prelude.{ℕ, ◌+◌, ◌%◌, ◌^◌, ℤ, pos, List, [], ◌∷◌, length, map, Option, Some, None}
use Rattle.std.specs.List.{sum_by}
use Rattle.std.specs.Int.{w128, int_min, int_max, cast_unsigned}
use Rattle.mt_types.specs.declared.ty.Agg.TheVariants.{Sum, Min, Max}
use Rattle.mt_types.specs.declared.value.AggState.{AggState}
use Rattle.mt_types.specs.declared.value.AggState.TheVariants as state
use Rattle.mt_types.specs.declared.value.Value.{Value, out-Value}
use Rattle.mt_types.specs.declared.value.Value.TheOpen.{Value-F}
use Rattle.mt_table.specs.declared.projection.Aggregate.{Aggregate}
use Rattle.mt_table.specs.declared.projection.Aggregate.TheVariants.{Count, Of}
use Rattle.mt_defs.specs.Rows.{Row, cell}

-- ---- states over numbers

-- the lesser of two numbers, where there are two
abbrev pub lesser : Option ℤ → Option ℤ → Option ℤ
lesser None other = other
lesser (Some m) None = Some m
lesser (Some m) (Some n) = Some (int_min m n)

-- the greater of two numbers, where there are two
abbrev pub greater : Option ℤ → Option ℤ → Option ℤ
greater None other = other
greater (Some m) None = Some m
greater (Some m) (Some n) = Some (int_max m n)

-- the least number, or nothing
abbrev pub least : List ℤ → Option ℤ
least [] = None
least (n ∷ ns) = lesser (Some n) (least ns)

-- the greatest number, or nothing
abbrev pub greatest : List ℤ → Option ℤ
greatest [] = None
greatest (n ∷ ns) = greater (Some n) (greatest ns)

-- the sum modulo 2^64, in two's complement
abbrev pub wrapped_sum : List ℤ → ℕ
wrapped_sum ns = sum_by (λ n. cast_unsigned w128 n) ns % 2 ^ 64

-- the state of an aggregate over some numbers
abbrev pub state_of : Aggregate → List ℤ → AggState
state_of Count ns = state.Count (length ns % 2 ^ 64)
state_of (Of Sum i) ns = state.Sum (wrapped_sum ns)
state_of (Of Min i) ns = state.Least (least ns)
state_of (Of Max i) ns = state.Greatest (greatest ns)

-- ---- folds over rows

-- the number of a value, or 0
abbrev pub number_or_zero : Value-F Value → ℤ
number_or_zero (Value-F.Num n) = n
number_or_zero _ = pos 0

-- the number that an aggregate takes of a row; a count takes any
abbrev pub number_taken : Aggregate → Row → ℤ
number_taken Count row = pos 0
number_taken (Of agg i) row = number_or_zero (out-Value (cell row i))

-- the state of an aggregate over some rows
abbrev pub fold_of : List Row → Aggregate → AggState
fold_of rows aggregate = state_of aggregate (map (number_taken aggregate) rows)

-- ---- merges

-- two states together; none where they are of two kinds
abbrev pub states_join : AggState → AggState → Option AggState
states_join (state.Count m) (state.Count n) = Some (state.Count ((m + n) % 2 ^ 64))
states_join (state.Sum m) (state.Sum n) = Some (state.Sum ((m + n) % 2 ^ 64))
states_join (state.Least m) (state.Least n) = Some (state.Least (lesser m n))
states_join (state.Greatest m) (state.Greatest n) = Some (state.Greatest (greater m n))
states_join _ _ = None

-- two states together, where both are there
abbrev pub join : Option AggState → Option AggState → Option AggState
join None other = None
join (Some s) None = None
join (Some s) (Some t) = states_join s t

-- some states joined with another
abbrev pub merge_upon : Option AggState → List (Option AggState) → Option AggState
merge_upon other [] = other
merge_upon other (s ∷ states) = join s (merge_upon other states)

-- the states of an aggregate together: those of no rows where there are none
abbrev pub merge_of : Aggregate → List (Option AggState) → Option AggState
merge_of aggregate states = merge_upon (Some (state_of aggregate [])) states
