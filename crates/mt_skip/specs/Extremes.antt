-- The least and the greatest of some values.
use Rattle.std.specs.Prelude.{ℕ, Bool, List, take, drop}
use Rattle.std.specs.Ordering.{is_lt}
use Rattle.mt_types.specs.declared.value.Value.{Value}
use Rattle.mt_types.specs.Order.{value_cmp}
use Rattle.mt_skip.specs.declared.extreme.Extreme.{Extreme}
use Rattle.mt_skip.specs.declared.extreme.Extreme.TheVariants.{Least, Greatest}

-- a value comes before another, from an end of the order
abbrev pub is_better : Extreme → Value → Value → Bool
is_better Least value other = is_lt (value_cmp value other)
is_better Greatest value other = is_lt (value_cmp other value)

-- the value at a place, alone
abbrev pub values_at : ℕ → List Value → List Value
values_at place values = take 1 (drop place values)
