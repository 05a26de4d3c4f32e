-- The least and the greatest value of a column: docs/FORMAT.md, "Partition".
use Rattle.std.specs.Prelude.{Bool, List}
use Rattle.std.specs.Ordering.{is_lt}
use Rattle.mt_types.specs.declared.value.Value.{Value}
use Rattle.mt_types.specs.Order.{value_cmp}
use Rattle.mt_defs.specs.WrittenPartition.{best_of}

-- the first value is less than the second
abbrev pub is_less : Value → Value → Bool
is_less v w = is_lt (value_cmp v w)

-- the first value is greater than the second
abbrev pub is_greater : Value → Value → Bool
is_greater v w = is_lt (value_cmp w v)

-- the least of some values, or nothing
abbrev pub least_of : List Value → List Value
least_of values = best_of is_less values

-- the greatest of some values, or nothing
abbrev pub greatest_of : List Value → List Value
greatest_of values = best_of is_greater values
