-- What is checked of rows once they are read: docs/FORMAT.md, "The first fault".
use Rattle.std.specs.Prelude.{ℕ, suc, ◌+◌, ◌-◌, nat_lt, ◌==◌, Bool, if◌then◌else◌, List, [], ◌∷◌, length, map, take, drop, Option, Some, None, option_map, Result}
use Rattle.std.specs.List.{range_with_len}
use Rattle.std.specs.Str.{bytes_eq}
use Rattle.std.specs.Ordering.{is_lt}
use Rattle.mt_types.specs.declared.value.Value.{Value}
use Rattle.mt_types.specs.Defaults.{default_of}
use Rattle.mt_fault.specs.declared.fault.Fault.{Fault}
use Rattle.mt_fault.specs.declared.fault.Why.TheVariants.{Key, Over}
use Rattle.mt_types.specs.Steps.{◌>>=◌, require}
use Rattle.mt_table.specs.declared.column.Column.{Column}
use Rattle.mt_table.specs.Kept.{is_one_of}
use Rattle.mt_defs.specs.Metadata.{column_at}
use Rattle.mt_defs.specs.Rows.{Row, cell, key_cmp}
use Rattle.mt_defs.specs.PrimaryIndex.{index_name}
use Rattle.mt_defs.specs.Projections.{index_in}
use Rattle.mt_fault.specs.Faults.{file_fault, granule_fault}

-- a row's value in a column of the definition: that of the file where the folder lists the column, or else the default of its type
abbrev pub value_in : List Column → List ℕ → Row → ℕ → Value
value_in columns order row i = if is_one_of order i then cell row (index_in order i) else default_of (column_at columns i).ty

-- a row of all columns, of one of those that the folder lists
abbrev pub whole_row : List Column → List ℕ → Row → Row
whole_row columns order row = map (value_in columns order row) (range_with_len 0 (length columns))

-- the granule of a row, by the row's index
abbrev pub granule_of : List ℕ → ℕ → ℕ
granule_of [] row = 0
granule_of (count ∷ granules) row = if nat_lt row count then 0 else suc (granule_of granules (row - count))

-- the first element that passes a test, by its index
abbrev pub first_index : {X : Type 0} → (X → Bool) → List X → Option ℕ
first_index test [] = None
first_index test (x ∷ xs) = if test x then Some 0 else option_map suc (first_index test xs)

-- the first row that is below the row before it, by its index
abbrev pub first_fall : List ℕ → List Row → Option ℕ
first_fall sort [] = None
first_fall sort (row ∷ []) = None
first_fall sort (before ∷ row ∷ rows) = if is_lt (key_cmp sort row before) then Some 1 else option_map suc (first_fall sort (row ∷ rows))

-- the bytes are these keys, one after another, the first of them that of a granule (6.2, 6.3)
unfoldable pub keys_reading : ℕ → List (List ℕ) → List ℕ → Result Unit Fault
keys_reading granule [] bytes = require (length bytes == 0) (file_fault index_name Over)
keys_reading granule (key ∷ keys) bytes = do
  _ ← require (bytes_eq (take (length key) bytes) key) (granule_fault index_name granule Key)
  keys_reading (granule + 1) keys (drop (length key) bytes)
