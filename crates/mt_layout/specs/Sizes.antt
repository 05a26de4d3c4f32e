-- Sizes in bytes, over all substreams: docs/FORMAT.md, "Substreams" and "The writer's folder".
use Rattle.std.specs.Prelude.{ℕ, ◌-◌, ◌^◌, min, List, [], ◌∷◌, length, map, sum}
use Rattle.mt_types.specs.declared.ty.Ty.{Ty}
use Rattle.mt_types.specs.declared.value.Value.{Value}
use Rattle.mt_table.specs.declared.column.Column.{Column}
use Rattle.mt_defs.specs.Rows.{Row}
use Rattle.mt_defs.specs.WrittenGranules.{payload_size}
use Rattle.mt_defs.specs.WrittenStreams.{written_streams}

-- the bytes of one value's substreams
unfoldable pub value_size : Ty → Value → ℕ
value_size ty value = sum (map length (written_streams ty (value ∷ [])))

-- the payload bytes of one row
unfoldable pub row_size : List Column → Row → ℕ
row_size columns row = payload_size columns (row ∷ [])

-- a count of bytes, or the greatest number of 64 bits where that is less
abbrev pub saturated : ℕ → ℕ
saturated bytes = min bytes (2 ^ 64 - 1)
