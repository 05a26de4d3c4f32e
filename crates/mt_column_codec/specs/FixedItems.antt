-- Items of a fixed width: docs/FORMAT.md, "Types and values".
use Rattle.std.specs.Prelude.{ℕ, List}
use Rattle.mt_types.specs.declared.value.Value.{Value}
use Rattle.mt_item.specs.ItemReading.{First, bytes_front, read_as}
use Rattle.mt_cells.specs.declared.kind.Kind.{Kind}
use Rattle.mt_cells.specs.Kinds.{size_of, value_of}

-- the value whose item the bytes begin with, and the bytes that follow it
abbrev pub fixed_front : Kind → List ℕ → First Value
fixed_front kind bytes = read_as (value_of kind) (bytes_front (size_of kind) bytes)
