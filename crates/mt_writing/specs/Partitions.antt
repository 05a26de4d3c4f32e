-- Lines of one partition: docs/FORMAT.md, "Partition".
use Rattle.std.specs.Prelude.{ℕ, ◌+◌, Bool, if◌then◌else◌, List, [], ◌∷◌, Option, None, Some, Result, Ok, Err}
use Rattle.std.specs.Str.{bytes_eq}
use Rattle.mt_table.specs.declared.definition.Table.{Table}
use Rattle.mt_defs.specs.Partition.{partition_bytes}
use Rattle.mt_defs.specs.Rows.{Row}
use Rattle.mt_command.specs.declared.status.Status.{Status}
use Rattle.mt_command.specs.declared.status.Status.TheVariants.{ManyPartitions}

-- whether two rows have the same partition value
abbrev pub are_together : Table → Row → Row → Bool
are_together table a b = bytes_eq (partition_bytes table a) (partition_bytes table b)

-- the first line, counted from this one, whose row has another partition value than a row
unfoldable pub other_line : Table → (first : Row) → (line : ℕ) → List Row → Option ℕ
other_line table first line [] = None
other_line table first line (row ∷ rows) = if are_together table first row then other_line table first (line + 1) rows else Some line

-- the first line, from 1, whose partition value isn't line 1's
abbrev pub other_partition_line : Table → List Row → Option ℕ
other_partition_line table [] = None
other_partition_line table (first ∷ rows) = other_line table first 1 (first ∷ rows)

-- no such line
abbrev pub no_other : Option ℕ → Result Unit Status
no_other None = Ok tt
no_other (Some line) = Err (ManyPartitions line)

-- rows of one partition, or the first line of another
abbrev pub lines_partition : Table → List Row → Result Unit Status
lines_partition table rows = no_other (other_partition_line table rows)
