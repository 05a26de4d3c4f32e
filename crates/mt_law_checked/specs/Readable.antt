-- Definitions whose folders can be read: docs/FORMAT.md, "Metadata".
use Rattle.std.specs.Prelude.{◌≤◌, length, All}
use Rattle.mt_table.specs.declared.column.Column.{Column}
use Rattle.mt_table.specs.declared.definition.PartDef.{PartDef}
use Rattle.mt_defs.specs.Lists.{AreBytes}
use Rattle.mt_meta.specs.ColumnsReading.{CanBeListed}

-- a column whose name is bytes
abbrev pub HasByteName : Column → Type 0
HasByteName column = AreBytes column.name

-- there is a column that each folder has, and a columns.txt can list all
pub record IsReadable (definition : PartDef) : Type 0 where
  pub some : 1 ≤ length definition.must
  pub listed : CanBeListed definition.columns
  pub named : All HasByteName definition.columns
