-- What the writer asks of a skip index, and the bytes of its marks: docs/FORMAT.md, "Skip indexes".
use Rattle.std.specs.Prelude.{◌≡◌, ℕ, ◌<◌, ◌≤◌, true, List, length}
use Rattle.mt_table.specs.declared.column.Column.{Column}
use Rattle.mt_table.specs.declared.skip.Skip.{Skip}
use Rattle.mt_item.specs.ItemTypes.{is_scalar}
use Rattle.mt_defs.specs.declared.mark.Mark.{Mark}
use Rattle.mt_defs.specs.Metadata.{column_at}
use Rattle.mt_defs.specs.SkipIndexes.{skip_mark_bytes}

-- an index over one of the columns, of a type that a key may have
pub record IsSkip (columns : List Column) (skip : Skip) : Type 0 where
  pub known : skip.column < length columns
  pub scalar : is_scalar (column_at columns skip.column).ty ≡ true
  pub granularity : 1 ≤ skip.granularity

-- the bytes of a mark of an index, and the number 1, which is passed over
abbrev pub passed_mark : Mark → List ℕ
passed_mark mark = skip_mark_bytes (record { mark = mark; rows = 1 })
