-- Skip indexes as the checks of their files want them: docs/FORMAT.md, "Skip indexes".
use Rattle.std.specs.Prelude.{◌≡◌, ◌<◌, ◌≤◌, true, List, length, All}
use Rattle.mt_table.specs.declared.column.Column.{Column}
use Rattle.mt_table.specs.declared.definition.Table.{Table}
use Rattle.mt_table.specs.declared.skip.Skip.{Skip}
use Rattle.mt_table.specs.declared.limits.TheConstants.{MAX_GRANULARITY}
use Rattle.mt_defs.specs.Metadata.{column_at}
use Rattle.mt_meta.specs.Keys.{is_scalar}

-- an index over a column of the type of a key, over at least a granule
pub record IsSkip (columns : List Column) (skip : Skip) : Type 0 where
  pub known : skip.column < length columns
  pub scalar : is_scalar (column_at columns skip.column).ty ≡ true
  pub some : 1 ≤ skip.granularity
  pub small : skip.granularity ≤ MAX_GRANULARITY

-- such are all indexes of a table
abbrev pub HasSkips : Table → Type 0
HasSkips table = All (IsSkip table.columns) table.skips
