-- Rows that stand in granules, as the writers of the Wide and the Compact layout take them.
use Rattle.std.specs.Prelude.{◌≢◌, ℕ, ◌≤◌, ◌<◌, ◌^◌, List, length, All, AllPairs, IsTrue}
use Rattle.mt_types.specs.Profile.{is_profile}
use Rattle.mt_fault.specs.declared.file.FileBytes.{FileBytes}
use Rattle.mt_table.specs.declared.column.Column.{Column}
use Rattle.mt_table.specs.declared.limits.TheConstants.{MAX_CELLS, MAX_ROWS}
use Rattle.mt_defs.specs.Granules.{AreGranules}
use Rattle.mt_defs.specs.Rows.{Row, RowFits, cell_count}

-- at least one row of columns of types of the profile, within the limits on a part; each row is in a granule
pub record AreLaidOut (columns : List Column) (rows : List Row) (granules : List ℕ) : Type 0 where
  pub types : All (λ column. IsTrue (is_profile column.ty)) columns
  pub not_empty : 1 ≤ length rows
  pub few_rows : length rows ≤ MAX_ROWS
  pub few_cells : cell_count columns rows ≤ MAX_CELLS
  pub fit : All (RowFits columns) rows
  pub cut : AreGranules granules rows

-- the columns have different names
abbrev pub HaveNames : List Column → Type 0
HaveNames = AllPairs (λ a b. a.name ≢ b.name)

-- a file shorter than 2^64 bytes
abbrev pub IsShort : FileBytes → Type 0
IsShort file = length file.bytes < 2 ^ 64

-- all are
abbrev pub AreShort : List FileBytes → Type 0
AreShort = All IsShort
