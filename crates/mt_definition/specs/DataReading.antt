-- The data and marks of columns, in a folder's own layout.
use Rattle.std.specs.Prelude.{ℕ, if◌then◌else◌, List, Result}
use Rattle.mt_fault.specs.declared.fault.Fault.{Fault}
use Rattle.mt_table.specs.declared.column.Column.{Column}
use Rattle.mt_defs.specs.Folder.{Folder}
use Rattle.mt_defs.specs.Part.{is_compact}
use Rattle.mt_defs.specs.Rows.{Row}
use Rattle.mt_wide.specs.WideReading.{wide_reading}
use Rattle.mt_compact.specs.CompactReading.{compact_reading}

-- the rows of these columns, so many, and their granules, or the first fault of the data and marks files
unfoldable pub data_reading : Folder → ℕ → List Column → Result (List Row × List ℕ) Fault
data_reading folder count columns = if is_compact folder then compact_reading folder count columns else wide_reading folder count columns
