-- The target of a command that publishes a folder: docs/CLI.md, "write".
use Rattle.std.specs.Prelude.{ℕ, Bool, nat_lt, List, length, map, sum_by, if◌then◌else◌, Result, Ok, Err}
use Rattle.std.specs.List.{list_any}
use Rattle.mt_table.specs.declared.definition.Table.{Table}
use Rattle.mt_table.specs.declared.projection.Projection.{Projection}
use Rattle.mt_table.specs.declared.limits.TheConstants.{MAX_CELLS}
use Rattle.mt_table.specs.Rows.{cell_count}
use Rattle.mt_table.specs.Stored.{inner_of}
use Rattle.mt_fault.specs.declared.file.FileBytes.{FileBytes}
use Rattle.mt_shelf.specs.Files.{Files, stands, gained_files}
use Rattle.mt_shelf.specs.Held.{pair_of}
use Rattle.mt_defs.specs.Rows.{Row}
use Rattle.mt_defs.specs.Writer.{projection_rows}
use Rattle.mt_command.specs.declared.limits.TheConstants.{MAX_FOLDER}
use Rattle.mt_command.specs.declared.status.What.TheVariants as what
use Rattle.mt_command.specs.declared.status.Status.{Status}
use Rattle.mt_command.specs.declared.status.Status.TheVariants.{Exists, TooMuch}

-- a target where no file stands, nor below it
abbrev pub free_target : List ℕ → Files → Result Unit Status
free_target part files = if stands part files then Err Exists else Ok tt

-- whether a projection of these rows has more cells than a part may have
abbrev pub has_many_cells : Table → List Row → Projection → Bool
has_many_cells table rows projection = nat_lt MAX_CELLS (cell_count (inner_of table projection).columns (projection_rows table projection rows))

-- rows of which each projection is within the limit on cells
abbrev pub few_cells : Table → List Row → Result Unit Status
few_cells table rows = if list_any (has_many_cells table rows) table.projections then Err (TooMuch what.Cells MAX_CELLS) else Ok tt

-- the bytes of all files together
abbrev pub folder_bytes : List FileBytes → ℕ
folder_bytes folder = sum_by (λ file. length file.bytes) folder

-- a folder within the limit
abbrev pub within_limit : List FileBytes → Result (List FileBytes) Status
within_limit folder = if nat_lt MAX_FOLDER (folder_bytes folder) then Err (TooMuch what.Part MAX_FOLDER) else Ok folder

-- the files with a folder below a part, or as they are
abbrev pub with_folder : List ℕ → Result (List FileBytes) Status → Files → Files
with_folder part (Ok folder) files = gained_files part (map pair_of folder) files
with_folder part (Err status) files = files
