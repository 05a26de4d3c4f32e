-- The command `merge`: its refusals in order, and the folder that it publishes (docs/CLI.md, "merge").
use Rattle.std.specs.Prelude.{ℕ, List, [], ◌∷◌, Ok}
use Rattle.mt_table.specs.declared.definition.Table.{Table}
use Rattle.mt_fault.specs.declared.file.FileBytes.{FileBytes}
use Rattle.mt_shelf.specs.Files.{Files}
use Rattle.mt_defs.specs.Rows.{Row}
use Rattle.mt_defs.specs.Sorting.{merged_rows}
use Rattle.mt_command.specs.Outcomes.{Outcomes, ◌>>=◌, gives}
use Rattle.mt_command.specs.Parts.{part_steps}
use Rattle.mt_command.specs.Tables.{table_in}
use Rattle.mt_merging.specs.Inputs.{are_ready, folder_of_rows, with_input}

-- an input after those that were read: it is within the limit, has no fault, and joins them
abbrev pub input_steps : Table → Files → List (List Row) → List ℕ → Outcomes (List (List Row))
input_steps table files read part = do
  accepted ← part_steps table part files
  gives (with_input table read accepted.rows)

-- the rows of all inputs, after those that were read
unfoldable pub inputs_steps : Table → Files → List (List Row) → List (List ℕ) → Outcomes (List (List Row))
inputs_steps table files read [] = gives (Ok read)
inputs_steps table files read (part ∷ parts) = do
  more ← input_steps table files read part
  inputs_steps table files more parts

-- the folder of all rows in key order, equal keys by the earlier input
abbrev pub merge_table_steps : Table → List ℕ → List (List ℕ) → Files → Outcomes (List FileBytes)
merge_table_steps table target inputs files = do
  _ ← gives (are_ready target inputs files)
  read ← inputs_steps table files [] inputs
  gives (folder_of_rows table (merged_rows table.sort read))

-- merge TABLE WORKERS OUT IN.. publishes that folder
abbrev pub merge_steps : List ℕ → List ℕ → List (List ℕ) → Files → Outcomes (List FileBytes)
merge_steps path target inputs files = do
  table ← gives (table_in path files)
  merge_table_steps table target inputs files
