-- The command `write`: its refusals in order, and the files that it adds.
use Rattle.std.specs.Prelude.{ℕ, true, false, nat_lt, List, [], ◌∷◌, length, if◌then◌else◌, Result, Ok, Err}
use Rattle.mt_table.specs.declared.definition.Table.{Table}
use Rattle.mt_tsv.specs.Reading.{rows_reading}
use Rattle.mt_fault.specs.declared.file.FileBytes.{FileBytes}
use Rattle.mt_shelf.specs.Files.{Files}
use Rattle.mt_defs.specs.Rows.{Row}
use Rattle.mt_defs.specs.Sorting.{sorted_rows}
use Rattle.mt_defs.specs.Writer.{written_folder}
use Rattle.mt_command.specs.Status.{◌>>=◌, refused_by, refusal, status_of_rows}
use Rattle.mt_command.specs.Plans.{Plan}
use Rattle.mt_command.specs.Tables.{table_in}
use Rattle.mt_command.specs.Targets.{free_target, few_cells, with_folder, within_limit}
use Rattle.mt_command.specs.declared.limits.TheConstants.{MAX_INPUT}
use Rattle.mt_command.specs.declared.status.What.TheVariants as what
use Rattle.mt_command.specs.declared.status.Status.{Status}
use Rattle.mt_command.specs.declared.status.Status.TheVariants.{TooMuch, NoRows}
use Rattle.mt_writing.specs.Partitions.{lines_partition}

-- the table of a file, where the target is free
abbrev pub table_for : List ℕ → List ℕ → Files → Result Table Status
table_for path part files = do
  table ← table_in path files
  _ ← free_target part files
  Ok table

-- an input that has a byte
abbrev pub some_input : List ℕ → Result (List ℕ) Status
some_input [] = Err NoRows
some_input (byte ∷ more) = Ok (byte ∷ more)

-- an input within the limit, which has a byte
abbrev pub input_text : List ℕ → Result (List ℕ) Status
input_text input = if nat_lt MAX_INPUT (length input) then Err (TooMuch what.Input MAX_INPUT) else some_input input

-- the rows of a text, or the first line that is none
unfoldable pub rows_of_text : Table → List ℕ → Result (List Row) Status
rows_of_text table text = refused_by status_of_rows (rows_reading table.columns text)

-- the writer's folder of the rows of a text in key order, which are of one partition and within the limits
unfoldable pub folder_of_text : Table → List ℕ → Result (List FileBytes) Status
folder_of_text table text = do
  rows ← rows_of_text table text
  _ ← few_cells table rows
  _ ← lines_partition table rows
  within_limit (written_folder table (sorted_rows table.sort rows))

-- the folder of the input's rows
abbrev pub folder_for : Table → List ℕ → Result (List FileBytes) Status
folder_for table input = input_text input >>= folder_of_text table

-- the folder that the command publishes, or its first refusal
abbrev pub folder_in : List ℕ → List ℕ → Files → List ℕ → Result (List FileBytes) Status
folder_in path part files input = table_for path part files >>= λ table. folder_for table input

-- write TABLE PART WORKERS
abbrev pub write_plan : List ℕ → List ℕ → Plan
write_plan path part = record {
  early = λ files. refusal (table_for path part files);
  late = λ files input. refusal (folder_in path part files input);
  reads = true;
  prints = false;
  files = λ files input. with_folder part (folder_in path part files input) files;
  text = λ _ _. [];
}
