-- What `write` and `merge` leave, and when they can be done: docs/CLI.md, "write" and "merge".
use Rattle.std.specs.Prelude.{◌≡◌, ◌≢◌, ℕ, ◌≤◌, List, [], ◌∷◌, length, All, Some, Ok, false}
use Rattle.std.specs.FinMap.{get}
use Rattle.std.specs.Io.KnownBytes.{IsAtEnd}
use Rattle.mt_table.specs.declared.definition.Table.{Table}
use Rattle.mt_table.specs.declared.limits.TheConstants.{MAX_CELLS, MAX_ROWS}
use Rattle.mt_shelf.specs.Files.{Files, entries_below, stands}
use Rattle.mt_shelf.specs.Paths.{is_at_or_below}
use Rattle.mt_defs.specs.Part.{StandsFor}
use Rattle.mt_defs.specs.Partition.{HaveOnePartition}
use Rattle.mt_defs.specs.Rows.{Row, cell_count}
use Rattle.mt_defs.specs.Sorting.{merged_rows, sorted_rows}
use Rattle.mt_defs.specs.Writer.{written_folder}
use Rattle.mt_defs.specs.WrittenGranules.{written_granules}
use Rattle.mt_tsv.specs.Reading.{rows_reading}
use Rattle.mt_definition.specs.declared.accepted.Accepted.{Accepted}
use Rattle.mt_command.specs.Parts.{folder_at, listed_bytes}
use Rattle.mt_command.specs.Plans.{World}
use Rattle.mt_command.specs.Tables.{table_in}
use Rattle.mt_command.specs.Targets.{few_cells, folder_bytes, with_folder}
use Rattle.mt_command.specs.declared.limits.TheConstants.{MAX_FOLDER, MAX_INPUT}
use Rattle.mt_merging.specs.Inputs.{all_rows}
use Rattle.mt_law_run.specs.Parts.{HasPart}

-- ---- a folder that was published

-- rows in the writer's granules
abbrev pub in_granules : Table → List Row → Accepted
in_granules table rows = record { rows = rows; granules = written_granules table.settings table.columns rows }

-- the files with the writer's folder of these rows below a part, and no other change
abbrev pub with_written_part : Table → (part : List ℕ) → List Row → Files → Files
with_written_part table part rows files = with_folder part (Ok (written_folder table rows)) files

-- the writer's folder of these rows was added below a part, where it stands for them in the writer's granules; the file of the table is as it was
pub record HasGained (path part : List ℕ) (table : Table) (rows : List Row) (files : Files) (new : World) : Type 0 where
  pub files_are : new.files ≡ Some (with_written_part table part rows files)
  pub part_is : HasPart (with_written_part table part rows files) path part table (in_granules table rows)

-- ---- write

-- the input was read to its end as rows of the file's table, and their folder in key order was added
pub record Wrote (path part input : List ℕ) (files : Files) (new : World) : Type 0 where
  pub table : Table
  pub table_is : table_in path files ≡ Ok table
  pub rows : List Row
  pub rows_are : rows_reading table.columns input ≡ Ok rows
  pub read_whole : IsAtEnd new.left
  pub gained : HasGained path part table (sorted_rows table.sort rows) files new

-- an input of rows of the file's table, of one partition and within the limits, and a target where nothing stands
pub record CanWrite (files : Files) (path part input : List ℕ) (table : Table) (rows : List Row) : Type 0 where
  pub table_is : table_in path files ≡ Ok table
  pub free : stands part files ≡ false
  pub some : input ≢ []
  pub short : length input ≤ MAX_INPUT
  pub rows_are : rows_reading table.columns input ≡ Ok rows
  pub projections : few_cells table rows ≡ Ok tt
  pub one_partition : HaveOnePartition table rows
  pub small : folder_bytes (written_folder table (sorted_rows table.sort rows)) ≤ MAX_FOLDER

-- ---- merge

-- the folder of each part stands for the rows beside it
abbrev pub StandEach : Table → Files → (parts : List (List ℕ)) → (inputs : List (List Row)) → Type 0
StandEach table files [] [] = Unit {0}
StandEach table files (part ∷ parts) (rows ∷ inputs) = StandsFor table (folder_at part files) rows × StandEach table files parts inputs
StandEach table files parts inputs = ⊥

-- each part stood for rows, and the folder of all of them in key order was added, equal keys by the earlier part
pub record Merged (path target : List ℕ) (parts : List (List ℕ)) (files : Files) (new : World) : Type 0 where
  pub table : Table
  pub table_is : table_in path files ≡ Ok table
  pub inputs : List (List Row)
  pub stand : StandEach table files parts inputs
  pub gained : HasGained path target table (merged_rows table.sort inputs) files new

-- parts of rows of one partition, each within the limit and together within the limits, and a target where nothing stands
pub record CanMerge (files : Files) (path target : List ℕ) (parts : List (List ℕ)) (table : Table) (inputs : List (List Row)) : Type 0 where
  pub table_is : table_in path files ≡ Ok table
  pub free : stands target files ≡ false
  pub stand : StandEach table files parts inputs
  pub small_parts : All (λ part. listed_bytes (entries_below part files) ≤ MAX_FOLDER) parts
  pub one_partition : HaveOnePartition table (all_rows inputs)
  pub few_rows : length (all_rows inputs) ≤ MAX_ROWS
  pub cells : cell_count table.columns (all_rows inputs) ≤ MAX_CELLS
  pub projections : few_cells table (merged_rows table.sort inputs) ≡ Ok tt
  pub small : folder_bytes (written_folder table (merged_rows table.sort inputs)) ≤ MAX_FOLDER

-- ---- what is left alone

-- below a target files may be new, and no other file is; so parts apart from the target are what they were
pub record KeepsOthers (target : List ℕ) (files : Files) (new : World) : Type 0 where
  pub after : Files
  pub files_are : new.files ≡ Some after
  pub file : (path : List ℕ) → is_at_or_below target path ≡ false → get after path ≡ get files path
  pub folder : (other : List ℕ) → is_at_or_below target other ≡ false → is_at_or_below other target ≡ false → folder_at other after ≡ folder_at other files
  pub listing : (other : List ℕ) → is_at_or_below target other ≡ false → is_at_or_below other target ≡ false
      → entries_below other after ≡ entries_below other files
