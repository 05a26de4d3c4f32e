-- A part that a command reads, and what the run says of it: docs/CLI.md, "check", "rows", "show" and "select".
use Rattle.std.specs.Prelude.{◌≡◌, ◌≢◌, ℕ, ◌≤◌, List, [], Ok, Err}
use Rattle.mt_table.specs.declared.definition.Table.{Table}
use Rattle.mt_fault.specs.declared.fault.Fault.{Fault}
use Rattle.mt_shelf.specs.Files.{Files, entries_below}
use Rattle.mt_defs.specs.Part.{StandsFor, StandsForIn}
use Rattle.mt_defs.specs.Rows.{Row}
use Rattle.mt_definition.specs.declared.accepted.Accepted.{Accepted}
use Rattle.mt_command.specs.Parts.{folder_at, listed_bytes, listed_names, part_checks}
use Rattle.mt_command.specs.Plans.{World}
use Rattle.mt_command.specs.Tables.{table_in}
use Rattle.mt_command.specs.declared.limits.TheConstants.{MAX_FOLDER}
use Rattle.mt_command.specs.declared.status.Status.{Status}
use Rattle.mt_command.specs.declared.status.Status.TheVariants.{Done, AtFault}
use Rattle.mt_show.specs.Show.{folder_text}
use Rattle.mt_law_run.specs.Endings.{Printed}

-- ---- a part that stands for rows

-- the file of a table, and below a part a folder within the limit that stands for these rows in these granules
pub record HasPart (files : Files) (path part : List ℕ) (table : Table) (held : Accepted) : Type 0 where
  pub table_is : table_in path files ≡ Ok table
  pub small : listed_bytes (entries_below part files) ≤ MAX_FOLDER
  pub stands : StandsForIn table (folder_at part files) held.rows held.granules

-- the run printed the text of what the part stands for
pub record Read (path part : List ℕ) (files : Files) (old new : World) (text : Table → Accepted → List ℕ) : Type 0 where
  pub table : Table
  pub held : Accepted
  pub has : HasPart files path part table held
  pub printed : Printed old new Done (text table held)

-- the text by which `show` describes a part and what it stands for
abbrev pub shown_text : Table → (part : List ℕ) → Files → Accepted → List ℕ
shown_text table part files held = folder_text table (folder_at part files) (listed_names (entries_below part files)) held

-- ---- a part that stands for none

-- the folder below a part stands for no rows
abbrev pub StandsForNone : Table → List ℕ → Files → Type 0
StandsForNone table part files = (rows : List Row) → ¬ StandsFor table (folder_at part files) rows

-- the file of a table, and a part of which some file is there, within the limit
pub record HasFiles (files : Files) (path part : List ℕ) (table : Table) : Type 0 where
  pub table_is : table_in path files ≡ Ok table
  pub some : entries_below part files ≢ []
  pub small : listed_bytes (entries_below part files) ≤ MAX_FOLDER

-- the run is refused by the first fault of the part's checks
pub record FirstFault (table : Table) (part : List ℕ) (files : Files) (status : Status) : Type 0 where
  pub fault : Fault
  pub is : status ≡ AtFault part fault
  pub first : part_checks table part files (Err fault)

-- the part is named with its first fault, and stands for no rows
pub record IsAtFault (path part : List ℕ) (files : Files) (word : List ℕ) (fault : Fault) : Type 0 where
  pub table : Table
  pub table_is : table_in path files ≡ Ok table
  pub named : word ≡ part
  pub first : part_checks table part files (Err fault)
  pub none : StandsForNone table part files
