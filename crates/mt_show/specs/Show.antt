-- The command `show`: docs/CLI.md.
use Rattle.std.specs.Prelude.{ℕ, List, Ok}
use Rattle.mt_shelf.specs.Files.{Files, entries_below}
use Rattle.mt_table.specs.declared.definition.Table.{Table}
use Rattle.mt_defs.specs.Folder.{Folder}
use Rattle.mt_definition.specs.declared.accepted.Accepted.{Accepted}
use Rattle.mt_check.specs.FolderChecks.{projection_folders}
use Rattle.mt_command.specs.Outcomes.{Outcomes, ◌>>=◌, gives, refused_by}
use Rattle.mt_command.specs.Parts.{folder_at, listed_names, listing_in, part_checks}
use Rattle.mt_command.specs.Tables.{table_in}
use Rattle.mt_command.specs.declared.status.Status.TheVariants.{AtFault}
use Rattle.mt_show.specs.Shape.{shape_in}
use Rattle.mt_show.specs.Text.{show_text}

-- the text of a part's folder with these names, and of what it stands for
abbrev pub folder_text : Table → Folder → (names : List (List ℕ)) → Accepted → List ℕ
folder_text table folder names accepted = show_text table (shape_in table folder (projection_folders table folder names)) accepted

-- the text of a part whose files have no fault
abbrev pub listed_text : Table → (part : List ℕ) → Files → Outcomes (List ℕ)
listed_text table part files = do
  accepted ← refused_by (AtFault part) (part_checks table part files)
  gives (Ok (folder_text table (folder_at part files) (listed_names (entries_below part files)) accepted))

-- the text of a part that is there and within the limit
abbrev pub part_text : Table → (part : List ℕ) → Files → Outcomes (List ℕ)
part_text table part files = do
  _ ← gives (listing_in part files)
  listed_text table part files

-- show TABLE PART prints it, and refuses as check does
abbrev pub show_steps : (path part : List ℕ) → Files → Outcomes (List ℕ)
show_steps path part files = do
  table ← gives (table_in path files)
  part_text table part files
