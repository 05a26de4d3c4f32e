-- A part that a command checks, and what it stands for: docs/CLI.md, "check" and "rows".
use Rattle.std.specs.Prelude.{◌≡◌, ℕ, nat_lt, List, map, Option, None, Some, if◌then◌else◌, Result, Ok, Err}
use Rattle.std.specs.List.{sum_by}
use Rattle.std.specs.FinMap.{get}
use Rattle.mt_table.specs.declared.definition.Table.{Table}
use Rattle.mt_fault.specs.declared.fault.Fault.{Fault}
use Rattle.mt_shelf.specs.declared.file.Entry.{Entry}
use Rattle.mt_shelf.specs.Paths.{joined_path}
use Rattle.mt_shelf.specs.Files.{Files, entries_below, listing_of}
use Rattle.mt_defs.specs.Folder.{Folder}
use Rattle.mt_definition.specs.declared.accepted.Accepted.{Accepted}
use Rattle.mt_check.specs.FolderChecks.{folder_checks}
use Rattle.mt_command.specs.Outcomes.{Outcomes, ◌>>=◌, gives, refused_by}
use Rattle.mt_command.specs.Tables.{table_in}
use Rattle.mt_command.specs.declared.limits.TheConstants.{MAX_FOLDER}
use Rattle.mt_command.specs.declared.status.What.TheVariants as what
use Rattle.mt_command.specs.declared.status.Status.{Status}
use Rattle.mt_command.specs.declared.status.Status.TheVariants.{AtFault, NoPart, TooMuch}

-- ---- the files of a part

-- what the files below a part hold, by their names
abbrev pub folder_at : List ℕ → Files → Folder
folder_at part files name = get files (joined_path part name)

-- the names of a listing
abbrev pub listed_names : List Entry → List (List ℕ)
listed_names listing = map (λ entry. entry.name) listing

-- the bytes of all listed files together
abbrev pub listed_bytes : List Entry → ℕ
listed_bytes listing = sum_by (λ entry. entry.size) listing

-- a listing of files that are within the limit together
abbrev pub few_bytes : List Entry → Result (List Entry) Status
few_bytes listing = if nat_lt MAX_FOLDER (listed_bytes listing) then Err (TooMuch what.Part MAX_FOLDER) else Ok listing

-- a listing of a part, where one is there
abbrev pub listed_part : List ℕ → Option (List Entry) → Result (List Entry) Status
listed_part part None = Err (NoPart part)
listed_part part (Some listing) = few_bytes listing

-- the files below a part, of which there is at least one, within the limit
abbrev pub listing_in : List ℕ → Files → Result (List Entry) Status
listing_in part files = listed_part part (listing_of (entries_below part files))

-- ---- what it stands for

-- what the checks of a part's folder answer: the rows and granules for which it stands, or the first fault
abbrev pub part_checks : Table → List ℕ → Files → Result Accepted Fault → Type 0
part_checks table part files answer = folder_checks table (folder_at part files) (listed_names (entries_below part files)) ≡ answer

-- what a part stands for: it is there, within the limit, and has no fault
abbrev pub part_steps : Table → List ℕ → Files → Outcomes Accepted
part_steps table part files = gives (listing_in part files) >>= λ _. refused_by (AtFault part) (part_checks table part files)

-- the table of a file, and what a part of it stands for
abbrev pub table_part_steps : List ℕ → List ℕ → Files → Outcomes (Table × Accepted)
table_part_steps path part files = do
  table ← gives (table_in path files)
  accepted ← part_steps table part files
  gives (Ok (table, accepted))
