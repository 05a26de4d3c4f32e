-- What opening a data file with its marks file reads: docs/FORMAT.md, "Marks".
use Rattle.std.specs.Prelude.{◌≡◌, ℕ, nat_le, if◌then◌else◌, List, length, sum, Option, Some, None, is_some, option_map, unwrap_or, Result, Ok, Err}
use Rattle.mt_types.specs.Steps.{◌>>=◌, ok_or, require}
use Rattle.mt_table.specs.declared.limits.TheConstants.{MAX_ROWS}
use Rattle.mt_fault.specs.declared.file.FileBytes.{FileBytes}
use Rattle.mt_fault.specs.declared.fault.Fault.{Fault}
use Rattle.mt_fault.specs.declared.fault.Why.TheVariants as why
use Rattle.mt_fault.specs.Faults.{Judged, file_fault}
use Rattle.mt_shelf.specs.declared.file.Entry.{Entry}
use Rattle.mt_shelf.specs.declared.error.ReadError.{ReadError}
use Rattle.mt_shelf.specs.declared.error.ReadError.TheVariants.{AtFault, Shelf, NoMemory}
use Rattle.mt_defs.specs.Folder.{Folder, folder_of}
use Rattle.mt_defs.specs.Lists.{AreBytes}
use Rattle.mt_frame.specs.declared.frames.Frames.{Frames}
use Rattle.mt_marks.specs.declared.marks.Marks.{Marks}
use Rattle.mt_marks.specs.Entries.{entries_of}
use Rattle.mt_marks.specs.MarkReading.{entries_reading, marks_of, rules_reading}
use Rattle.mt_files.specs.Listings.{size_in}
use Rattle.mt_granules.specs.PayloadReading.{GranulePayloads, frames_in, granules_of, payloads_of}
use Rattle.mt_marked_file.specs.declared.marked_file.MarkedFile.{MarkedFile}

-- ---- the reading

-- the entries, where there is at least one granule and the end, and no more rows than a part may have
abbrev pub counts_check : (name : List ℕ) → Marks → Judged Marks
counts_check name marks = do
  _ ← require (nat_le 2 (length marks.rows)) (file_fault name why.Length)
  _ ← require (nat_le (sum (granules_of marks)) MAX_ROWS) (file_fault name why.TooLong)
  Ok marks

-- the entries of a marks file
abbrev pub raw_reading : (name : List ℕ) → (per_granule : ℕ) → (bytes : List ℕ) → Judged Marks
raw_reading name per_granule bytes =
    ok_or (file_fault name why.Length) (option_map (marks_of per_granule) (entries_reading per_granule bytes)) >>= counts_check name

-- the same of the file of a name
abbrev pub marks_file_reading : Folder → (name : List ℕ) → (per_granule : ℕ) → Judged Marks
marks_file_reading folder name per_granule = ok_or (file_fault name why.Missing) (folder name) >>= raw_reading name per_granule

-- the size of a data file, and the entries of its marks file
abbrev pub opening : Folder → (data_name marks_name : List ℕ) → (per_granule : ℕ) → Judged (ℕ × Marks)
opening folder data_name marks_name per_granule = do
  size ← ok_or (file_fault data_name why.Missing) (option_map length (folder data_name))
  marks ← marks_file_reading folder marks_name per_granule
  Ok (size, marks)

-- what a file that was opened says
abbrev pub marked_in : MarkedFile → ℕ × Marks
marked_in file = (file.size, file.marks)

-- what was returned shows what was read, unless the shelf failed or memory ran out
abbrev pub ShowsFrom : {A B : Type 0} → (A → B) → Result A ReadError → Judged B → Type 0
ShowsFrom view (Ok found) reading = reading ≡ Ok (view found)
ShowsFrom view (Err (AtFault fault)) reading = reading ≡ Err fault
ShowsFrom view (Err Shelf) reading = Unit {0}
ShowsFrom view (Err NoMemory) reading = Unit {0}

-- the error is this fault, out of memory aside
abbrev pub IsReadFault : Fault → ReadError → Type 0
IsReadFault fault (AtFault found) = found ≡ fault
IsReadFault fault Shelf = ⊥
IsReadFault fault NoMemory = Unit {0}

-- ---- the bytes that it takes

-- each of these files is one of the folder's
abbrev pub AreFilesOf : List FileBytes → Folder → Type 0
AreFilesOf files folder = (name bytes : List ℕ) → folder_of files name ≡ Some bytes → folder name ≡ Some bytes

-- the bytes of a file, by a listing
abbrev pub listed_size : List Entry → List ℕ → ℕ
listed_size listing name = unwrap_or (size_in listing name) 0

-- the bytes of a marks file, none where it is at hand
abbrev pub marks_cost : List FileBytes → List Entry → List ℕ → ℕ
marks_cost at_hand listing name = if is_some (folder_of at_hand name) then 0 else listed_size listing name

-- ---- the law

-- The two files are opened; the file is made of frames, its marks keep the rules there, and these are the
-- payloads that they cut.
pub record IsOpened (folder : Folder) (data_name marks_name : List ℕ) (per_granule : ℕ) (read : GranulePayloads) : Type 0 where
  pub file : List ℕ
  pub frames : Frames
  pub marks : Marks
  pub there : folder data_name ≡ Some file
  pub opened : opening folder data_name marks_name per_granule ≡ Ok (length file, marks)
  pub bytes : AreBytes file
  pub framed : frames_in file ≡ Ok frames
  pub ruled : rules_reading frames 0 0 None (entries_of marks) ≡ Ok tt
  pub payloads : read ≡ payloads_of file frames marks
