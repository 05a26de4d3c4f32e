-- Opening over a shelf whose files may be known.
use Rattle.std.proofs.Common.{◌≡◌, ℕ, true, List, length, Option, Some, None, refl, ap, sym, subst, ◌∙◌}
use Rattle.std.specs.Prelude.{Result, Ok, Err, IfSome, is_some, if◌then◌else◌, option_map}
use Rattle.std.specs.Str.{is_utf8}
use Rattle.mt_fault.specs.declared.fault.Fault.{Fault}
use Rattle.mt_fault.specs.declared.fault.Why.TheVariants as why
use Rattle.mt_fault.specs.declared.file.FileBytes.{FileBytes}
use Rattle.mt_fault.specs.Faults.{Judged, file_fault}
use Rattle.mt_shelf.specs.declared.file.Entry.{Entry}
use Rattle.mt_shelf.specs.declared.error.ReadError.{ReadError}
use Rattle.mt_shelf.specs.declared.error.ReadError.TheVariants.{AtFault, Shelf, NoMemory}
use Rattle.mt_shelf.specs.Files.{Files, entries_below, is_file_name}
use Rattle.mt_shelf.specs.Paths.{is_path, is_relative, joined_path}
use Rattle.mt_shelf.specs.State.{State, ReadsUpTo}
use Rattle.mt_shelf.proofs.Puts.{path_joined, second_true}
use Rattle.mt_defs.specs.Folder.{folder_of}
use Rattle.mt_files.specs.Listings.{size_in}
use Rattle.mt_files.specs.NamedFiles.{part_folder}
use Rattle.mt_files.specs.ShelfResults.{ReadFails}
use Rattle.mt_files.proofs.ListingLemmas.{known_absence, known_size}
use Rattle.mt_marks.specs.declared.marks.Marks.{Marks}
use Rattle.mt_marked_file.specs.declared.marked_file.MarkedFile.{MarkedFile}
use Rattle.mt_marked_file.specs.Opening.{AreFilesOf, IsReadFault, ShowsFrom, listed_size, marked_in, marks_cost, marks_file_reading, opening, raw_reading}
use Rattle.mt_marked_file.proofs.OpeningLemmas.{data_missing, marks_fail, marks_missing, marks_there, opens, shows_fault, shows_same}

-- ---- faults are counted where the shelf failed

pub fault_after : (A : Type 0) (fault : Fault) (e : ReadError) (before now : ℕ) → now ≡ before → IsReadFault fault e → (let r : Result A ReadError = Err e in ReadFails before now r)
fault_after A fault (AtFault found) before now same is = same
fault_after A fault Shelf before now same is = elim is [ ]
fault_after A fault NoMemory before now same is = same

pub kept_then : {A : Type 0} (result : Result A ReadError) (before now : ℕ) → now ≡ before → ((n : ℕ) → ReadFails n n result) → ReadFails before now result
kept_then result before now same kept = subst (λ (n : ℕ). ReadFails before n result) (sym same) (kept before)

-- ---- the marks file

module _ (stored : Option Files) (part name : List ℕ) (per : ℕ) where
  pub at_hand_shows : (at_hand : List FileBytes) (bytes : List ℕ) (result : Result Marks ReadError) → IfSome stored (λ files. AreFilesOf at_hand (part_folder part files)) → Some bytes ≡ folder_of at_hand name
      → ShowsFrom (λ (found : Marks). found) result (raw_reading name per bytes) → IfSome stored (λ files. ShowsFrom (λ (found : Marks). found) result (marks_file_reading (part_folder part files) name per))
  at_hand_shows at_hand bytes result theirs found shows = by stored theirs
    where
      by : (known : Option Files) → IfSome known (λ files. AreFilesOf at_hand (part_folder part files)) → IfSome known (λ files. ShowsFrom (λ (found : Marks). found) result (marks_file_reading (part_folder part files) name per))
      by None theirs = tt
      by (Some files) theirs =
          shows_same (λ (found : Marks). found) result (marks_file_reading (part_folder part files) name per) (raw_reading name per bytes) (marks_there (part_folder part files) name bytes per (theirs name bytes (sym found))) shows

  pub read_shows : (bytes : List ℕ) (result : Result Marks ReadError) → IfSome stored (λ files. Some bytes ≡ part_folder part files name)
      → ShowsFrom (λ (found : Marks). found) result (raw_reading name per bytes) → IfSome stored (λ files. ShowsFrom (λ (found : Marks). found) result (marks_file_reading (part_folder part files) name per))
  read_shows bytes result there shows = by stored there
    where
      by : (known : Option Files) → IfSome known (λ files. Some bytes ≡ part_folder part files name) → IfSome known (λ files. ShowsFrom (λ (found : Marks). found) result (marks_file_reading (part_folder part files) name per))
      by None there = tt
      by (Some files) there =
          shows_same (λ (found : Marks). found) result (marks_file_reading (part_folder part files) name per) (raw_reading name per bytes) (marks_there (part_folder part files) name bytes per (sym there)) shows

  pub none_shows : (e : ReadError) → IfSome stored (λ files. None ≡ part_folder part files name) → IsReadFault (file_fault name why.Missing) e
      → IfSome stored (λ files. ShowsFrom (λ (found : Marks). found) (Err e) (marks_file_reading (part_folder part files) name per))
  none_shows e absent is = by stored absent
    where
      by : (known : Option Files) → IfSome known (λ files. None ≡ part_folder part files name) → IfSome known (λ files. ShowsFrom (λ (found : Marks). found) (Err e) (marks_file_reading (part_folder part files) name per))
      by None absent = tt
      by (Some files) absent =
          shows_fault (λ (found : Marks). found) (file_fault name why.Missing) e (marks_file_reading (part_folder part files) name per) is (marks_missing (part_folder part files) name per (sym absent))

-- where the marks file isn't at hand, it costs what is listed
pub costs_reading : (at_hand : List FileBytes) (listing : List Entry) (name : List ℕ) (old new : State) → None ≡ folder_of at_hand name → ReadsUpTo (listed_size listing name) old new → ReadsUpTo (marks_cost at_hand listing name) old new
costs_reading at_hand listing name old new none = subst (λ (o : Option (List ℕ)). ReadsUpTo (if is_some o then 0 else listed_size listing name) old new) none

-- ---- both files

pub path_below : (part name path : List ℕ) → is_path part ≡ true → is_file_name name ≡ true → path ≡ joined_path part name → is_path path ≡ true
path_below part name path folder file is = subst (λ (p : List ℕ). is_path p ≡ true) (sym is) (path_joined part name folder (second_true (is_utf8 name) (is_relative name) file))

module _ (stored : Option Files) (part : List ℕ) (listing : List Entry) (data_name marks_name : List ℕ) (per : ℕ) (known : IfSome stored (λ files. listing ≡ entries_below part files)) where
  pub no_data_shows : (e : ReadError) → size_in listing data_name ≡ None → IsReadFault (file_fault data_name why.Missing) e → IfSome stored (λ files. ShowsFrom marked_in (Err e) (opening (part_folder part files) data_name marks_name per))
  no_data_shows e none is = by stored (known_absence part data_name listing stored known none)
    where
      by : (files : Option Files) → IfSome files (λ files. None ≡ part_folder part files data_name) → IfSome files (λ files. ShowsFrom marked_in (Err e) (opening (part_folder part files) data_name marks_name per))
      by None absent = tt
      by (Some files) absent =
          shows_fault marked_in (file_fault data_name why.Missing) e (opening (part_folder part files) data_name marks_name per) is (data_missing (part_folder part files) data_name marks_name per (sym absent))

  pub marks_fail_so : (size : ℕ) (e : ReadError) → size_in listing data_name ≡ Some size → IfSome stored (λ files. ShowsFrom (λ (found : Marks). found) (Err e) (marks_file_reading (part_folder part files) marks_name per))
      → IfSome stored (λ files. ShowsFrom marked_in (Err e) (opening (part_folder part files) data_name marks_name per))
  marks_fail_so size e some fails = by stored (known_size part data_name listing size stored known some) fails
    where
      by : (files : Option Files) → IfSome files (λ files. option_map length (part_folder part files data_name) ≡ Some size)
          → IfSome files (λ files. ShowsFrom (λ (found : Marks). found) (Err e) (marks_file_reading (part_folder part files) marks_name per)) → IfSome files (λ files. ShowsFrom marked_in (Err e) (opening (part_folder part files) data_name marks_name per))
      by None there fails = tt
      by (Some files) there fails = marks_fail (part_folder part files) data_name marks_name per size e there fails

  pub opened_so : (size : ℕ) (marks : Marks) (result : Result MarkedFile ReadError) → size_in listing data_name ≡ Some size → IfSome stored (λ files. marks_file_reading (part_folder part files) marks_name per ≡ Ok marks)
      → ((reading : Judged (ℕ × Marks)) → reading ≡ Ok (size, marks) → ShowsFrom marked_in result reading) → IfSome stored (λ files. ShowsFrom marked_in result (opening (part_folder part files) data_name marks_name per))
  opened_so size marks result some read gives = by stored (known_size part data_name listing size stored known some) read
    where
      by : (files : Option Files) → IfSome files (λ files. option_map length (part_folder part files data_name) ≡ Some size) → IfSome files (λ files. marks_file_reading (part_folder part files) marks_name per ≡ Ok marks)
          → IfSome files (λ files. ShowsFrom marked_in result (opening (part_folder part files) data_name marks_name per))
      by None there read = tt
      by (Some files) there read = gives (opening (part_folder part files) data_name marks_name per) (opens (part_folder part files) data_name marks_name per size marks there read)
