-- A part on a shelf, step by step.
use mathlib.Core.Path.{fun_ext}
use Rattle.std.proofs.Common.{◌≡◌, ℕ, List, length, map, refl, ap, sym, subst, ◌∙◌}
use Rattle.std.specs.Prelude.{Option, Some, None, option_map, IfSome, Result, Ok, Err}
use Rattle.std.proofs.lemmas.List.{length-map}
use Rattle.mt_fault.specs.declared.fault.Fault.{Fault}
use Rattle.mt_fault.specs.declared.error.FileError.{FileError}
use Rattle.mt_fault.specs.declared.error.FileError.TheVariants.{AtFault, NoMemory}
use Rattle.mt_shelf.specs.declared.error.ReadError.{ReadError}
use Rattle.mt_shelf.specs.declared.file.Entry.{Entry}
use Rattle.mt_shelf.specs.Causes.{read_error}
use Rattle.mt_shelf.specs.Files.{Files, entries_below}
use Rattle.mt_table.specs.declared.definition.Table.{Table}
use Rattle.mt_defs.specs.Folder.{Folder, folder_of}
use Rattle.mt_defs.specs.Part.{known_names}
use Rattle.mt_defs.specs.Projections.{base_of}
use Rattle.mt_definition.specs.declared.accepted.Accepted.{Accepted}
use Rattle.mt_check.specs.declared.folder.PartFiles.{PartFiles}
use Rattle.mt_types.specs.Steps.{◌>>=◌}
use Rattle.mt_types.proofs.StepLemmas.{then_of}
use Rattle.mt_check.specs.FolderChecks.{files_checks, folder_checks, projection_folders}
use Rattle.mt_files.specs.Listings.{listed_folder, entry_names}
use Rattle.mt_files.specs.PartTexts.{order_reading}
use Rattle.mt_strays.specs.Strays.{names_reading, strays_reading}
use Rattle.mt_check.specs.ListedChecks.{listed_checks}
use Rattle.mt_files.specs.NamedFiles.{file_names, part_folder}
use Rattle.mt_check.specs.PartFiles.{base_files, part_files, read_projection_files}
use Rattle.mt_fault.specs.Results.{FailsAs, Gives}
use Rattle.mt_check.specs.ShelfResults.{GivesFrom}
use Rattle.mt_fault.proofs.FaultLemmas.{fails_then}
use Rattle.mt_strays.proofs.KnownLemmas.{known_listed}
use Rattle.mt_definition.proofs.StoredLemmas.{behind_index}
use Rattle.mt_check.proofs.FolderLemmas.{as_folders}
use Rattle.mt_check.proofs.ReadLemmas.{order_read, part_read}

-- ---- the checks of what was read

abbrev files_given : Table → PartFiles → Result Accepted Fault
files_given table files = files_checks table (folder_of files.base) (as_folders files.projections)

abbrev order_given : Table → PartFiles → Result (List ℕ) Fault
order_given table files = order_reading (base_of table) (folder_of files.base)

abbrev behind_order : Table → List Entry → Accepted → List ℕ → Result Accepted Fault
behind_order table listing accepted order = names_reading table order listing >>= behind_index accepted

abbrev behind_files : Table → PartFiles → List Entry → Accepted → Result Accepted Fault
behind_files table files listing accepted = order_given table files >>= behind_order table listing accepted

pub files_fail : (table : Table) (files : PartFiles) (listing : List Entry) (e : FileError) → FailsAs e (files_given table files) → FailsAs e (listed_checks table files listing)
files_fail table files listing e fails = fails_then e (files_given table files) (behind_files table files listing) fails

module _ (table : Table) (files : PartFiles) (listing : List Entry) (accepted : Accepted) (holds : files_given table files ≡ Ok accepted) where
  known_files : listed_checks table files listing ≡ behind_files table files listing accepted
  known_files = then_of (files_given table files) accepted (behind_files table files listing) holds

  pub order_fails : (e : FileError) → FailsAs e (order_given table files) → FailsAs e (listed_checks table files listing)
  order_fails e fails = subst (FailsAs e) (sym known_files) (fails_then e (order_given table files) (behind_order table listing accepted) fails)

  known_order : (order : List ℕ) → order_given table files ≡ Ok order → listed_checks table files listing ≡ behind_order table listing accepted order
  known_order order lists = known_files ∙ then_of (order_given table files) order (behind_order table listing accepted) lists

  pub names_fail : (order : List ℕ) (e : FileError) → order_given table files ≡ Ok order → FailsAs e (names_reading table order listing) → FailsAs e (listed_checks table files listing)
  names_fail order e lists fails = subst (FailsAs e) (sym (known_order order lists)) (fails_then e (names_reading table order listing) (behind_index accepted) fails)

  pub all_hold : (order : List ℕ) → order_given table files ≡ Ok order → names_reading table order listing ≡ Ok tt → listed_checks table files listing ≡ Ok accepted
  all_hold order lists known = known_order order lists ∙ then_of (names_reading table order listing) tt (behind_index accepted) known

-- ---- the checks of the part

abbrev checks_by : Result Accepted Fault → Result (List ℕ) Fault → (List ℕ → List (List ℕ)) → List (List ℕ) → Result Accepted Fault
checks_by files orders known names = files >>= λ accepted. orders >>= λ order. strays_reading (known order) names >>= behind_index accepted

listed_same : (table : Table) (part : List ℕ) (files : Files)
    → listed_checks table (part_files table (part_folder part files) (entry_names (entries_below part files))) (entries_below part files) ≡ folder_checks table (part_folder part files) (entry_names (entries_below part files))
listed_same table part files =
    let folder = part_folder part files in
    let listing = entries_below part files in
    let names = entry_names listing in
    let known : List ℕ → List (List ℕ) = λ order. known_names table order (listed_folder listing) in
    ap (λ (c : Result Accepted Fault). checks_by c (order_reading (base_of table) (folder_of (base_files table folder))) known names) (part_read table folder names)
    ∙ ap (λ (o : Result (List ℕ) Fault). checks_by (files_checks table folder (projection_folders table folder names)) o known names) (order_read table folder)
    ∙ ap (λ (k : List ℕ → List (List ℕ)). checks_by (files_checks table folder (projection_folders table folder names)) (order_reading (base_of table) folder) k names) (fun_ext λ order. known_listed table order part files)

pub whole_gives : (table : Table) (part : List ℕ) (listing : List Entry) (stored : Option Files) (read : PartFiles) (r : Result Accepted FileError) → IfSome stored (λ files. listing ≡ entries_below part files)
    → IfSome stored (λ files. read ≡ part_files table (part_folder part files) (entry_names listing)) → Gives r (listed_checks table read listing) → IfSome stored (λ files. Gives r (folder_checks table (part_folder part files) (entry_names listing)))
whole_gives table part listing None read r is are gives = tt
whole_gives table part listing (Some files) read r is are gives =
    let folder = part_folder part files in
    subst (λ (es : List Entry). Gives r (folder_checks table folder (entry_names es))) (sym is)
    (subst (λ (c : Result Accepted Fault). Gives r c) (listed_same table part files)
    (subst (λ (es : List Entry). Gives r (listed_checks table (part_files table folder (entry_names es)) es)) is
    (subst (λ (f : PartFiles). Gives r (listed_checks table f listing)) are gives)))

-- an error of the files is one of the part
fails_from : (reading : Result Accepted Fault) (e : FileError) (error : ReadError) → error ≡ read_error e → FailsAs e reading → GivesFrom (let r : Result Accepted ReadError = Err error in r) reading
fails_from reading (AtFault fault) error is fails = subst (λ (x : ReadError). GivesFrom (let r : Result Accepted ReadError = Err x in r) reading) (sym is) fails
fails_from reading NoMemory error is fails = subst (λ (x : ReadError). GivesFrom (let r : Result Accepted ReadError = Err x in r) reading) (sym is) tt

pub whole_fails : (table : Table) (part : List ℕ) (listing : List Entry) (stored : Option Files) (read : PartFiles) (e : FileError) (error : ReadError) → IfSome stored (λ files. listing ≡ entries_below part files)
    → IfSome stored (λ files. read ≡ part_files table (part_folder part files) (entry_names listing)) → error ≡ read_error e → FailsAs e (listed_checks table read listing)
    → IfSome stored (λ files. GivesFrom (let r : Result Accepted ReadError = Err error in r) (folder_checks table (part_folder part files) (entry_names listing)))
whole_fails table part listing None read e error is are same fails = tt
whole_fails table part listing (Some files) read e error is are same fails =
    fails_from (folder_checks table (part_folder part files) (entry_names listing)) e error same (whole_gives table part listing (Some files) read (Err e) is are fails)

pub as_many : (table : Table) (folder : Folder) (names : List (List ℕ)) (read : PartFiles) → map (option_map file_names) read.projections ≡ map (option_map file_names) (map (read_projection_files table folder names) table.projections)
    → length read.projections ≡ length table.projections
as_many table folder names read same =
    sym (length-map read.projections (option_map file_names)) ∙ ap length same ∙ length-map (map (read_projection_files table folder names) table.projections) (option_map file_names)
    ∙ length-map table.projections (read_projection_files table folder names)
