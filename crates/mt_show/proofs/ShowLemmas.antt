-- The steps of `show`, each as the outcome of what follows it.
use Rattle.std.specs.Prelude.{option_map}
use Rattle.std.proofs.Common.{◌≡◌, ℕ, true, false, List, map, Option, Some, None, IfSome, Result, Ok, Err, inl, inr, refl, sym, ap, subst, ◌∙◌}
use Rattle.mt_fault.specs.declared.fault.Fault.{Fault}
use Rattle.mt_fault.specs.declared.error.FileError.{FileError}
use Rattle.mt_fault.specs.declared.error.FileError.TheVariants as error
use Rattle.mt_shelf.specs.declared.file.Entry.{Entry}
use Rattle.mt_shelf.specs.Files.{Files, entries_below}
use Rattle.mt_table.specs.declared.definition.Table.{Table}
use Rattle.mt_defs.specs.Folder.{folder_of}
use Rattle.mt_definition.specs.declared.accepted.Accepted.{Accepted}
use Rattle.mt_check.specs.declared.folder.PartFiles.{PartFiles}
use Rattle.mt_check.specs.ListedChecks.{listed_checks}
use Rattle.mt_check.specs.PartFiles.{part_files}
use Rattle.mt_files.specs.Listings.{entry_names}
use Rattle.mt_files.specs.NamedFiles.{part_folder}
use Rattle.mt_check.proofs.PartLemmas.{whole_gives}
use Rattle.mt_command.specs.Outcomes.{Outcomes, ◌>>=◌, ReturnsOutcome, gives, refused_by}
use Rattle.mt_command.specs.Status.{GivesOutcome, is_outside_fault}
use Rattle.mt_command.specs.declared.status.Status.{Status}
use Rattle.mt_command.specs.declared.status.Status.TheVariants.{AtFault}
use Rattle.mt_command.proofs.PartLemmas.{checks_listed}
use Rattle.mt_show.specs.declared.shape.Shape.{Shape}
use Rattle.mt_show.specs.Shape.{shape_in}
use Rattle.mt_show.specs.Show.{folder_text, listed_text}
use Rattle.mt_show.specs.Text.{show_text}
use Rattle.mt_show.proofs.ShapeLemmas.{shape_same}

-- ---- any step, and what follows it

-- the first step refuses
pub first_refused : {A B : Type 0} (first : Files → Result A Status) (next : A → Files → Outcomes B) (status : Status) (files : Option Files) → IfSome files (λ f. GivesOutcome (let r : Result A Status = Err status in r) (first f))
    → IfSome files (λ f. ReturnsOutcome (let r : Result B Status = Err status in r) (gives (first f) >>= λ x. next x f))
first_refused first next status None refuses = tt
first_refused first next status (Some f) refuses = λ inside. inr (status, sym (refuses inside), refl)

-- the first step has a value, and what follows it this outcome
pub then_outcome : {A B : Type 0} (first : Files → Result A Status) (next : A → Files → Outcomes B) (x : A) (result : Result B Status) (files mid : Option Files) → IfSome files (λ f. first f ≡ Ok x) → mid ≡ files
    → IfSome mid (λ f. ReturnsOutcome result (next x f)) → IfSome files (λ f. ReturnsOutcome result (gives (first f) >>= λ x. next x f))
then_outcome {A} {B} first next x result files mid known same outcome =
    by_result result files known (subst (λ (o : Option Files). IfSome o (λ f. ReturnsOutcome result (next x f))) same outcome)
  where
    by_result : (result : Result B Status) (files : Option Files) → IfSome files (λ f. first f ≡ Ok x) → IfSome files (λ f. ReturnsOutcome result (next x f)) → IfSome files (λ f. ReturnsOutcome result (gives (first f) >>= λ x. next x f))
    by_result (Ok y) None known outcome = tt
    by_result (Ok y) (Some f) known outcome = inl (x, sym known, outcome)
    by_result (Err status) None known outcome = tt
    by_result (Err status) (Some f) known outcome = λ inside. inl (x, sym known, outcome inside)

-- ---- the part

-- what is said of a part that is refused
abbrev pub RefusesListed : Table → List ℕ → Status → Files → Type 0
RefusesListed table part status f = ReturnsOutcome (let r : Result (List ℕ) Status = Err status in r) (listed_text table part f)

-- a fault from outside
pub outside_refused : (table : Table) (part : List ℕ) (status : Status) (files : Option Files) → is_outside_fault status ≡ true → IfSome files (RefusesListed table part status)
outside_refused table part status None outside = tt
outside_refused table part status (Some f) outside = λ inside. let never : true ≡ false = sym outside ∙ inside in cc

-- the files that were read are at fault
pub listed_refused : (table : Table) (part : List ℕ) (listing : List Entry) (files : PartFiles) (status : Status) (stored : Option Files) → IfSome stored (λ f. listing ≡ entries_below part f)
    → IfSome stored (λ f. files ≡ part_files table (part_folder part f) (entry_names listing)) → ReturnsOutcome (let r : Result Accepted Status = Err status in r) (refused_by (AtFault part) (λ answer. listed_checks table files listing ≡ answer)) → IfSome stored (RefusesListed table part status)
listed_refused table part listing files status None is are refuses = tt
listed_refused table part listing files status (Some f) is are refuses = λ inside. refused (refuses inside)
  where
    refused : ((fault : Fault) × (listed_checks table files listing ≡ Err fault) × (status ≡ AtFault part fault)) → listed_text table part f (Err status)
    refused found =
        let answer : Result Accepted FileError = Err (error.AtFault found.0) in
        let whole = whole_gives table part listing (Some f) files answer is are found.1 in
        inr (status, (found.0, checks_listed table part listing (Err found.0) (Some f) is whole, found.2), refl)

-- the text of the files that were read
pub listed_given : (table : Table) (part : List ℕ) (listing : List Entry) (files : PartFiles) (accepted : Accepted) (text : List ℕ) (stored : Option Files) → IfSome stored (λ f. listing ≡ entries_below part f)
    → IfSome stored (λ f. files ≡ part_files table (part_folder part f) (entry_names listing)) → listed_checks table files listing ≡ Ok accepted
    → text ≡ show_text table (shape_in table (folder_of files.base) (map (option_map folder_of) files.projections)) accepted → IfSome stored (λ f. listed_text table part f (Ok text))
listed_given table part listing files accepted text None is are accepts made = tt
listed_given table part listing files accepted text (Some f) is are accepts made =
    let answer : Result Accepted FileError = Ok accepted in
    let whole = whole_gives table part listing (Some f) files answer is are accepts in
    let folder = part_folder part f in
    let names = entry_names (entries_below part f) in
    let same : text ≡ folder_text table folder names accepted =
    made ∙ ap (λ (fs : PartFiles). show_text table (shape_in table (folder_of fs.base) (map (option_map folder_of) fs.projections)) accepted) are
    ∙ ap (λ (shape : Shape). show_text table shape accepted) (shape_same table folder (entry_names listing)) ∙ ap (λ (es : List Entry). folder_text table folder (entry_names es) accepted) is in
    inl (accepted, checks_listed table part listing (Ok accepted) (Some f) is whole, ok_is text (folder_text table folder names accepted) same)
  where
    ok_is : (a b : List ℕ) → a ≡ b → (let r : Result (List ℕ) Status = Ok a in r) ≡ Ok b
    ok_is a b same = cc
