-- The steps that read a part.
use Rattle.std.proofs.Common.{◌≡◌, ℕ, true, List, Option, Some, None, IfSome, Result, Ok, Err, inl, inr, refl, ap, sym, subst}
use Rattle.mt_table.specs.declared.definition.Table.{Table}
use Rattle.mt_fault.specs.declared.fault.Fault.{Fault}
use Rattle.mt_shelf.specs.declared.file.Entry.{Entry}
use Rattle.mt_shelf.specs.Files.{Files, entries_below}
use Rattle.mt_definition.specs.declared.accepted.Accepted.{Accepted}
use Rattle.mt_check.specs.FolderChecks.{folder_checks}
use Rattle.mt_command.specs.Outcomes.{ReturnsOutcome, refused_by}
use Rattle.mt_command.specs.Parts.{folder_at, listed_names, listing_in, part_checks, part_steps, table_part_steps}
use Rattle.mt_command.specs.Status.{GivesOutcome, IsNamed, is_outside_fault}
use Rattle.mt_command.specs.Tables.{table_in}
use Rattle.mt_command.specs.declared.status.Status.{Status}
use Rattle.mt_command.specs.declared.status.Status.TheVariants.{AtFault}

-- what the checks of the listed files answer, where they are the part's
abbrev Listed : Table → List ℕ → List Entry → Result Accepted Fault → Option Files → Type 0
Listed table part listing answer files = IfSome files (λ f. folder_checks table (folder_at part f) (listed_names listing) ≡ answer)

pub checks_listed : (table : Table) (part : List ℕ) (listing : List Entry) (answer : Result Accepted Fault) (files : Option Files) → IfSome files (λ f. listing ≡ entries_below part f) → Listed table part listing answer files
    → IfSome files (λ f. part_checks table part f answer)
checks_listed table part listing answer None known checks = tt
checks_listed table part listing answer (Some f) known checks = let P : List Entry → Type 0 = λ l. folder_checks table (folder_at part f) (listed_names l) ≡ answer in subst P known checks

-- the first fault is the refusal, unless there is no memory for the part's name
pub fault_listed : (table : Table) (part : List ℕ) (listing : List Entry) (fault : Fault) (status : Status) (files : Option Files) → IfSome files (λ f. listing ≡ entries_below part f) → Listed table part listing (Err fault) files
    → IsNamed (AtFault part fault) status → IfSome files (λ f. ReturnsOutcome (let r : Result Accepted Status = Err status in r) (refused_by (AtFault part) (part_checks table part f)))
fault_listed table part listing fault status None known checks named = tt
fault_listed table part listing fault status (Some f) known checks (inl same) = λ inside. (fault, checks_listed table part listing (Err fault) (Some f) known checks, same)
fault_listed table part listing fault status (Some f) known checks (inr memory) = λ inside. let never : is_outside_fault status ≡ true = ap is_outside_fault memory in cc

-- the part isn't there, or is too large
pub listing_refused : (table : Table) (part : List ℕ) (status : Status) (files : Option Files) → IfSome files (λ f. GivesOutcome (let r : Result (List Entry) Status = Err status in r) (listing_in part f))
    → IfSome files (λ f. ReturnsOutcome (let r : Result Accepted Status = Err status in r) (part_steps table part f))
listing_refused table part status None gives = tt
listing_refused table part status (Some f) gives = λ inside. inr (status, sym (gives inside), refl)

-- there is no table
pub table_refused : (path part : List ℕ) (status : Status) (files : Option Files) → IfSome files (λ f. GivesOutcome (let r : Result Table Status = Err status in r) (table_in path f))
    → IfSome files (λ f. ReturnsOutcome (let r : Result (Table × Accepted) Status = Err status in r) (table_part_steps path part f))
table_refused path part status None gives = tt
table_refused path part status (Some f) gives = λ inside. inr (status, sym (gives inside), refl)

-- what the part of a table stands for
pub part_given : (path part : List ℕ) (table : Table) (accepted : Accepted) (files mid : Option Files) → IfSome files (λ f. table_in path f ≡ Ok table) → mid ≡ files → IfSome mid (λ f. part_steps table part f (Ok accepted))
    → IfSome files (λ f. table_part_steps path part f (Ok (table, accepted)))
part_given path part table accepted None mid known same gives = tt
part_given path part table accepted (Some f) mid known same gives =
    let P : Option Files → Type 0 = λ o. IfSome o (λ g. part_steps table part g (Ok accepted)) in
    let here : part_steps table part f (Ok accepted) = subst P same gives in
    inl (table, sym known, inl (accepted, here, refl))

-- a part of a table that is refused
pub part_refused : (path part : List ℕ) (table : Table) (status : Status) (files mid : Option Files) → IfSome files (λ f. table_in path f ≡ Ok table) → mid ≡ files
    → IfSome mid (λ f. ReturnsOutcome (let r : Result Accepted Status = Err status in r) (part_steps table part f)) → IfSome files (λ f. ReturnsOutcome (let r : Result (Table × Accepted) Status = Err status in r) (table_part_steps path part f))
part_refused path part table status None mid known same gives = tt
part_refused path part table status (Some f) mid known same gives =
    let P : Option Files → Type 0 = λ o. IfSome o (λ g. ReturnsOutcome (let r : Result Accepted Status = Err status in r) (part_steps table part g)) in
    let here : ReturnsOutcome (let r : Result Accepted Status = Err status in r) (part_steps table part f) = subst P same gives in
    λ inside. inl (table, sym known, inr (status, here inside, refl))
