-- Where no step refuses, a run is Done or fell short.
use Rattle.std.proofs.Common.{◌≡◌, ◌⊎◌, inl, inr, ℕ, true, List, [], ◌∷◌, Some, Result, Ok, Err, refl, ap, sym, ◌∙◌, subst}
use Rattle.std.specs.Io.KnownBytes.{append_known}
use Rattle.mt_fault.specs.declared.file.FileBytes.{FileBytes}
use Rattle.mt_shelf.specs.Files.{Files}
use Rattle.mt_table.specs.declared.definition.Table.{Table}
use Rattle.mt_defs.specs.Rows.{Row}
use Rattle.mt_defs.specs.Sorting.{merged_rows}
use Rattle.mt_command.specs.Commands.{PublishesFolderOf, printing_plan, publishing_plan}
use Rattle.mt_command.specs.Outcomes.{Outcomes, ◌>>=◌, gives}
use Rattle.mt_command.specs.Parts.{part_steps}
use Rattle.mt_command.specs.Plans.{World, Performs, or_else, refusal_of, status_of}
use Rattle.mt_command.specs.Status as steps
use Rattle.mt_command.specs.Status.{is_outside_fault}
use Rattle.mt_command.specs.Tables.{table_in}
use Rattle.mt_command.specs.declared.status.Status.{Status}
use Rattle.mt_command.specs.declared.status.Status.TheVariants.{Done}
use Rattle.mt_merging.specs.Inputs.{are_ready, folder_of_rows, with_input}
use Rattle.mt_merging.specs.Merge.{input_steps, inputs_steps, merge_steps, merge_table_steps}
use Rattle.mt_trial.specs.Trial.{PrintsTrial, trial_text}
use Rattle.mt_trial.proofs.PartLemmas.{HaveOneOutcome}
use Rattle.mt_trial.proofs.OnlyLemmas.{no_value, same_value}
use Rattle.mt_writing.specs.Write.{folder_for, folder_in, table_for, write_plan}
use Rattle.mt_law_run.specs.Endings.{FellShort}
use Rattle.mt_law_run.proofs.KnownLemmas.{at_some, outside_fell, plan_comes}

-- ---- write

none_of : {A B : Type 0} (first : Result A Status) (rest : A → Result B Status) (y : B) → steps.◌>>=◌ first rest ≡ Ok y
    → status_of (or_else (steps.refusal first) (steps.refusal (steps.◌>>=◌ first rest))) ≡ Done
none_of (Ok x) rest y made = ap (λ (r : Result _ Status). status_of (steps.refusal r)) made
none_of (Err status) rest y made = absurd (no_value status y made)

pub write_done : (path part input : List ℕ) (files : Files) (folder : List FileBytes) (old new : World) (status : Status) → old.files ≡ Some files
    → old.left ≡ Some input → folder_in path part files input ≡ Ok folder
    → Performs (Some (write_plan path part)) old new status → FellShort old new status ⊎ (status ≡ Done)
write_done path part input files folder old new status known left made performs =
    by (plan_comes (write_plan path part) old new status files input known left performs)
  where
    by : FellShort old new status ⊎ (status ≡ status_of (refusal_of (write_plan path part) files input)) → FellShort old new status ⊎ (status ≡ Done)
    by (inl fell) = inl fell
    by (inr is) = inr (is ∙ none_of (table_for path part files) (λ table. folder_for table input) folder made)

-- ---- merge

-- steps that have one outcome at most
abbrev pub HasOne : {A : Type 0} → Outcomes A → Type 0
HasOne {A} first = (a b : Result A Status) → first a → first b → a ≡ b

one_given : {A : Type 0} (r : Result A Status) → HasOne (gives r)
one_given r a b is also = is ∙ sym also

one_then : {A B : Type 0} (first : Outcomes A) (next : A → Outcomes B) → HasOne first → ((x : A) → HasOne (next x)) → HasOne (first >>= next)
one_then first next one other a b (inl (x, is, goes)) (inl (y, also, on)) =
    other y a b (subst (λ v. next v a) (same_value x y (one (Ok x) (Ok y) is also)) goes) on
one_then first next one other a b (inl (x, is, goes)) (inr (status, bad, same)) = absurd (no_value status x (one (Err status) (Ok x) bad is))
one_then first next one other a b (inr (status, bad, same)) (inl (x, is, goes)) = absurd (no_value status x (one (Err status) (Ok x) bad is))
one_then {A} {B} first next one other a b (inr (s, bad, same)) (inr (t, worse, too)) = same ∙ ap (λ (u : Status). let r : Result B Status = Err u in r) (both (one (Err s) (Err t) bad worse)) ∙ sym too
  where
    both : (let r : Result A Status = Err s in r) ≡ Err t → s ≡ t
    both e = cc

one_input : HaveOneOutcome → (table : Table) (files : Files) (read : List (List Row)) (part : List ℕ) → HasOne (input_steps table files read part)
one_input one table files read part =
    one_then (part_steps table part files) (λ accepted. gives (with_input table read accepted.rows)) (one table part files) (λ accepted. one_given (with_input table read accepted.rows))

one_inputs : HaveOneOutcome → (table : Table) (files : Files) (read : List (List Row)) (parts : List (List ℕ)) → HasOne (inputs_steps table files read parts)
unfolding inputs_steps
one_inputs one table files read [] = one_given (Ok read)
one_inputs one table files read (part ∷ parts) =
    one_then (input_steps table files read part) (λ more. inputs_steps table files more parts) (one_input one table files read part) (λ more. one_inputs one table files more parts)

one_merge : HaveOneOutcome → (path target : List ℕ) (parts : List (List ℕ)) (files : Files) → HasOne (merge_steps path target parts files)
one_merge one path target parts files =
    one_then (gives (table_in path files)) (λ table. merge_table_steps table target parts files) (one_given (table_in path files)) (λ table.
    one_then (gives (are_ready target parts files)) (λ _. inputs_steps table files [] parts >>= λ read. gives (folder_of_rows table (merged_rows table.sort read))) (one_given (are_ready target parts files)) (λ _.
    one_then (inputs_steps table files [] parts) (λ read. gives (folder_of_rows table (merged_rows table.sort read))) (one_inputs one table files [] parts) (λ read. one_given (folder_of_rows table (merged_rows table.sort read)))))

pub merge_done : HaveOneOutcome → (path target : List ℕ) (parts : List (List ℕ)) (files : Files) (folder : List FileBytes) (old new : World) (status : Status)
    → old.files ≡ Some files → merge_steps path target parts files (Ok folder)
    → PublishesFolderOf target (merge_steps path target parts) old new status → FellShort old new status ⊎ (status ≡ Done)
merge_done one path target parts files folder old new status known can (outcome, inr early, performs) =
    inl (outside_fell (publishing_plan target outcome) old new status early.0 performs.1)
merge_done one path target parts files folder old new status known can (outcome, inl is, performs) =
    let here = at_some (λ f. merge_steps path target parts f outcome) old.files files known is in
    let same : outcome ≡ Ok folder = one_merge one path target parts files outcome (Ok folder) here can in
    plan_comes (publishing_plan target (Ok folder)) old new status files [] known refl (subst (λ (o : Result (List FileBytes) Status). Performs (Some (publishing_plan target o)) old new status) same performs)

-- ---- trial

pub trial_done : (number rows : ℕ) (old new : World) (status : Status) → PrintsTrial number rows old new status
    → FellShort old new status ⊎ ((status ≡ Done) × (new.written ≡ append_known old.written (trial_text number rows)))
trial_done number rows old new status runs = by runs.unrefused
  where
    by : (status ≡ Done) ⊎ (is_outside_fault status ≡ true)
        → FellShort old new status ⊎ ((status ≡ Done) × (new.written ≡ append_known old.written (trial_text number rows)))
    by (inl done) = inr (done, runs.printed done)
    by (inr outside) = inl (outside_fell (printing_plan runs.performed.0) old new status outside runs.performed.2.1)
