-- The steps of a trial one after another.
use Rattle.std.proofs.Common.{◌≡◌, inl, inr, ℕ, false, List, map, Option, Some, None, IfSome, Result, Ok, Err, refl, sym, ap, ◌∙◌, subst}
use Rattle.std.specs.Prelude.{codes}
use Rattle.std.specs.Option.{option_map}
use Rattle.mt_table.specs.declared.definition.Table.{Table}
use Rattle.mt_fault.specs.declared.file.FileBytes.{FileBytes}
use Rattle.mt_shelf.specs.Files.{Files, gained_files}
use Rattle.mt_shelf.specs.Held.{pair_of}
use Rattle.mt_definition.specs.declared.accepted.Accepted.{Accepted}
use Rattle.mt_command.specs.Outcomes.{ReturnsOutcome, gives}
use Rattle.mt_command.specs.Parts.{part_steps}
use Rattle.mt_command.specs.Status.{is_outside_fault}
use Rattle.mt_command.specs.Tables.{table_of}
use Rattle.mt_command.specs.declared.status.Status.{Status}
use Rattle.mt_merging.specs.Merge.{merge_table_steps}
use Rattle.mt_trial.specs.Tables.{trial_table_text}
use Rattle.mt_trial.specs.Trial.{trial_text}
use Rattle.mt_trial.specs.Steps.{answers_of, half_folder, half_names, merge_answers, part_answers, trial_steps, two_parts, with_part}

-- ---- the merged part

pub part_refused : (table : Table) (status : Status) (files : Option Files) → IfSome files (λ f. ReturnsOutcome (let r : Result Accepted Status = Err status in r) (part_steps table (codes "merged") f))
    → IfSome files (λ f. ReturnsOutcome (let r : Result (List ℕ) Status = Err status in r) (part_answers table f))
part_refused table status None refused = tt
part_refused table status (Some f) refused = λ inside. inr (status, refused inside, refl)

pub part_answered : (table : Table) (accepted : Accepted) (r : Result (List ℕ) Status) (files : Option Files) → IfSome files (λ f. part_steps table (codes "merged") f (Ok accepted)) → ReturnsOutcome r (answers_of table accepted.rows)
    → IfSome files (λ f. ReturnsOutcome r (part_answers table f))
part_answered table accepted r None given answers = tt
part_answered table accepted (Ok text) (Some f) given answers = inl (accepted, given, answers)
part_answered table accepted (Err status) (Some f) given answers = λ inside. inl (accepted, given, answers inside)

-- ---- the merge

pub merge_refused : (table : Table) (status : Status) (files : Option Files) → IfSome files (λ f. ReturnsOutcome (let r : Result (List FileBytes) Status = Err status in r) (merge_table_steps table (codes "merged") half_names f))
    → IfSome files (λ f. ReturnsOutcome (let r : Result (List ℕ) Status = Err status in r) (merge_answers table f))
merge_refused table status None refused = tt
merge_refused table status (Some f) refused = λ inside. inr (status, refused inside, refl)

merged_here : (table : Table) (folder : List FileBytes) (r : Result (List ℕ) Status) (f : Files) → merge_table_steps table (codes "merged") half_names f (Ok folder) → ReturnsOutcome r (part_answers table (with_part (codes "merged") folder f)) → ReturnsOutcome r (merge_answers table f)
merged_here table folder (Ok text) f given answers = inl (folder, given, answers)
merged_here table folder (Err status) f given answers = λ inside. inl (folder, given, answers inside)

pub merge_answered : (table : Table) (folder : List FileBytes) (r : Result (List ℕ) Status) (files mid late : Option Files) → IfSome files (λ f. merge_table_steps table (codes "merged") half_names f (Ok folder)) → mid ≡ files
    → late ≡ option_map (gained_files (codes "merged") (map pair_of folder)) mid → IfSome late (λ f. ReturnsOutcome r (part_answers table f)) → IfSome files (λ f. ReturnsOutcome r (merge_answers table f))
merge_answered table folder r None mid late given same stored answers = tt
merge_answered table folder r (Some f) mid late given same stored answers =
    let P : Option Files → Type 0 = λ o. IfSome o (λ g. ReturnsOutcome r (part_answers table g)) in
    let here : ReturnsOutcome r (part_answers table (with_part (codes "merged") folder f)) = subst P (stored ∙ ap (option_map (gained_files (codes "merged") (map pair_of folder))) same) answers in
    merged_here table folder r f given here

-- ---- the whole

pub table_refused : (number rows : ℕ) (status : Status) → (is_outside_fault status ≡ false → table_of trial_table_text ≡ Err status) → ReturnsOutcome (let r : Result (List ℕ) Status = Err status in r) (trial_steps number rows)
table_refused number rows status refused = λ inside. inr (status, sym (refused inside), refl)

pub even_refused : (number rows : ℕ) (table : Table) (status : Status) → table_of trial_table_text ≡ Ok table → (is_outside_fault status ≡ false → half_folder table number rows 0 ≡ Err status)
    → ReturnsOutcome (let r : Result (List ℕ) Status = Err status in r) (trial_steps number rows)
even_refused number rows table status read refused = λ inside. inl (table, sym read, inr (status, sym (refused inside), refl))

pub odd_refused : (number rows : ℕ) (table : Table) (even : List FileBytes) (status : Status) → table_of trial_table_text ≡ Ok table → half_folder table number rows 0 ≡ Ok even → (is_outside_fault status ≡ false → half_folder table number rows 1 ≡ Err status)
    → ReturnsOutcome (let r : Result (List ℕ) Status = Err status in r) (trial_steps number rows)
odd_refused number rows table even status read one refused = λ inside. inl (table, sym read, inl (even, sym one, inr (status, sym (refused inside), refl)))

both_here : (number rows : ℕ) (table : Table) (even odd : List FileBytes) (r : Result (List ℕ) Status) → table_of trial_table_text ≡ Ok table → half_folder table number rows 0 ≡ Ok even → half_folder table number rows 1 ≡ Ok odd
    → ReturnsOutcome r (merge_answers table (two_parts even odd)) → ReturnsOutcome r (trial_steps number rows)
both_here number rows table even odd (Ok text) read one two answers = inl (table, sym read, inl (even, sym one, inl (odd, sym two, answers)))
both_here number rows table even odd (Err status) read one two answers = λ inside. inl (table, sym read, inl (even, sym one, inl (odd, sym two, answers inside)))

pub both_answered : (number rows : ℕ) (table : Table) (even odd : List FileBytes) (r : Result (List ℕ) Status) (files : Option Files) → table_of trial_table_text ≡ Ok table → half_folder table number rows 0 ≡ Ok even
    → half_folder table number rows 1 ≡ Ok odd → files ≡ Some (two_parts even odd) → IfSome files (λ f. ReturnsOutcome r (merge_answers table f)) → ReturnsOutcome r (trial_steps number rows)
both_answered number rows table even odd r files read one two held answers =
    let P : Option Files → Type 0 = λ o. IfSome o (λ f. ReturnsOutcome r (merge_answers table f)) in
    both_here number rows table even odd r read one two (subst P held answers)

-- ---- the same by the names of the inputs

pub named_refused : (table : Table) (names : List (List ℕ)) (status : Status) (files : Option Files) → names ≡ half_names → IfSome files (λ f. ReturnsOutcome (let r : Result (List FileBytes) Status = Err status in r) (merge_table_steps table (codes "merged") names f))
    → IfSome files (λ f. ReturnsOutcome (let r : Result (List ℕ) Status = Err status in r) (merge_answers table f))
named_refused table names status files is refused =
    let P : List (List ℕ) → Type 0 = λ n. IfSome files (λ f. ReturnsOutcome (let r : Result (List FileBytes) Status = Err status in r) (merge_table_steps table (codes "merged") n f)) in
    merge_refused table status files (subst P is refused)

pub named_answered : (table : Table) (names : List (List ℕ)) (folder : List FileBytes) (r : Result (List ℕ) Status) (files mid late : Option Files) → names ≡ half_names
    → IfSome files (λ f. merge_table_steps table (codes "merged") names f (Ok folder)) → mid ≡ files → late ≡ option_map (gained_files (codes "merged") (map pair_of folder)) mid → IfSome late (λ f. ReturnsOutcome r (part_answers table f))
    → IfSome files (λ f. ReturnsOutcome r (merge_answers table f))
named_answered table names folder r files mid late is given same stored answers =
    let P : List (List ℕ) → Type 0 = λ n. IfSome files (λ f. merge_table_steps table (codes "merged") n f (Ok folder)) in
    merge_answered table folder r files mid late (subst P is given) same stored answers

-- ---- by the law

pub text_only : (number rows : ℕ) (r : Result (List ℕ) Status) → ((outcome : Result (List ℕ) Status) → trial_steps number rows outcome → outcome ≡ Ok (trial_text number rows)) → ReturnsOutcome r (trial_steps number rows) → ReturnsOutcome r (gives (Ok (trial_text number rows)))
text_only number rows (Ok text) law is = law (Ok text) is
text_only number rows (Err status) law is = λ inside. law (Err status) (is inside)
