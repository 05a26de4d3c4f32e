-- The table of a file, and what its text defines.
use Rattle.std.proofs.Common.{◌≡◌, ◌⊎◌, inl, inr, ℕ, ◌≤◌, Bool, true, false, List, [], length, Option, Some, None, Result, Ok, Err, refl, ap, sym, ◌∙◌, subst, arith}
use Rattle.std.specs.Prelude.{IsSome, is_some, nat_lt}
use Rattle.std.specs.FinMap.{get}
use Rattle.std.proofs.lemmas.Bool.{le-ltb, ltb-false}
use Rattle.mt_table.specs.declared.definition.Table.{Table}
use Rattle.mt_table_text.specs.TextReading.{table_reading}
use Rattle.mt_table_text.specs.Tables.{Defines}
use Rattle.mt_table_text.specs.declared.why.TableWhy.{TableWhy}
use Rattle.mt_table_text.proofs.TextReadingLemmas.{reading_defines}
use Rattle.mt_fault.specs.declared.file.FileBytes.{FileBytes}
use Rattle.mt_shelf.specs.Files.{Files}
use Rattle.mt_command.specs.Commands.{PrintsTextOf, PublishesFolderOf, publishing_plan}
use Rattle.mt_command.specs.Outcomes as steps
use Rattle.mt_command.specs.Outcomes.{Outcomes, gives}
use Rattle.mt_command.specs.Parts.{table_part_steps}
use Rattle.mt_command.specs.Plans.{World, Answers, Performs, refusal_of, status_of}
use Rattle.mt_command.specs.Status.{◌>>=◌, is_outside_fault, refusal, refused_by}
use Rattle.mt_command.specs.Targets.{free_target}
use Rattle.mt_command.specs.Tables.{table_in, table_of, table_text}
use Rattle.mt_command.specs.declared.limits.TheConstants.{MAX_TABLE_TEXT}
use Rattle.mt_command.specs.declared.status.Status.{Status}
use Rattle.mt_command.specs.declared.status.Status.TheVariants.{BadTable, Done, NoTable, TooMuch}
use Rattle.mt_command.specs.declared.status.What.TheVariants as what
use Rattle.mt_definition.specs.declared.accepted.Accepted.{Accepted}
use Rattle.mt_tsv.specs.Printing.{rows_text}
use Rattle.mt_merging.specs.Merge.{merge_steps, merge_table_steps}
use Rattle.mt_select.specs.Select.{select_steps}
use Rattle.mt_show.specs.Show.{show_steps}
use Rattle.mt_trial.proofs.OnlyLemmas.{no_value}
use Rattle.mt_run.specs.Commands.{Command, Runs, Write, Check, Rows, Show, Select, Merge, Trial}
use Rattle.mt_reading.specs.Reading.{accepted_line, check_steps, rows_steps}
use Rattle.mt_writing.specs.Write.{write_plan}
use Rattle.mt_law_run.specs.Endings.{FellShort, ReadsInput}
use Rattle.mt_law_run.specs.Tables.{FileDefines, ReadsTable}
use Rattle.mt_law_run.proofs.KnownLemmas.{CameTo, at_some, came_to, fell_or, outside_fell, plan_comes}
use Rattle.mt_law_run.proofs.NeverLemmas.{bad_merge, bad_part, bad_select, bad_show, bad_write}
use Rattle.mt_law_run.proofs.OnlyLemmas.{came_to_refuse, no_refusal}

-- a text defines one thing
abbrev pub DefinesOneThing : Type 0
DefinesOneThing = (text : List ℕ) (a b : Result Table TableWhy) → Defines text a → Defines text b → a ≡ b

-- what an answer is, as a step of a command
abbrev answered : Result Table TableWhy → Result Table Status
answered answer = refused_by BadTable answer

-- ---- from the file

text_there : (file : Option (List ℕ)) (text : List ℕ) → table_text file ≡ Ok text → (file ≡ Some text) × (length text ≤ MAX_TABLE_TEXT)
text_there None text e = cc
text_there (Some file) text e = by (nat_lt MAX_TABLE_TEXT (length file)) refl
  where
    by : (long : Bool) → nat_lt MAX_TABLE_TEXT (length file) ≡ long → (Some file ≡ Some text) × (length text ≤ MAX_TABLE_TEXT)
    by true is = let never : table_text (Some file) ≡ Err (TooMuch what.Table MAX_TABLE_TEXT) = rw is refl in cc
    by false is =
        let here : table_text (Some file) ≡ Ok file = rw is refl in
        let same : file ≡ text = cc in
        let short = ltb-false MAX_TABLE_TEXT (length file) is in
        (ap Some same, subst (λ t. length t ≤ MAX_TABLE_TEXT) same (omega (arith, short)))

same_answer : (a b : Result Table TableWhy) → answered a ≡ answered b → a ≡ b
same_answer (Ok x) (Ok y) e = let same : x ≡ y = cc in ap Ok same
same_answer (Ok x) (Err why) e = cc
same_answer (Err why) (Ok y) e = cc
same_answer (Err one) (Err other) e = let same : one ≡ other = cc in ap Err same

-- the file's text is read, unless the file is refused
read_of : (answer : Result Table TableWhy) (step : Result (List ℕ) Status) → ((status : Status) → step ≡ Err status → ¬ (Err status ≡ answered answer))
    → (step >>= table_of) ≡ answered answer → (text : List ℕ) × (step ≡ Ok text) × (table_reading text ≡ answer)
unfolding table_of
read_of answer (Ok text) other e = (text, refl, same_answer (table_reading text) answer e)
read_of answer (Err status) other e = absurd (other status refl e)

file_refused : (answer : Result Table TableWhy) (file : Option (List ℕ)) (status : Status) → table_text file ≡ Err status → ¬ (Err status ≡ answered answer)
file_refused (Ok table) file status is e = cc
file_refused (Err why) None status is e = let same : status ≡ NoTable = cc in let also : status ≡ BadTable why = cc in cc
file_refused (Err why) (Some text) status is e = by (nat_lt MAX_TABLE_TEXT (length text)) refl
  where
    by : (long : Bool) → nat_lt MAX_TABLE_TEXT (length text) ≡ long → ⊥
    by true long =
        let here : table_text (Some text) ≡ Err (TooMuch what.Table MAX_TABLE_TEXT) = rw long refl in
        let same : status ≡ TooMuch what.Table MAX_TABLE_TEXT = cc in
        let also : status ≡ BadTable why = cc in
        cc
    by false short = let here : table_text (Some text) ≡ Ok text = rw short refl in cc

pub defined : (path : List ℕ) (files : Files) (answer : Result Table TableWhy) → table_in path files ≡ answered answer → FileDefines path files answer
defined path files answer e =
    let (text, read, is) = read_of answer (table_text (get files path)) (file_refused answer (get files path)) e in
    let (there, short) = text_there (get files path) text read in
    record { text = text; there = there; short = short; defines = subst (Defines text) is (reading_defines text) }

-- ---- and back

pub read : DefinesOneThing → (path : List ℕ) (files : Files) (answer : Result Table TableWhy) → FileDefines path files answer
    → table_in path files ≡ answered answer
unfolding table_of
read one path files answer defines =
    let is : table_reading defines.text ≡ answer = one defines.text (table_reading defines.text) answer (reading_defines defines.text) defines.defines in
    let short = le-ltb MAX_TABLE_TEXT (length defines.text) defines.short in
    let text : table_text (Some defines.text) ≡ Ok defines.text = rw short refl in
    ap (λ file. table_text file >>= table_of) defines.there ∙ ap (λ (step : Result (List ℕ) Status). step >>= table_of) text ∙ ap answered is

-- ---- a command whose table is refused

-- the only outcome of some steps is this refusal
abbrev pub IsRefused : {A : Type 0} → Outcomes A → Status → Type 0
IsRefused {A} steps status = (outcome : Result A Status) → steps outcome → outcome ≡ Err status

refused_given : {A : Type 0} (r : Result A Status) (status : Status) → r ≡ Err status → IsRefused (gives r) status
refused_given r status is outcome same = same ∙ is

refused_then : {A B : Type 0} (first : Outcomes A) (next : A → Outcomes B) (status : Status) → IsRefused first status
    → IsRefused (steps.◌>>=◌ first next) status
refused_then first next status refused outcome (inl (x, is, goes)) = absurd (no_value status x (sym (refused (Ok x) is)))
refused_then first next status refused outcome (inr (other, is, same)) = let this : other ≡ status = same_error other status (refused (Err other) is) in same ∙ ap Err this
  where
    same_error : {A : Type 0} (a b : Status) → (let r : Result A Status = Err a in r) ≡ Err b → a ≡ b
    same_error a b e = cc

module _ (path : List ℕ) (files : Files) (status : Status) (refused : table_in path files ≡ Err status) where
  table_refused : IsRefused (gives (table_in path files)) status
  table_refused = refused_given (table_in path files) status refused

  part_refused : (part : List ℕ) → IsRefused (table_part_steps path part files) status
  part_refused part = refused_then (gives (table_in path files)) _ status table_refused

  prints_refused : (steps : Files → Outcomes (List ℕ)) (old new : World) (ended : Status) → old.files ≡ Some files → IsRefused (steps files) status
      → PrintsTextOf steps old new ended → FellShort old new ended ⊎ (ended ≡ status)
  prints_refused steps old new ended known only runs = by (came_to old new ended files known steps runs)
    where
      by : FellShort old new ended ⊎ ((outcome : Result (List ℕ) Status) × steps files outcome × CameTo old new ended outcome)
          → FellShort old new ended ⊎ (ended ≡ status)
      by (inl fell) = inl fell
      by (inr (outcome, is, came)) = inr (subst (CameTo old new ended) (only outcome is) came)

  merge_refused : (target : List ℕ) (parts : List (List ℕ)) (old new : World) (ended : Status) → old.files ≡ Some files
      → PublishesFolderOf target (merge_steps path target parts) old new ended → FellShort old new ended ⊎ (ended ≡ status)
  merge_refused target parts old new ended known (outcome, inr early, performs) =
      inl (outside_fell (publishing_plan target outcome) old new ended early.0 performs.1)
  merge_refused target parts old new ended known (outcome, inl is, performs) =
      let here = at_some (λ f. merge_steps path target parts f outcome) old.files files known is in
      let same : outcome ≡ Err status = refused_then (gives (table_in path files)) (λ table. merge_table_steps table target parts files) status table_refused outcome here in
      plan_comes (publishing_plan target (Err status)) old new ended files [] known refl (subst (λ (o : Result (List FileBytes) Status). Performs (Some (publishing_plan target o)) old new ended) same performs)

  write_refused : (part : List ℕ) (old new : World) (ended : Status) → old.files ≡ Some files → Performs (Some (write_plan path part)) old new ended
      → FellShort old new ended ⊎ (ended ≡ status)
  write_refused part old new ended known (meets, cause) =
      let plan = write_plan path part in
      let early : plan.early files ≡ Some status = ap (λ (r : Result Table Status). refusal (r >>= λ table. free_target part files >>= λ _. Ok table)) refused in
      let answers = at_some (λ f. IsSome (plan.early f) → Answers (plan.early f) ended) old.files files known meets.early in
      fell_or plan old new (Some status) ended (subst (λ o. Answers o ended) early (answers (ap is_some early))) cause

  pub runs_refused : (command : Command) (old new : World) (ended : Status) → old.files ≡ Some files → ReadsTable command path
      → Runs (Some command) old new ended → FellShort old new ended ⊎ (ended ≡ status)
  runs_refused (Write table part) old new ended known is runs =
      write_refused part old new ended known (subst (λ t. Runs (Some (Write t part)) old new ended) is runs)
  runs_refused (Check table part) old new ended known is runs =
      prints_refused (check_steps path part) old new ended known (refused_then (table_part_steps path part files) _ status (part_refused part)) (subst (λ t. Runs (Some (Check t part)) old new ended) is runs)
  runs_refused (Rows table part) old new ended known is runs =
      prints_refused (rows_steps path part) old new ended known (refused_then (table_part_steps path part files) _ status (part_refused part)) (subst (λ t. Runs (Some (Rows t part)) old new ended) is runs)
  runs_refused (Show table part) old new ended known is runs =
      prints_refused (show_steps path part) old new ended known (refused_then (gives (table_in path files)) _ status table_refused) (subst (λ t. Runs (Some (Show t part)) old new ended) is runs)
  runs_refused (Select table part query) old new ended known is runs =
      prints_refused (select_steps path part query) old new ended known (refused_then (gives (table_in path files)) _ status table_refused) (subst (λ t. Runs (Some (Select t part query)) old new ended) is runs)
  runs_refused (Merge table target parts) old new ended known is runs =
      merge_refused target parts old new ended known (subst (λ t. Runs (Some (Merge t target parts)) old new ended) is runs)
  runs_refused (Trial number rows) old new ended known is runs = absurd is

-- ---- a command that is refused by its table

module _ (why : TableWhy) (files : Files) (old new : World) (known : old.files ≡ Some files) where
  -- it is so by the first of its steps
  prints_found : (path : List ℕ) (steps : Files → Outcomes (List ℕ)) → (steps files (Err (BadTable why)) → table_in path files ≡ Err (BadTable why))
      → PrintsTextOf steps old new (BadTable why) → table_in path files ≡ Err (BadTable why)
  prints_found path steps first runs = by (came_to old new (BadTable why) files known steps runs)
    where
      by : FellShort old new (BadTable why) ⊎ ((outcome : Result (List ℕ) Status) × steps files outcome × CameTo old new (BadTable why) outcome)
          → table_in path files ≡ Err (BadTable why)
      by (inl fell) = absurd fell
      by (inr (Ok text, is, printed)) = let never : BadTable why ≡ Done = printed.done in cc
      by (inr (Err status, is, same)) = first (subst (λ s. steps files (Err s)) (sym same) is)

  texts_found : (path part : List ℕ) (text : Table × Accepted → List ℕ)
      → steps.◌>>=◌ (table_part_steps path part files) (λ read. gives (let r : Result (List ℕ) Status = Ok (text read) in r)) (Err (BadTable why))
      → table_in path files ≡ Err (BadTable why)
  texts_found path part text came = by (came_to_refuse (table_part_steps path part files) (λ read. gives (Ok (text read))) (BadTable why) came)
    where
      by : table_part_steps path part files (Err (BadTable why))
          ⊎ ((read : Table × Accepted) × table_part_steps path part files (Ok read) × gives (let r : Result (List ℕ) Status = Ok (text read) in r) (Err (BadTable why)))
          → table_in path files ≡ Err (BadTable why)
      by (inl refused) = bad_part path part files why refused
      by (inr (read, is, bad)) = absurd (no_refusal (BadTable why) (text read) bad)

  merge_found : (path target : List ℕ) (parts : List (List ℕ)) → PublishesFolderOf target (merge_steps path target parts) old new (BadTable why)
      → table_in path files ≡ Err (BadTable why)
  merge_found path target parts (outcome, inr early, performs) = cc
  merge_found path target parts (Ok folder, inl is, performs) =
      by (plan_comes (publishing_plan target (Ok folder)) old new (BadTable why) files [] known refl performs)
    where
      by : FellShort old new (BadTable why) ⊎ (BadTable why ≡ Done) → table_in path files ≡ Err (BadTable why)
      by (inl fell) = absurd fell
      by (inr same) = cc
  merge_found path target parts (Err status, inl is, performs) =
      by (plan_comes (publishing_plan target (Err status)) old new (BadTable why) files [] known refl performs)
    where
      by : FellShort old new (BadTable why) ⊎ (BadTable why ≡ status) → table_in path files ≡ Err (BadTable why)
      by (inl fell) = absurd fell
      by (inr same) =
          bad_merge path target parts files why
          (subst (λ s. merge_steps path target parts files (Err s)) (sym same) (at_some (λ f. merge_steps path target parts f (Err status)) old.files files known is))

  write_found : (path part input : List ℕ) → old.left ≡ Some input → Performs (Some (write_plan path part)) old new (BadTable why)
      → table_in path files ≡ Err (BadTable why)
  write_found path part input left performs = by (plan_comes (write_plan path part) old new (BadTable why) files input known left performs)
    where
      by : FellShort old new (BadTable why) ⊎ (BadTable why ≡ status_of (refusal_of (write_plan path part) files input)) → table_in path files ≡ Err (BadTable why)
      by (inl fell) = absurd fell
      by (inr is) = bad_write path part input files why is

  value_of : (o : Option (List ℕ)) → IsSome o → (input : List ℕ) × (o ≡ Some input)
  value_of None some = cc
  value_of (Some input) some = (input, refl)

  pub runs_found : (command : Command) → (ReadsInput command → IsSome old.left) → Runs (Some command) old new (BadTable why)
      → (path : List ℕ) × ReadsTable command path × (table_in path files ≡ Err (BadTable why))
  runs_found (Write path part) shown runs =
      let (input, left) = value_of old.left (shown tt) in
      (path, refl, write_found path part input left runs)
  runs_found (Check path part) shown runs = (path, refl, prints_found path (check_steps path part) (texts_found path part (λ read. accepted_line read.1)) runs)
  runs_found (Rows path part) shown runs =
      (path, refl, prints_found path (rows_steps path part) (texts_found path part (λ read. rows_text read.0.columns read.1.rows)) runs)
  runs_found (Show path part) shown runs = (path, refl, prints_found path (show_steps path part) (bad_show path part files why) runs)
  runs_found (Select path part query) shown runs = (path, refl, prints_found path (select_steps path part query) (bad_select path part files query why) runs)
  runs_found (Merge path target parts) shown runs = (path, refl, merge_found path target parts runs)
  runs_found (Trial number rows) shown runs = by runs.unrefused
    where
      by : (BadTable why ≡ Done) ⊎ (is_outside_fault (BadTable why) ≡ true) → (path : List ℕ) × ReadsTable (Trial number rows) path × (table_in path files ≡ Err (BadTable why))
      by (inl never) = cc
      by (inr never) = cc
