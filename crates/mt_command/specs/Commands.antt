-- Commands that read nothing of the input: by the outcome of their steps they print a text, or publish a folder.
use Rattle.std.specs.Prelude.{◌≡◌, ◌⊎◌, ℕ, true, false, List, [], None, Some, IfSome, Result, Ok, Err}
use Rattle.mt_fault.specs.declared.file.FileBytes.{FileBytes}
use Rattle.mt_shelf.specs.Files.{Files}
use Rattle.mt_command.specs.Outcomes.{Outcomes}
use Rattle.mt_command.specs.Plans.{Plan, World, Unchanged, Performs}
use Rattle.mt_command.specs.Status.{is_outside_fault, refusal}
use Rattle.mt_command.specs.Targets.{with_folder}
use Rattle.mt_command.specs.declared.status.Status.{Status}

-- the run ended from outside before it changed anything
abbrev pub EndsEarly : World → World → Status → Type 0
EndsEarly old new status = (is_outside_fault status ≡ true) × Unchanged old new

-- steps over the files have this outcome, unless the run ended before they had one
abbrev pub IsOutcome : {A : Type 0} → (Files → Outcomes A) → World → World → Status → Result A Status → Type 0
IsOutcome steps old new status outcome = IfSome old.files (λ files. steps files outcome) ⊎ EndsEarly old new status

-- ---- a text

-- the text of an outcome; nothing after a refusal
abbrev pub text_of : Result (List ℕ) Status → List ℕ
text_of (Ok text) = text
text_of (Err status) = []

-- print the text, or refuse
abbrev pub printing_plan : Result (List ℕ) Status → Plan
printing_plan outcome = record {
  early = λ _. refusal outcome;
  late = λ _ _. None;
  reads = false;
  prints = true;
  files = λ files _. files;
  text = λ _ _. text_of outcome;
}

-- a command that prints the text of its steps, or refuses as they do
abbrev pub PrintsTextOf : (Files → Outcomes (List ℕ)) → World → World → Status → Type 0
PrintsTextOf steps old new status = (outcome : Result (List ℕ) Status) × IsOutcome steps old new status outcome × Performs (Some (printing_plan outcome)) old new status

-- ---- a folder

-- publish the folder at a part, or refuse
abbrev pub publishing_plan : List ℕ → Result (List FileBytes) Status → Plan
publishing_plan part outcome = record {
  early = λ _. refusal outcome;
  late = λ _ _. None;
  reads = false;
  prints = false;
  files = λ files _. with_folder part outcome files;
  text = λ _ _. [];
}

-- a command that publishes the folder of its steps at a part, or refuses as they do
abbrev pub PublishesFolderOf : List ℕ → (Files → Outcomes (List FileBytes)) → World → World → Status → Type 0
PublishesFolderOf part steps old new status =
    (outcome : Result (List FileBytes) Status) × IsOutcome steps old new status outcome × Performs (Some (publishing_plan part outcome)) old new status
