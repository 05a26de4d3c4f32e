-- What a run comes to where the files are known, and the input where it is read.
use Rattle.std.proofs.Common.{◌≡◌, ◌⊎◌, inl, inr, true, false, ℕ, List, [], map, Option, Some, IfSome, Result, Ok, Err, refl, sym, ◌∙◌, subst}
use Rattle.std.specs.Io.KnownBytes.{append_known}
use Rattle.mt_fault.specs.declared.file.FileBytes.{FileBytes}
use Rattle.mt_shelf.specs.Files.{Files, gained_files}
use Rattle.mt_shelf.specs.Held.{pair_of}
use Rattle.mt_command.specs.Outcomes.{Outcomes}
use Rattle.mt_command.specs.Commands.{PrintsTextOf, PublishesFolderOf, printing_plan, publishing_plan}
use Rattle.mt_command.specs.Plans.{Plan, World, Answers, CausedBy, Gains, Leaves, NoneRose, Performs, Unchanged, WhereKnown, input_of, refusal_of, status_of}
use Rattle.mt_command.specs.Status.{is_outside_fault}
use Rattle.mt_command.specs.declared.status.Status.{Status}
use Rattle.mt_command.specs.declared.status.Status.TheVariants.{Done, SourceFault, ShelfFault, SinkFault, NoMemory}
use Rattle.mt_run.specs.Commands.{Command, Runs, Write, Check, Rows, Show, Select, Merge, Trial}
use Rattle.mt_writing.specs.Write.{write_plan}
use Rattle.mt_law_run.specs.Endings.{FellShort, NoneFailed, Printed, PrintsText, ReadsInput, UsesShelf}
use Rattle.mt_law_run.proofs.NeverLemmas.{NeverEnds}

-- what holds of a known value
pub at_some : {A : Type 0} (P : A → Type 0) (o : Option A) (a : A) → o ≡ Some a → IfSome o P → P a
at_some P o a is holds = subst (λ o. IfSome o P) is holds

-- ---- a status is the refusal, or comes from outside

pub fell_or : (plan : Plan) (old new : World) (refused : Option Status) (status : Status) → Answers refused status → CausedBy plan old new status
    → FellShort old new status ⊎ (status ≡ status_of refused)
fell_or plan old new refused SourceFault answers cause = inl cause.1
fell_or plan old new refused SinkFault answers cause = inl cause.1
fell_or plan old new refused ShelfFault answers cause = inl cause.0
fell_or plan old new refused NoMemory answers cause = inl tt
fell_or plan old new refused status answers cause = inr (answers refl)

pub outside_fell : (plan : Plan) (old new : World) (status : Status) → is_outside_fault status ≡ true → CausedBy plan old new status → FellShort old new status
outside_fell plan old new SourceFault outside cause = cause.1
outside_fell plan old new SinkFault outside cause = cause.1
outside_fell plan old new ShelfFault outside cause = cause.0
outside_fell plan old new NoMemory outside cause = tt
outside_fell plan old new status outside cause = cc

-- ---- a plan

-- what is said of the files and of the input that the plan reads
pub both : (plan : Plan) (old : World) (files : Files) (input : List ℕ) → old.files ≡ Some files → input_of plan old ≡ Some input
    → (P : Files → List ℕ → Type 0) → WhereKnown plan old P → P files input
both plan old files input known read P holds =
    at_some (P files) (input_of plan old) input read (at_some (λ f. IfSome (input_of plan old) (P f)) old.files files known holds)

pub plan_comes : (plan : Plan) (old new : World) (status : Status) (files : Files) (input : List ℕ) → old.files ≡ Some files → input_of plan old ≡ Some input
    → Performs (Some plan) old new status → FellShort old new status ⊎ (status ≡ status_of (refusal_of plan files input))
plan_comes plan old new status files input known read (meets, cause) =
    fell_or plan old new (refusal_of plan files input) status (both plan old files input known read (λ f i. Answers (refusal_of plan f i) status) meets.answer) cause

-- ---- a text

-- what a run that prints came to
abbrev pub CameTo : World → World → Status → Result (List ℕ) Status → Type 0
CameTo old new status (Ok text) = Printed old new status text
CameTo old new status (Err refusal) = status ≡ refusal

module _ (old new : World) (status : Status) (files : Files) (known : old.files ≡ Some files) where
  came : (outcome : Result (List ℕ) Status) → Performs (Some (printing_plan outcome)) old new status → FellShort old new status ⊎ CameTo old new status outcome
  came (Ok text) performs = by (plan_comes (printing_plan (Ok text)) old new status files [] known refl performs)
    where
      by : FellShort old new status ⊎ (status ≡ Done) → FellShort old new status ⊎ Printed old new status text
      by (inl fell) = inl fell
      by (inr done) =
          let left = subst (Leaves (printing_plan (Ok text)) old new) done performs.0.left in
          inr (record {
            done = done;
            written = both (printing_plan (Ok text)) old files [] known refl (λ f i. new.written ≡ append_known old.written text) left.1;
            files = both (printing_plan (Ok text)) old files [] known refl (λ f i. new.files ≡ Some f) left.0 ∙ sym known;
          })
  came (Err refusal) performs = plan_comes (printing_plan (Err refusal)) old new status files [] known refl performs

  -- the steps' outcome is what the run came to, unless it fell short
  pub came_to : (steps : Files → Outcomes (List ℕ)) → PrintsTextOf steps old new status
      → FellShort old new status ⊎ ((outcome : Result (List ℕ) Status) × steps files outcome × CameTo old new status outcome)
  came_to steps (outcome, inl is, performs) = by (came outcome performs)
    where
      by : FellShort old new status ⊎ CameTo old new status outcome
          → FellShort old new status ⊎ ((outcome : Result (List ℕ) Status) × steps files outcome × CameTo old new status outcome)
      by (inl fell) = inl fell
      by (inr came) = inr (outcome, at_some (λ f. steps f outcome) old.files files known is, came)
  came_to steps (outcome, inr early, performs) = inl (outside_fell (printing_plan outcome) old new status early.0 performs.1)

-- ---- a folder

-- the folder of the steps was published, where the run is Done and no step refuses with Done
pub published : (target : List ℕ) (steps : Files → Outcomes (List FileBytes)) (old new : World) (files : Files) → old.files ≡ Some files
    → NeverEnds (steps files) → PublishesFolderOf target steps old new Done
    → (folder : List FileBytes) × steps files (Ok folder) × (new.files ≡ Some (gained_files target (map pair_of folder) files))
published target steps old new files known never (outcome, inr early, performs) = cc
published target steps old new files known never (Ok folder, inl is, (meets, cause)) =
    (folder, at_some (λ f. steps f (Ok folder)) old.files files known is, both (publishing_plan target (Ok folder)) old files [] known refl (λ f i. new.files ≡ Some (gained_files target (map pair_of folder) f)) meets.left.0)
published target steps old new files known never (Err status, inl is, (meets, cause)) =
    let answers = both (publishing_plan target (Err status)) old files [] known refl (λ f i. Answers (Some status) Done) meets.answer in
    absurd (never (Err status) (at_some (λ f. steps f (Err status)) old.files files known is) (sym (answers refl)))

-- ---- any command

-- the plan by which a run performs
pub performs_of : (command : Command) (old new : World) (status : Status) → Runs (Some command) old new status
    → (plan : Plan) × Performs (Some plan) old new status
performs_of (Write table part) old new status runs = (write_plan table part, runs)
performs_of (Check table part) old new status (outcome, is, performs) = (printing_plan outcome, performs)
performs_of (Rows table part) old new status (outcome, is, performs) = (printing_plan outcome, performs)
performs_of (Show table part) old new status (outcome, is, performs) = (printing_plan outcome, performs)
performs_of (Select table part query) old new status (outcome, is, performs) = (printing_plan outcome, performs)
performs_of (Merge table target inputs) old new status (outcome, is, performs) = (publishing_plan target outcome, performs)
performs_of (Trial number rows) old new status runs = (printing_plan runs.performed.0, runs.performed.2)

pub fell_or_none : (plan : Plan) (old new : World) (status : Status) → CausedBy plan old new status
    → FellShort old new status ⊎ ((is_outside_fault status ≡ false) × NoneRose old new)
fell_or_none plan old new SourceFault cause = inl cause.1
fell_or_none plan old new SinkFault cause = inl cause.1
fell_or_none plan old new ShelfFault cause = inl cause.0
fell_or_none plan old new NoMemory cause = inl tt
fell_or_none plan old new status cause = inr (refl, cause)

-- where nothing failed only memory can run out
pub only_memory : (old new : World) (status : Status) → FellShort old new status → NoneFailed old new → status ≡ NoMemory
only_memory old new SourceFault fell none = absurd (none.source fell)
only_memory old new SinkFault fell none = absurd (none.output fell)
only_memory old new ShelfFault fell none = absurd (none.shelf fell)
only_memory old new NoMemory fell none = refl
only_memory old new status fell none = absurd fell

-- whatever the status, the files gained what the plan has, or are as before
pub files_after : (plan : Plan) (old new : World) (status : Status) → Leaves plan old new status → Gains plan old new ⊎ (new.files ≡ old.files)
files_after plan old new Done left = inl left.0
files_after plan old new ShelfFault left = left.0
files_after plan old new SinkFault left = inr left.0
files_after plan old new NoMemory (inl gained, printed) = inl gained.0
files_after plan old new NoMemory (inr same, printed) = inr same
files_after plan old new status left = inr left.0

-- and a refusal leaves all as it was
pub refused_leaves : (plan : Plan) (old new : World) (status : Status) → is_outside_fault status ≡ false → ¬ (status ≡ Done) → Leaves plan old new status
    → Unchanged old new
refused_leaves plan old new Done inside other left = absurd (other refl)
refused_leaves plan old new ShelfFault inside other left = cc
refused_leaves plan old new SinkFault inside other left = cc
refused_leaves plan old new SourceFault inside other left = cc
refused_leaves plan old new NoMemory inside other left = cc
refused_leaves plan old new status inside other left = left

-- ---- which objects

pub source_fault : (command : Command) (old new : World) → Runs (Some command) old new SourceFault → ReadsInput command
source_fault (Write table part) old new runs = tt
source_fault (Check table part) old new (outcome, is, (meets, cause)) = let never : false ≡ true = cause.0 in cc
source_fault (Rows table part) old new (outcome, is, (meets, cause)) = let never : false ≡ true = cause.0 in cc
source_fault (Show table part) old new (outcome, is, (meets, cause)) = let never : false ≡ true = cause.0 in cc
source_fault (Select table part query) old new (outcome, is, (meets, cause)) = let never : false ≡ true = cause.0 in cc
source_fault (Merge table target inputs) old new (outcome, is, (meets, cause)) = let never : false ≡ true = cause.0 in cc
source_fault (Trial number rows) old new runs = let never : false ≡ true = runs.performed.2.1.0 in cc

pub sink_fault : (command : Command) (old new : World) → Runs (Some command) old new SinkFault → PrintsText command
sink_fault (Write table part) old new (meets, cause) = let never : false ≡ true = cause.0 in cc
sink_fault (Check table part) old new runs = tt
sink_fault (Rows table part) old new runs = tt
sink_fault (Show table part) old new runs = tt
sink_fault (Select table part query) old new runs = tt
sink_fault (Merge table target inputs) old new (outcome, is, (meets, cause)) = let never : false ≡ true = cause.0 in cc
sink_fault (Trial number rows) old new runs = tt

pub shelf_fault : (command : Command) (old new : World) → Runs (Some command) old new ShelfFault → UsesShelf command
shelf_fault (Trial number rows) old new runs = runs.no_shelf.0 refl
shelf_fault (Write table part) old new runs = tt
shelf_fault (Check table part) old new runs = tt
shelf_fault (Rows table part) old new runs = tt
shelf_fault (Show table part) old new runs = tt
shelf_fault (Select table part query) old new runs = tt
shelf_fault (Merge table target inputs) old new runs = tt
