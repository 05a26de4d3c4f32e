-- What a command is to do, as functions of the files and the input, and what it means to have done it.
use Rattle.std.specs.Prelude.{◌≡◌, ◌⊎◌, ℕ, Bool, true, false, List, [], Option, None, Some, IfSome, IsSome, Result, Ok, Err, if◌then◌else◌}
use Rattle.std.specs.Io.KnownBytes.{append_known, IsAtEnd}
use Rattle.mt_shelf.specs.Causes.{Rose}
use Rattle.mt_shelf.specs.Files.{Files}
use Rattle.mt_shelf.specs.Streams.{GrowsByPrefix}
use Rattle.mt_command.specs.Status.{is_outside_fault}
use Rattle.mt_command.specs.declared.status.Status.{Status}
use Rattle.mt_command.specs.declared.status.Status.TheVariants.{Done, BadWords, SourceFault, ShelfFault, SinkFault, NoMemory}

pub record Plan : Type 0 where
  -- the first refusal by the files alone, before anything of the input is read
  pub early : Files → Option Status
  -- the first refusal once the input is read
  pub late : Files → List ℕ → Option Status
  -- whether rows are read from the input
  pub reads : Bool
  -- whether a text is printed
  pub prints : Bool
  -- the files afterwards
  pub files : Files → List ℕ → Files
  -- what is printed
  pub text : Files → List ℕ → List ℕ

-- the first of two refusals
abbrev pub or_else : Option Status → Option Status → Option Status
or_else None later = later
or_else (Some status) later = Some status

-- the first refusal by files and input
abbrev pub refusal_of : Plan → Files → List ℕ → Option Status
refusal_of plan files input = or_else (plan.early files) (plan.late files input)

-- a refusal, or Done where there is none
abbrev pub status_of : Option Status → Status
status_of None = Done
status_of (Some status) = status

-- what the outside shows, where it is known, and how often each object failed
pub record World : Type 0 where
  pub left : Option (List ℕ)
  pub written : Option (List ℕ)
  pub files : Option Files
  pub source_faults : ℕ
  pub output_faults : ℕ
  pub shelf_faults : ℕ

-- the world of three objects, by what each shows
abbrev pub world : Option (List ℕ) → Option (List ℕ) → Option Files → ℕ → ℕ → ℕ → World
world left written files source output shelf = record { left = left; written = written; files = files; source_faults = source; output_faults = output; shelf_faults = shelf }

-- the input that a plan reads, where it is known; of a plan that reads none, the empty text
abbrev pub input_of : Plan → World → Option (List ℕ)
input_of plan old = if plan.reads then old.left else Some []

-- it holds of the files and of that input, where they are known
abbrev pub WhereKnown : Plan → World → (Files → List ℕ → Type 0) → Type 0
WhereKnown plan old P = IfSome old.files (λ files. IfSome (input_of plan old) (P files))

-- the files are as the plan has them
abbrev pub Gains : Plan → World → World → Type 0
Gains plan old new = WhereKnown plan old (λ files input. new.files ≡ Some (plan.files files input))

-- the plan's text was printed
abbrev pub Prints : Plan → World → World → Type 0
Prints plan old new = WhereKnown plan old (λ files input. new.written ≡ append_known old.written (plan.text files input))

-- a prefix of the plan's text was printed
abbrev pub PrintsPrefix : Plan → World → World → Type 0
PrintsPrefix plan old new = WhereKnown plan old (λ files input. GrowsByPrefix (plan.text files input) old.written new.written)

-- the files are as before, and nothing was printed
abbrev pub Unchanged : World → World → Type 0
Unchanged old new = (new.files ≡ old.files) × (new.written ≡ old.written)

-- what stands afterwards; after a fault of the shelf the files may have been gained by a `publish` that failed
abbrev pub Leaves : Plan → World → World → Status → Type 0
Leaves plan old new Done = Gains plan old new × Prints plan old new × (plan.reads ≡ true → IsAtEnd new.left)
Leaves plan old new ShelfFault = (Gains plan old new ⊎ (new.files ≡ old.files)) × (new.written ≡ old.written)
Leaves plan old new SinkFault = (new.files ≡ old.files) × PrintsPrefix plan old new
Leaves plan old new NoMemory = ((Gains plan old new × Rose old.shelf_faults new.shelf_faults) ⊎ (new.files ≡ old.files)) × PrintsPrefix plan old new
Leaves plan old new status = Unchanged old new

-- a refusal, or Done where there is none, unless the command ends from outside
abbrev pub Answers : Option Status → Status → Type 0
Answers refusal status = is_outside_fault status ≡ false → status ≡ status_of refusal

-- a command is done, refused or ended from outside, as its plan has it
pub record Meets (plan : Plan) (old new : World) (status : Status) : Type 0 where
  -- each refusal comes exactly where it is the first, and Done where there is none
  pub answer : WhereKnown plan old (λ files input. Answers (refusal_of plan files input) status)
  -- a refusal before the input is read needs no known input
  pub early : IfSome old.files (λ files. IsSome (plan.early files) → Answers (plan.early files) status)
  -- the words are a command's
  pub words : ¬ (status ≡ BadWords)
  -- what stands afterwards
  pub left : Leaves plan old new status
  -- a command that prints no text leaves the output
  pub quiet : plan.prints ≡ false → new.written ≡ old.written
  -- only a command that reads rows takes anything of the input
  pub unread : plan.reads ≡ false → new.left ≡ old.left
  -- and it does so after its early refusals
  pub taken : IfSome old.files (λ files. IsSome (plan.early files) → new.left ≡ old.left)

-- nothing failed
abbrev pub NoneRose : World → World → Type 0
NoneRose old new = (new.source_faults ≡ old.source_faults) × (new.output_faults ≡ old.output_faults) × (new.shelf_faults ≡ old.shelf_faults)

-- a fault is only of an object that the command uses and whose count rose, or stands at its last value;
-- where a count rose, the status is that fault, or out of memory
abbrev pub CausedBy : Plan → World → World → Status → Type 0
CausedBy plan old new SourceFault = (plan.reads ≡ true) × Rose old.source_faults new.source_faults × (new.output_faults ≡ old.output_faults) × (new.shelf_faults ≡ old.shelf_faults)
CausedBy plan old new SinkFault = (plan.prints ≡ true) × Rose old.output_faults new.output_faults × (new.source_faults ≡ old.source_faults) × (new.shelf_faults ≡ old.shelf_faults)
CausedBy plan old new ShelfFault = Rose old.shelf_faults new.shelf_faults × (new.source_faults ≡ old.source_faults) × (new.output_faults ≡ old.output_faults)
CausedBy plan old new NoMemory = Unit {0}
CausedBy plan old new status = NoneRose old new

-- words that are no command are refused, and nothing is done
abbrev pub Performs : Option Plan → World → World → Status → Type 0
Performs None old new status = (new ≡ old) × ((status ≡ BadWords) ⊎ (status ≡ NoMemory))
Performs (Some plan) old new status = Meets plan old new status × CausedBy plan old new status

-- the status of a command that is written as steps
abbrev pub answer_of : Result Unit Status → Status
answer_of (Ok done) = Done
answer_of (Err status) = status
