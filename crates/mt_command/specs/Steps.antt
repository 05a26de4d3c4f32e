-- The steps of a command: each uses one object, or none.
use Rattle.std.specs.Prelude.{◌≡◌, ◌⊎◌, ℕ, List, Option, Result, Ok, Err}
use Rattle.std.specs.Io.KnownBytes.{append_known}
use Rattle.mt_shelf.specs.Causes.{Rose}
use Rattle.mt_shelf.specs.Streams.{GrowsByPrefix}
use Rattle.mt_shelf.specs.Files.{Files}
use Rattle.mt_command.specs.declared.status.Status.{Status}
use Rattle.mt_command.specs.declared.status.Status.TheVariants.{Done, BadWords, SourceFault, ShelfFault, SinkFault, NoMemory}

-- how often the source, the output and the shelf failed
pub record Counts : Type 0 where
  pub source : ℕ
  pub output : ℕ
  pub shelf : ℕ

-- counts of a step that uses one object, where the others stand at 0 and can't rise
abbrev pub of_nothing : Counts
of_nothing = record { source = 0; output = 0; shelf = 0 }

-- the source alone
abbrev pub of_source : ℕ → Counts
of_source n = record { source = n; output = 0; shelf = 0 }

-- the output alone
abbrev pub of_output : ℕ → Counts
of_output n = record { source = 0; output = n; shelf = 0 }

-- the shelf alone
abbrev pub of_shelf : ℕ → Counts
of_shelf n = record { source = 0; output = 0; shelf = n }

-- why a step ends as it does; no step fails with Done or BadWords
abbrev pub StepCausedBy : {A : Type 0} → Result A Status → Counts → Counts → Type 0
StepCausedBy (Ok x) before now = now ≡ before
StepCausedBy (Err Done) before now = ⊥
StepCausedBy (Err BadWords) before now = ⊥
StepCausedBy (Err SourceFault) before now = Rose before.source now.source × (now.output ≡ before.output) × (now.shelf ≡ before.shelf)
StepCausedBy (Err SinkFault) before now = Rose before.output now.output × (now.source ≡ before.source) × (now.shelf ≡ before.shelf)
StepCausedBy (Err ShelfFault) before now = Rose before.shelf now.shelf × (now.source ≡ before.source) × (now.output ≡ before.output)
StepCausedBy (Err NoMemory) before now = Unit {0}
StepCausedBy (Err status) before now = now ≡ before

-- after a step that prints: the text, or a prefix of it where the step failed
abbrev pub Printed : List ℕ → Option (List ℕ) → Option (List ℕ) → Result Unit Status → Type 0
Printed text old new (Ok done) = new ≡ append_known old text
Printed text old new (Err SinkFault) = GrowsByPrefix text old new
Printed text old new (Err NoMemory) = GrowsByPrefix text old new
Printed text old new (Err status) = ⊥

-- after a step that publishes: these files, or those from before where it failed
abbrev pub Stored : Option Files → Option Files → Option Files → Result Unit Status → Type 0
Stored after old new (Ok done) = new ≡ after
Stored after old new (Err ShelfFault) = (new ≡ after) ⊎ (new ≡ old)
Stored after old new (Err NoMemory) = new ≡ old
Stored after old new (Err status) = ⊥
