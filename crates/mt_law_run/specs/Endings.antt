-- How a run ends: docs/CLI.md, "Exit statuses".
use Rattle.std.specs.Prelude.{◌≡◌, ℕ, List}
use Rattle.std.specs.Io.KnownBytes.{append_known}
use Rattle.mt_shelf.specs.Causes.{Rose}
use Rattle.mt_command.specs.Plans.{World}
use Rattle.mt_command.specs.declared.status.Status.{Status}
use Rattle.mt_command.specs.declared.status.Status.TheVariants.{Done, SourceFault, ShelfFault, SinkFault, NoMemory}
use Rattle.mt_run.specs.Commands.{Command, Write, Merge, Trial}

-- ---- done, or not

-- an object failed, or memory ran out: all that can come between a command that isn't refused and Done
abbrev pub FellShort : World → World → Status → Type 0
FellShort old new SourceFault = Rose old.source_faults new.source_faults
FellShort old new SinkFault = Rose old.output_faults new.output_faults
FellShort old new ShelfFault = Rose old.shelf_faults new.shelf_faults
FellShort old new NoMemory = Unit {0}
FellShort old new status = ⊥

-- no object's count of faults rose, or stands at its last value
pub record NoneFailed (old new : World) : Type 0 where
  pub source : ¬ (Rose old.source_faults new.source_faults)
  pub output : ¬ (Rose old.output_faults new.output_faults)
  pub shelf : ¬ (Rose old.shelf_faults new.shelf_faults)

-- the run is Done and printed this text, and the files are as before
pub record Printed (old new : World) (status : Status) (text : List ℕ) : Type 0 where
  pub done : status ≡ Done
  pub written : new.written ≡ append_known old.written text
  pub files : new.files ≡ old.files

-- ---- which objects a command uses

-- only `write` reads the input
abbrev pub ReadsInput : Command → Type 0
ReadsInput (Write table part) = Unit {0}
ReadsInput command = ⊥

-- `write` and `merge` print nothing
abbrev pub PrintsText : Command → Type 0
PrintsText (Write table part) = ⊥
PrintsText (Merge table target inputs) = ⊥
PrintsText command = Unit {0}

-- `trial` uses no shelf
abbrev pub UsesShelf : Command → Type 0
UsesShelf (Trial number rows) = ⊥
UsesShelf command = Unit {0}
