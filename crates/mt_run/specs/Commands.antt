-- The commands, and what it means that a run does one.
use Rattle.std.specs.Prelude.{ℕ, List, Option, None, Some}
use Rattle.mt_command.specs.Plans.{World, Performs}
use Rattle.mt_command.specs.Commands.{PrintsTextOf, PublishesFolderOf}
use Rattle.mt_command.specs.declared.status.Status.{Status}
use Rattle.mt_merging.specs.Merge.{merge_steps}
use Rattle.mt_select.specs.Select.{select_steps}
use Rattle.mt_show.specs.Show.{show_steps}
use Rattle.mt_trial.specs.Trial.{PrintsTrial}
use Rattle.mt_reading.specs.Reading.{check_steps, rows_steps}
use Rattle.mt_writing.specs.Write.{write_plan}

-- a command, by the words that change what it does
pub data Command : Type 0 where
  Write : (table part : List ℕ) → Command
  Check : (table part : List ℕ) → Command
  Rows : (table part : List ℕ) → Command
  Show : (table part : List ℕ) → Command
  Select : (table part query : List ℕ) → Command
  Merge : (table target : List ℕ) → (inputs : List (List ℕ)) → Command
  Trial : (number rows : ℕ) → Command

-- what a run does of the command that its words are; words that are none are refused
abbrev pub Runs : Option Command → World → World → Status → Type 0
Runs None old new status = Performs None old new status
Runs (Some (Write table part)) old new status = Performs (Some (write_plan table part)) old new status
Runs (Some (Check table part)) old new status = PrintsTextOf (check_steps table part) old new status
Runs (Some (Rows table part)) old new status = PrintsTextOf (rows_steps table part) old new status
Runs (Some (Show table part)) old new status = PrintsTextOf (show_steps table part) old new status
Runs (Some (Select table part query)) old new status = PrintsTextOf (select_steps table part query) old new status
Runs (Some (Merge table target inputs)) old new status = PublishesFolderOf target (merge_steps table target inputs) old new status
Runs (Some (Trial number rows)) old new status = PrintsTrial number rows old new status
