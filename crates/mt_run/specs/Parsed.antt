-- A command that the program has parsed of the words, and the command that it is.
use Rattle.std.specs.Prelude.{ℕ, ◌≤◌, ◌≢◌, List, [], All, IsTrue, map}
use Rattle.std.specs.String.{string_bytes}
use Rattle.mt_shelf.specs.Paths.{is_path}
use Rattle.mt_trial.specs.declared.rows.TheConstants.{MAX_TRIAL_ROWS}
use Rattle.mt_run.specs.declared.parsed.Parsed.{Parsed}
use Rattle.mt_run.specs.declared.parsed.Parsed.TheVariants as parsed
use Rattle.mt_run.specs.Commands.{Command, Write, Check, Rows, Show, Select, Merge, Trial}

-- the command, of which the number of workers is no part
abbrev pub command_for : Parsed → Command
command_for (parsed.Write table part workers) = Write table.now part.now
command_for (parsed.Check table part) = Check table.now part.now
command_for (parsed.Rows table part) = Rows table.now part.now
command_for (parsed.Show table part) = Show table.now part.now
command_for (parsed.Select table part query) = Select table.now part.now query.now
command_for (parsed.Merge table target inputs workers) = Merge table.now target.now (map string_bytes inputs.now)
command_for (parsed.Trial number rows workers) = Trial number rows

-- both are paths
abbrev pub ArePaths : (table part : List ℕ) → Type 0
ArePaths table part = IsTrue (is_path table) × IsTrue (is_path part)

-- the operands are within what the command's words may be
abbrev pub IsWithin : Parsed → Type 0
IsWithin (parsed.Write table part workers) = ArePaths table.now part.now
IsWithin (parsed.Check table part) = ArePaths table.now part.now
IsWithin (parsed.Rows table part) = ArePaths table.now part.now
IsWithin (parsed.Show table part) = ArePaths table.now part.now
IsWithin (parsed.Select table part query) = ArePaths table.now part.now
IsWithin (parsed.Merge table target inputs workers) = ArePaths table.now target.now × (inputs.now ≢ []) × All (λ part. IsTrue (is_path (string_bytes part))) inputs.now
IsWithin (parsed.Trial number rows workers) = (2 ≤ rows) × (rows ≤ MAX_TRIAL_ROWS)
