-- The table whose text is in a file: docs/CLI.md.
use Rattle.std.specs.Prelude.{ℕ, nat_lt, List, length, Option, None, Some, if◌then◌else◌, Result, Ok, Err}
use Rattle.std.specs.FinMap.{get}
use Rattle.mt_table.specs.declared.definition.Table.{Table}
use Rattle.mt_table_text.specs.TextReading.{table_reading}
use Rattle.mt_shelf.specs.Files.{Files}
use Rattle.mt_command.specs.Status.{◌>>=◌, refused_by}
use Rattle.mt_command.specs.declared.limits.TheConstants.{MAX_TABLE_TEXT}
use Rattle.mt_command.specs.declared.status.What.TheVariants as what
use Rattle.mt_command.specs.declared.status.Status.{Status}
use Rattle.mt_command.specs.declared.status.Status.TheVariants.{NoTable, BadTable, TooMuch}

-- the text of a table's file
abbrev pub table_text : Option (List ℕ) → Result (List ℕ) Status
table_text None = Err NoTable
table_text (Some text) = if nat_lt MAX_TABLE_TEXT (length text) then Err (TooMuch what.Table MAX_TABLE_TEXT) else Ok text

-- the table of a text, or the first rule that the text breaks
unfoldable pub table_of : List ℕ → Result Table Status
table_of text = refused_by BadTable (table_reading text)

-- the table of a file
abbrev pub table_in : List ℕ → Files → Result Table Status
table_in path files = table_text (get files path) >>= table_of
