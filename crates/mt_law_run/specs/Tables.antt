-- What the file of a table defines, and the commands that read it: docs/CLI.md, "Words".
use Rattle.std.specs.Prelude.{◌≡◌, ℕ, ◌≤◌, List, length, Some, Result}
use Rattle.std.specs.FinMap.{get}
use Rattle.mt_table.specs.declared.definition.Table.{Table}
use Rattle.mt_table_text.specs.Tables.{Defines}
use Rattle.mt_table_text.specs.declared.why.TableWhy.{TableWhy}
use Rattle.mt_shelf.specs.Files.{Files}
use Rattle.mt_command.specs.declared.limits.TheConstants.{MAX_TABLE_TEXT}
use Rattle.mt_run.specs.Commands.{Command, Write, Check, Rows, Show, Select, Merge, Trial}

-- a text within the limit stands in the file, and defines this: a table, or the first rule that it breaks
pub record FileDefines (path : List ℕ) (files : Files) (answer : Result Table TableWhy) : Type 0 where
  pub text : List ℕ
  pub there : get files path ≡ Some text
  pub short : length text ≤ MAX_TABLE_TEXT
  pub defines : Defines text answer

-- the path of the table that a command reads; `trial` reads none
abbrev pub ReadsTable : Command → List ℕ → Type 0
ReadsTable (Write table part) path = table ≡ path
ReadsTable (Check table part) path = table ≡ path
ReadsTable (Rows table part) path = table ≡ path
ReadsTable (Show table part) path = table ≡ path
ReadsTable (Select table part query) path = table ≡ path
ReadsTable (Merge table target inputs) path = table ≡ path
ReadsTable (Trial number rows) path = ⊥
