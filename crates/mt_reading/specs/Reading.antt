-- The commands `check` and `rows`: what they print of a part that stands for rows, docs/CLI.md.
use Rattle.std.specs.Prelude.{ℕ, List, ◌++◌, length, codes, decimal, Ok}
use Rattle.mt_tsv.specs.Printing.{rows_text}
use Rattle.mt_shelf.specs.Files.{Files}
use Rattle.mt_definition.specs.declared.accepted.Accepted.{Accepted}
use Rattle.mt_command.specs.Outcomes.{Outcomes, ◌>>=◌, gives}
use Rattle.mt_command.specs.Parts.{table_part_steps}

-- how many rows and granules there are
abbrev pub accepted_line : Accepted → List ℕ
accepted_line accepted = codes "accepted " ++ decimal (length accepted.rows) ++ codes " rows in " ++ decimal (length accepted.granules) ++ codes " granules\n"

-- check TABLE PART WORKERS prints how many rows and granules a part has
abbrev pub check_steps : List ℕ → List ℕ → Files → Outcomes (List ℕ)
check_steps path part files = do
  read ← table_part_steps path part files
  gives (Ok (accepted_line read.1))

-- rows TABLE PART prints the line of each row, in the part's order
abbrev pub rows_steps : List ℕ → List ℕ → Files → Outcomes (List ℕ)
rows_steps path part files = do
  read ← table_part_steps path part files
  gives (Ok (rows_text read.0.columns read.1.rows))
