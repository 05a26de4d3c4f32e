-- The steps of `trial`: two parts are written, merged, checked and asked, docs/CLI.md. A law says what they come to.
use Rattle.std.specs.Prelude.{ℕ, List, [], ◌∷◌, ◌++◌, map, codes, Result, Ok}
use Rattle.mt_table.specs.declared.definition.Table.{Table}
use Rattle.mt_fault.specs.declared.file.FileBytes.{FileBytes}
use Rattle.mt_shelf.specs.Files.{Files, gained_files}
use Rattle.mt_shelf.specs.Held.{files_in, pair_of}
use Rattle.mt_fold.specs.Answer.{answer_text}
use Rattle.mt_defs.specs.Rows.{Row}
use Rattle.mt_defs.specs.Sorting.{sorted_rows}
use Rattle.mt_defs.specs.Writer.{written_folder}
use Rattle.mt_command.specs.Outcomes.{Outcomes, ◌>>=◌, gives}
use Rattle.mt_command.specs.Parts.{part_steps}
use Rattle.mt_command.specs.Tables.{table_of}
use Rattle.mt_command.specs.Targets.{within_limit}
use Rattle.mt_command.specs.declared.status.Status.{Status}
use Rattle.mt_select.specs.Select.{query_asked}
use Rattle.mt_merging.specs.Merge.{merge_table_steps}
use Rattle.mt_trial.specs.Rows.{half_rows}
use Rattle.mt_trial.specs.Queries.{totals_text, groups_text, great_text}
use Rattle.mt_trial.specs.Tables.{trial_table_text}
use Rattle.mt_trial.specs.Trial.{rows_line}

-- ---- the parts

-- the folder of the rows at even places, or at odd ones, as `write` makes it
abbrev pub half_folder : Table → (number rows remainder : ℕ) → Result (List FileBytes) Status
half_folder table number rows remainder = within_limit (written_folder table (sorted_rows table.sort (half_rows number rows remainder)))

-- the files with a folder below a part
abbrev pub with_part : List ℕ → List FileBytes → Files → Files
with_part part folder files = gained_files part (map pair_of folder) files

-- the two parts, and no other file
abbrev pub two_parts : (even odd : List FileBytes) → Files
two_parts even odd = with_part (codes "odd") odd (with_part (codes "even") even (files_in []))

-- the names of the two parts
abbrev pub half_names : List (List ℕ)
half_names = codes "even" ∷ codes "odd" ∷ []

-- ---- what is printed

-- the lines of a query's answer over rows
abbrev pub answer_lines : Table → List Row → (text : List ℕ) → Outcomes (List ℕ)
answer_lines table rows text = do
  query ← query_asked table text
  gives (Ok (answer_text table query rows))

-- how many rows there are, and the answers of the three queries
abbrev pub answers_of : Table → List Row → Outcomes (List ℕ)
answers_of table rows = do
  totals ← answer_lines table rows totals_text
  groups ← answer_lines table rows groups_text
  great ← answer_lines table rows great_text
  gives (Ok (rows_line rows ++ totals ++ groups ++ great))

-- ---- all of it

-- these of the merged part, once it is checked
abbrev pub part_answers : Table → Files → Outcomes (List ℕ)
part_answers table files = do
  accepted ← part_steps table (codes "merged") files
  answers_of table accepted.rows

-- the two parts are merged as `merge` does, and the merge is stored beside them
abbrev pub merge_answers : Table → Files → Outcomes (List ℕ)
merge_answers table files = do
  folder ← merge_table_steps table (codes "merged") half_names files
  part_answers table (with_part (codes "merged") folder files)

-- trial NUMBER ROWS WORKERS
abbrev pub trial_steps : (number rows : ℕ) → Outcomes (List ℕ)
trial_steps number rows = do
  table ← gives (table_of trial_table_text)
  even ← gives (half_folder table number rows 0)
  odd ← gives (half_folder table number rows 1)
  merge_answers table (two_parts even odd)
