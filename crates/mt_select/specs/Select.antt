-- The command `select`: docs/CLI.md.
use Rattle.std.specs.Prelude.{◌≡◌, ℕ, List, Ok, Err}
use Rattle.mt_table.specs.declared.definition.Table.{Table}
use Rattle.mt_query.specs.declared.query.Query.{Query}
use Rattle.mt_query.specs.declared.why.QueryWhy.{QueryWhy}
use Rattle.mt_query.specs.Queries.{Asks}
use Rattle.mt_fold.specs.Answer.{answer_text}
use Rattle.mt_shelf.specs.Files.{Files}
use Rattle.mt_command.specs.Outcomes.{Outcomes, ◌>>=◌, gives}
use Rattle.mt_command.specs.Parts.{part_steps}
use Rattle.mt_command.specs.Tables.{table_in}
use Rattle.mt_command.specs.declared.status.Status.TheVariants.{BadQuery}

-- what a text asks of a table: its query, or the first rule that it breaks
abbrev pub query_asked : Table → (text : List ℕ) → Outcomes Query
query_asked table text (Ok query) = Asks text table (Ok query)
query_asked table text (Err status) = (why : QueryWhy) × Asks text table (Err why) × (status ≡ BadQuery why)

-- the lines of a query's answer over the rows of a part
abbrev pub answer_steps : Table → Query → (part : List ℕ) → Files → Outcomes (List ℕ)
answer_steps table query part files = do
  accepted ← part_steps table part files
  gives (Ok (answer_text table query accepted.rows))

-- select TABLE PART QUERY prints these lines of the table and the query that are read first
abbrev pub select_steps : (path part text : List ℕ) → Files → Outcomes (List ℕ)
select_steps path part text files = do
  table ← gives (table_in path files)
  query ← query_asked table text
  answer_steps table query part files
