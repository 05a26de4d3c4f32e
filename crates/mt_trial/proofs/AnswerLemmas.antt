-- What a trial prints of rows, or its refusal.
use Rattle.std.proofs.Common.{◌≡◌, inl, inr, ℕ, List, ◌++◌, Result, Ok, Err, refl, ap}
use Rattle.mt_table.specs.declared.definition.Table.{Table}
use Rattle.mt_query.specs.declared.query.Query.{Query}
use Rattle.mt_fold.specs.Answer.{answer_text}
use Rattle.mt_defs.specs.Rows.{Row}
use Rattle.mt_command.specs.Outcomes.{ReturnsOutcome}
use Rattle.mt_command.specs.declared.status.Status.{Status}
use Rattle.mt_select.specs.Select.{query_asked}
use Rattle.mt_trial.specs.Queries.{great_text, groups_text, totals_text}
use Rattle.mt_trial.specs.Steps.{answer_lines, answers_of}
use Rattle.mt_trial.specs.Trial.{rows_line}

pub query_refused : (table : Table) (rows : List Row) (text : List ℕ) (status : Status) → ReturnsOutcome (let r : Result Query Status = Err status in r) (query_asked table text)
    → ReturnsOutcome (let r : Result (List ℕ) Status = Err status in r) (answer_lines table rows text)
query_refused table rows text status refused = λ inside. inr (status, refused inside, refl)

pub query_answered : (table : Table) (rows : List Row) (text : List ℕ) (query : Query) (answer : List ℕ) → query_asked table text (Ok query) → answer ≡ answer_text table query rows → answer_lines table rows text (Ok answer)
query_answered table rows text query answer asked is = inl (query, asked, ap Ok is)

pub groups_refused : (table : Table) (rows : List Row) (totals : List ℕ) (status : Status) → answer_lines table rows totals_text (Ok totals) → ReturnsOutcome (let r : Result (List ℕ) Status = Err status in r) (answer_lines table rows groups_text)
    → ReturnsOutcome (let r : Result (List ℕ) Status = Err status in r) (answers_of table rows)
groups_refused table rows totals status first refused = λ inside. inl (totals, first, inr (status, refused inside, refl))

pub great_refused : (table : Table) (rows : List Row) (totals groups : List ℕ) (status : Status) → answer_lines table rows totals_text (Ok totals) → answer_lines table rows groups_text (Ok groups)
    → ReturnsOutcome (let r : Result (List ℕ) Status = Err status in r) (answer_lines table rows great_text) → ReturnsOutcome (let r : Result (List ℕ) Status = Err status in r) (answers_of table rows)
great_refused table rows totals groups status first second refused = λ inside. inl (totals, first, inl (groups, second, inr (status, refused inside, refl)))

pub all_answered : (table : Table) (rows : List Row) (totals groups great text : List ℕ) → answer_lines table rows totals_text (Ok totals) → answer_lines table rows groups_text (Ok groups) → answer_lines table rows great_text (Ok great)
    → text ≡ rows_line rows ++ totals ++ groups ++ great → answers_of table rows (Ok text)
all_answered table rows totals groups great text first second third is = inl (totals, first, inl (groups, second, inl (great, third, ap Ok is)))
