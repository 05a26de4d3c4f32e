-- The steps of `select`, each as the outcome of what follows it.
use Rattle.std.proofs.Common.{◌≡◌, ℕ, List, Option, Some, None, IfSome, Result, Ok, Err, inl, inr, refl, sym, subst}
use Rattle.mt_table.specs.declared.definition.Table.{Table}
use Rattle.mt_query.specs.declared.query.Query.{Query}
use Rattle.mt_shelf.specs.Files.{Files}
use Rattle.mt_definition.specs.declared.accepted.Accepted.{Accepted}
use Rattle.mt_command.specs.Outcomes.{ReturnsOutcome}
use Rattle.mt_command.specs.Parts.{part_steps}
use Rattle.mt_command.specs.Status.{GivesOutcome}
use Rattle.mt_command.specs.Tables.{table_in}
use Rattle.mt_command.specs.declared.status.Status.{Status}
use Rattle.mt_select.specs.Select.{answer_steps, query_asked, select_steps}

-- what the steps answer with this refusal
abbrev RefusesAnswer : Table → Query → List ℕ → Status → Files → Type 0
RefusesAnswer table query part status f = ReturnsOutcome (let r : Result (List ℕ) Status = Err status in r) (answer_steps table query part f)

abbrev RefusesSelect : List ℕ → List ℕ → List ℕ → Status → Files → Type 0
RefusesSelect path part text status f = ReturnsOutcome (let r : Result (List ℕ) Status = Err status in r) (select_steps path part text f)

-- the part is refused
pub part_refused : (table : Table) (query : Query) (part : List ℕ) (status : Status) (files : Option Files) → IfSome files (λ f. ReturnsOutcome (let r : Result Accepted Status = Err status in r) (part_steps table part f))
    → IfSome files (RefusesAnswer table query part status)
part_refused table query part status None refuses = tt
part_refused table query part status (Some f) refuses = λ inside. inr (status, refuses inside, refl)

-- there is no table
pub table_refused : (path part text : List ℕ) (status : Status) (files : Option Files) → IfSome files (λ f. GivesOutcome (let r : Result Table Status = Err status in r) (table_in path f)) → IfSome files (RefusesSelect path part text status)
table_refused path part text status None gives = tt
table_refused path part text status (Some f) gives = λ inside. inr (status, sym (gives inside), refl)

-- the text is no query of the table
pub query_refused : (path part text : List ℕ) (table : Table) (status : Status) (files : Option Files) → IfSome files (λ f. table_in path f ≡ Ok table)
    → ReturnsOutcome (let r : Result Query Status = Err status in r) (query_asked table text) → IfSome files (RefusesSelect path part text status)
query_refused path part text table status None known refuses = tt
query_refused path part text table status (Some f) known refuses = λ inside. inl (table, sym known, inr (status, refuses inside, refl))

-- what follows the table and the query is the outcome
answer_refused : (path part text : List ℕ) (table : Table) (query : Query) (status : Status) (files mid : Option Files) → IfSome files (λ f. table_in path f ≡ Ok table) → mid ≡ files → query_asked table text (Ok query)
    → IfSome mid (RefusesAnswer table query part status) → IfSome files (RefusesSelect path part text status)
answer_refused path part text table query status None mid known same asks refuses = tt
answer_refused path part text table query status (Some f) mid known same asks refuses =
    let P : Option Files → Type 0 = λ o. IfSome o (RefusesAnswer table query part status) in
    let here : RefusesAnswer table query part status f = subst P same refuses in
    λ inside. inl (table, sym known, inl (query, asks, here inside))

select_given : (path part text : List ℕ) (table : Table) (query : Query) (answer : List ℕ) (files mid : Option Files) → IfSome files (λ f. table_in path f ≡ Ok table) → mid ≡ files → query_asked table text (Ok query)
    → IfSome mid (λ f. answer_steps table query part f (Ok answer)) → IfSome files (λ f. select_steps path part text f (Ok answer))
select_given path part text table query answer None mid known same asks given = tt
select_given path part text table query answer (Some f) mid known same asks given =
    let P : Option Files → Type 0 = λ o. IfSome o (λ g. answer_steps table query part g (Ok answer)) in
    let here : answer_steps table query part f (Ok answer) = subst P same given in
    inl (table, sym known, inl (query, asks, here))

pub answer_outcome : (path part text : List ℕ) (table : Table) (query : Query) (result : Result (List ℕ) Status) (files mid : Option Files) → IfSome files (λ f. table_in path f ≡ Ok table) → mid ≡ files → query_asked table text (Ok query)
    → IfSome mid (λ f. ReturnsOutcome result (answer_steps table query part f)) → IfSome files (λ f. ReturnsOutcome result (select_steps path part text f))
answer_outcome path part text table query (Ok answer) files mid known same asks outcome = select_given path part text table query answer files mid known same asks outcome
answer_outcome path part text table query (Err status) files mid known same asks outcome = answer_refused path part text table query status files mid known same asks outcome
