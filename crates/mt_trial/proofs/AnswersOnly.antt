-- The answers over rows have one outcome.
use Rattle.std.proofs.Common.{◌≡◌, ℕ, List, ◌++◌, refl, ap, subst, sym, Result, Ok, Err}
use Rattle.mt_query.specs.declared.query.Query.{Query}
use Rattle.mt_query.specs.declared.why.QueryWhy.{QueryWhy}
use Rattle.mt_query.specs.Queries.{Asks}
use Rattle.mt_query.proofs.ReadLemmas.{one_thing}
use Rattle.mt_fold.specs.Answer.{answer_text}
use Rattle.mt_defs.specs.Rows.{Row}
use Rattle.mt_command.specs.declared.status.Status.{Status}
use Rattle.mt_select.specs.Select.{query_asked}
use Rattle.mt_trial.specs.Queries.{totals_query, totals_text, groups_query, groups_text, great_query, great_text}
use Rattle.mt_trial.specs.Steps.{answer_lines, answers_of}
use Rattle.mt_trial.specs.Trial.{answers_over, rows_line}
use Rattle.mt_trial.specs.TrialTable.{trial_table}
use Rattle.mt_trial.proofs.OnlyLemmas.{IsOnly, given_only, then_only}
use Rattle.mt_trial.proofs.QueryLemmas.{totals_asked, groups_asked, great_asked}

same_query : (one other : Query) → (let r : Result Query QueryWhy = Ok one in r) ≡ Ok other → one ≡ other
same_query one other e = cc

no_query : (query : Query) (why : QueryWhy) → (let r : Result Query QueryWhy = Err why in r) ≡ Ok query → ⊥
no_query query why e = cc

query_only : (text : List ℕ) (query : Query) → Asks text trial_table (Ok query) → IsOnly (query_asked trial_table text) query
query_only text query asked outcome = (came outcome, λ same. subst (query_asked trial_table text) (sym same) asked)
  where
    came : (o : Result Query Status) → query_asked trial_table text o → o ≡ Ok query
    came (Ok other) is = ap Ok (same_query other query (one_thing text trial_table (Ok other) (Ok query) is asked))
    came (Err status) (why, is, named) = absurd (no_query query why (one_thing text trial_table (Err why) (Ok query) is asked))

answer_only : (rows : List Row) (text : List ℕ) (query : Query) → Asks text trial_table (Ok query) → IsOnly (answer_lines trial_table rows text) (answer_text trial_table query rows)
answer_only rows text query asked =
    then_only (query_asked trial_table text) _ query (answer_text trial_table query rows) (query_only text query asked) (given_only (Ok (answer_text trial_table query rows)) (answer_text trial_table query rows) refl)

pub answers_only : (rows : List Row) → IsOnly (answers_of trial_table rows) (answers_over rows)
answers_only rows =
    let totals : List ℕ = answer_text trial_table totals_query rows in
    let groups : List ℕ = answer_text trial_table groups_query rows in
    let great : List ℕ = answer_text trial_table great_query rows in
    then_only (answer_lines trial_table rows totals_text) _ totals (answers_over rows) (answer_only rows totals_text totals_query totals_asked)
    (then_only (answer_lines trial_table rows groups_text) _ groups (answers_over rows) (answer_only rows groups_text groups_query groups_asked)
    (then_only (answer_lines trial_table rows great_text) _ great (answers_over rows) (answer_only rows great_text great_query great_asked)
    (given_only (Ok (rows_line rows ++ totals ++ groups ++ great)) (answers_over rows) refl)))
