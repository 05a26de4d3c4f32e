use Rattle.std.proofs.Common.{◌≡◌, ◌∙◌, sym, ap, length, subst}
use Rattle.std.specs.List.{All}
use Rattle.std.proofs.lemmas.Result.{IfOk-weaker}
use Rattle.mt_defs.specs.Rows.{Row}
use Rattle.mt_fold.specs.Answer.{limited, ordered}
use Rattle.mt_fold.proofs.AnswerLemmas.{answers_grouped, answers_plain}
use Rattle.mt_fold.proofs.partial.Partial.answer.Goals as goal

pub returns-in_ok-rows_of_groups-clause-whole : goal.returns-in_ok-rows_of_groups-clause-whole
returns-in_ok-rows_of_groups-clause-whole c = c.first_rows.ensures.whole (length c.args.query.now.items) c.in_ok-rows_of_groups.ensures.whole

pub returns-in_ok-rows_of_groups-clause-rows : goal.returns-in_ok-rows_of_groups-clause-rows
returns-in_ok-rows_of_groups-clause-rows c = λ R had.
    let q = c.args.query.now in
    IfOk-weaker c.first_rows.result _ _ (λ made is.
    is ∙ ap (λ rows. limited q.limit (ordered rows)) c.in_ok-rows_of_groups.ensures.made
    ∙ answers_grouped c.args.table.now q R c.args.self.rows c.args.self.groups.entries (sym c.is_grouped.ensures ∙ c.if-is_grouped.true) had) c.first_rows.ensures.first

pub returns-else-is_grouped-clause-whole : goal.returns-else-is_grouped-clause-whole
returns-else-is_grouped-clause-whole c =
    let n = length c.args.query.now.items in
    c.first_rows-else-is_grouped.ensures.whole n (subst (All (λ (row : Row). length row ≡ n)) (sym c.into_vec.ensures) c.requires.suits)

pub returns-else-is_grouped-clause-rows : goal.returns-else-is_grouped-clause-rows
returns-else-is_grouped-clause-rows c = λ R had.
    let q = c.args.query.now in
    IfOk-weaker c.first_rows-else-is_grouped.result _ _ (λ made is.
    is ∙ ap (λ rows. limited q.limit (ordered rows)) c.into_vec.ensures
    ∙ answers_plain c.args.table.now q R c.args.self.rows c.args.self.groups.entries (sym c.is_grouped.ensures ∙ c.if-is_grouped.false) had) c.first_rows-else-is_grouped.ensures.first
