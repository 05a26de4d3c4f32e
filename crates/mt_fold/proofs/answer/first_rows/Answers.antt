use Rattle.std.proofs.Common.{◌≡◌, ◌∙◌, ap, length}
use Rattle.mt_defs.specs.Rows.{Row}
use Rattle.mt_fold.specs.Answer.{limited}
use Rattle.mt_fold.proofs.AnswerLemmas.{All-first}
use Rattle.mt_fold.proofs.answer.first_rows.Goals as goal

pub returns-clause-whole : goal.returns-clause-whole
returns-clause-whole c = λ size all.
    let is = c.limit_to.ensures ∙ ap (limited c.args.limit) c.in_ok-put_in_order.ensures in
    rw is (All-first (λ (row : Row). length row ≡ size) c.args.limit c.args.rows.items all)
