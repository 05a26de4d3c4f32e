use Rattle.std.proofs.Common.{◌∙◌, ap}
use Rattle.std.proofs.lemmas.Result.{IfOk-weaker}
use Rattle.mt_sort.specs.References.{rows_in}
use Rattle.mt_exec.proofs.PlainLemmas.{plain_answers}
use Rattle.mt_exec.proofs.plain.plain_text.Goals as goal

pub returns : goal.returns
returns c =
    IfOk-weaker c.text_of.result _ _ (λ text is.
    is ∙ plain_answers c.args.table.now c.args.query.now c.args.rows.now c.as_slice.result.now c.as_slice-items.result.now c.in_ok-kept.kept.items c.in_ok-put_in_order.field-0.items c.as_slice-2.result.now
    c.requires.plain c.as_slice-items.ensures (c.as_slice.ensures.value ∙ c.in_ok-columns.ensures) c.in_ok-kept.ensures c.in_ok-put_in_order.ensures (ap rows_in c.as_slice-2.ensures.value ∙ c.limit_to-first.ensures)) c.text_of.ensures
