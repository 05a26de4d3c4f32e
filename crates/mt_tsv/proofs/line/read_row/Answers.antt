use Rattle.std.proofs.Common.{length, drop, ap, ◌∙◌, arith, refl}
use Rattle.std.specs.Option.{option_copied}
use Rattle.std.specs.Prelude.{◌==◌}
use Rattle.std.proofs.lemmas.List.{drop_all}
use Rattle.mt_tsv.specs.declared.ascii.TheConstants.{TAB}
use Rattle.mt_tsv.specs.Reading.{parts, line_fields, field_values}
use Rattle.std.proofs.lemmas.List.Splits.{length-slice_split}
use Rattle.mt_facts.proofs.Lists.{drop_next}
use Rattle.mt_tsv.proofs.Lines.{values_more, values_end, values_done, row_is, row_bad, row_fails}
use Rattle.mt_tsv.proofs.line.read_row.Goals as goal

pub returns-in_default : goal.returns-in_default
returns-in_default c =
    let none = ap (λ o. length (parts TAB (option_copied o))) c.in_default.is in
    row_bad c.args.columns.now c.args.line.now (λ e. omega (arith, e, none, c.loop-column.invariant.count))

pub returns-in-Err : goal.returns-in-Err
returns-in-Err c =
    let item = drop_next c.args.columns.now c.loop-column.column-index c.column-item.result c.loop-column-test.true c.column-item.is in
    let texts = ap (λ r. parts TAB (option_copied r)) c.in-Some.is ∙ c.cut.ensures.parts in
    let fails = values_end c.in-Err.error c.loop-column.row _ _ c.column-item.result _ c.cut.result.0.now _ (field_values c.args.columns.now (line_fields c.args.line.now)) item texts c.in-Err.ensures c.loop-column.invariant.so_far in
    rw c.first_error.ensures (row_fails c.args.columns.now c.args.line.now _ c.in-Err.error refl fails)

pub loop-column-preserved : goal.loop-column-preserved
loop-column-preserved c =
    let item = drop_next c.args.columns.now c.loop-column.column-index c.column-item.result c.loop-column-test.true c.column-item.is in
    let texts = ap (λ r. parts TAB (option_copied r)) c.in-Some.is ∙ c.cut.ensures.parts in
    record {
      so_far = rw c.in_ok-push-in-Ok.ensures.ok (values_more c.loop-column.row _ _ c.column-item.result _ c.cut.result.0.now _ c.in-Ok.value (field_values c.args.columns.now (line_fields c.args.line.now)) item texts c.in-Ok.ensures c.loop-column.invariant.so_far);
      count = omega (arith, c.loop-column.invariant.count, ap length texts);
    }

pub returns-in-None : goal.returns-in-None
returns-in-None c =
    let none = ap (λ o. length (parts TAB (option_copied o))) c.in-None.is in
    let same = row_is c.args.columns.now c.args.line.now (omega (arith, none, c.loop-column.invariant.count)) in
    same ∙ values_done c.loop-column.row (drop c.loop-column.column-index c.args.columns.now) (parts TAB (option_copied c.loop-column.rest)) (field_values c.args.columns.now (line_fields c.args.line.now)) (drop_all c.loop-column.column-index c.args.columns.now c.loop-column-test.false) c.loop-column.invariant.so_far

pub returns-in-Some-rest : goal.returns-in-Some-rest
returns-in-Some-rest c =
    let some = ap (λ o. length (parts TAB (option_copied o))) c.in-Some-rest.is in
    let more = length-slice_split (λ b. b == TAB) c.in-Some-rest.field-0.now in
    row_bad c.args.columns.now c.args.line.now (λ e. omega (arith, e, some, more, c.loop-column.invariant.count, c.loop-column-test.false))
