use Rattle.std.proofs.Common.{◌+◌, ap, sym, ◌∙◌, arith}
use Rattle.std.proofs.Common.{length}
use Rattle.std.proofs.lemmas.List.{take_all}
use Rattle.mt_types.specs.declared.value.Value.{Value}
use Rattle.mt_defs.specs.Rows.{Row, cell, column_values}
use Rattle.mt_meta.specs.Minmax.{is_less, is_greater, least_of, greatest_of}
use Rattle.mt_meta.proofs.BestLemmas.{pick, best_start, best_step, strict_less, strict_greater, rest_has}
use Rattle.mt_meta.proofs.minmax.minmax.Goals as goal

pub cell-value-requires : goal.cell-value-requires
cell-value-requires c = rest_has c.args.column_index c.args.rows.now c.in-Some.others.now c.in-Some.first.now c.row-item.result c.loop-row.row-index c.in-Some.ensures.cases.0 c.requires.has c.loop-row-test.true c.row-item.is

pub loop-row-init : goal.loop-row-init
loop-row-init c =
    let f : Row → Value = λ row. cell row c.args.column_index in
    record {
      least = best_start is_less f c.args.rows.now c.in-Some.others.now c.in-Some.first.now c.cell-least.result.now c.in-Some.ensures.cases.0 c.cell-least.ensures;
      greatest = best_start is_greater f c.args.rows.now c.in-Some.others.now c.in-Some.first.now c.cell-least.result.now c.in-Some.ensures.cases.0 c.cell-least.ensures;
    }

pub loop-row-preserved : goal.loop-row-preserved
loop-row-preserved c =
    let f : Row → Value = λ row. cell row c.args.column_index in
    let r = c.row-item.result in
    record {
      least = best_step is_less strict_less f c.args.rows.now c.in-Some.others.now c.in-Some.first.now r r c.loop-row.row-index c.loop-row.least.now c.lesser-least.result.now c.in-Some.ensures.cases.0 c.loop-row-test.true c.row-item.is
          (c.lesser-least.ensures ∙ ap (λ v. pick is_less v c.loop-row.least.now) c.cell-value.ensures) c.loop-row.invariant.least;
      greatest = best_step is_greater strict_greater f c.args.rows.now c.in-Some.others.now c.in-Some.first.now r r c.loop-row.row-index c.loop-row.greatest.now c.greater-greatest.result.now c.in-Some.ensures.cases.0 c.loop-row-test.true c.row-item.is
          (c.greater-greatest.ensures ∙ ap (λ v. pick is_greater v c.loop-row.greatest.now) c.cell-value.ensures) c.loop-row.invariant.greatest;
    }

pub returns-clause-least : goal.returns-clause-least
returns-clause-least c =
    let long = ap length c.in-Some.ensures.cases.0 in
    ap (λ rows. least_of (column_values c.args.column_index rows)) (sym (take_all (c.loop-row.row-index + 1) c.args.rows.now (omega (arith, long, c.loop-row-test.false)))) ∙ c.loop-row.invariant.least

pub returns-clause-greatest : goal.returns-clause-greatest
returns-clause-greatest c =
    let long = ap length c.in-Some.ensures.cases.0 in
    ap (λ rows. greatest_of (column_values c.args.column_index rows)) (sym (take_all (c.loop-row.row-index + 1) c.args.rows.now (omega (arith, long, c.loop-row-test.false)))) ∙ c.loop-row.invariant.greatest
