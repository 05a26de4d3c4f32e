use Rattle.std.proofs.Common.{◌∙◌, sym, ap}
use Rattle.std.specs.Prelude.{◌==◌}
use Rattle.std.specs.List.{list_any}
use Rattle.mt_table.specs.declared.partition.PartExpr.TheVariants.{Plain}
use Rattle.mt_meta.proofs.PartitionLemmas.{key_kept, key_pushed}
use Rattle.mt_meta.proofs.expression.key_columns.Goals as goal
use Rattle.mt_meta.proofs.expression.key_columns.Goals.{then-not-has+in_ok-push, else-not-has}

pub loop-expression-preserved : goal.loop-expression-preserved
loop-expression-preserved c =
    let partition = c.args.partition.now in
    let i = c.loop-expression.expression-index in
    let x = c.column_of-column_index.result in
    let columns = c.loop-expression.columns in
    let has = ap (list_any (λ k. k == x)) (sym c.as_slice.ensures) ∙ sym c.has.ensures in
    elim c.if-not-has.branch [
      | then-not-has+in_ok-push w ↦
          key_pushed partition i (Plain 0) x columns c.if-not-has.columns c.loop-expression-test.true c.column_of-column_index.ensures c.loop-expression.invariant (has ∙ w.if-not-has.true) (w.columns-is ∙ w.in_ok-push.ensures.ok)
      | else-not-has w ↦ w.columns-is ∙ key_kept partition i (Plain 0) x columns c.loop-expression-test.true c.column_of-column_index.ensures c.loop-expression.invariant (has ∙ w.if-not-has.false)
    ]
