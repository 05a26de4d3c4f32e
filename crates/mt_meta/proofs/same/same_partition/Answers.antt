use Rattle.std.proofs.Common.{get_or, refl, subst}
use Rattle.std.specs.Prelude.{All}
use Rattle.std.proofs.lemmas.List.{take_all}
use Rattle.std.proofs.lemmas.List.Elements.{All-more}
use Rattle.mt_table.specs.declared.partition.PartExpr.TheVariants.{Plain}
use Rattle.mt_meta.specs.PartitionKeys.{IsKeyExpression, HaveSameValue}
use Rattle.mt_meta.proofs.PartitionLemmas.{at_index, has_value, all_same_values, all_same_bytes}
use Rattle.mt_meta.proofs.same.same_partition.Goals as goal

pub is_same-requires-clause-first : goal.is_same-requires-clause-first
is_same-requires-clause-first c =
    let t = c.args.table.now in
    let items = c.as_slice-expression-items in
    let i = c.loop-expression.expression-index in
    has_value t.columns c.args.a.now (get_or items.result.now i (Plain 0)) (at_index (IsKeyExpression t.columns) t.partition items.result.now i (Plain 0) items.ensures c.requires.key c.loop-expression-test.true) c.requires.first

pub is_same-requires-clause-second : goal.is_same-requires-clause-second
is_same-requires-clause-second c =
    let t = c.args.table.now in
    let items = c.as_slice-expression-items in
    let i = c.loop-expression.expression-index in
    has_value t.columns c.args.b.now (get_or items.result.now i (Plain 0)) (at_index (IsKeyExpression t.columns) t.partition items.result.now i (Plain 0) items.ensures c.requires.key c.loop-expression-test.true) c.requires.second

pub returns-then-not-is_same : goal.returns-then-not-is_same
returns-then-not-is_same c =
    let t = c.args.table.now in
    let items = c.as_slice-expression-items in
    let i = c.loop-expression.expression-index in (
      λ is. cc,
      λ e.
          let all = all_same_values t.columns c.args.a.now c.args.b.now t.partition c.requires.key c.requires.first c.requires.second e in
          c.if-not-is_same.ensures.1 (at_index (HaveSameValue c.args.a.now c.args.b.now) t.partition items.result.now i (Plain 0) items.ensures all c.loop-expression-test.true),
    )

pub loop-expression-preserved : goal.loop-expression-preserved
loop-expression-preserved c =
    let t = c.args.table.now in
    let items = c.as_slice-expression-items in
    let i = c.loop-expression.expression-index in
    let same = HaveSameValue c.args.a.now c.args.b.now in
    All-more same t.partition i (Plain 0) (rw items.ensures at c.loop-expression-test.true) c.loop-expression.invariant (rw items.ensures at (c.if-not-is_same.ensures.0 refl))

pub returns : goal.returns
returns c =
    let t = c.args.table.now in
    let same = HaveSameValue c.args.a.now c.args.b.now in
    let all = take_all c.loop-expression.expression-index t.partition (rw c.as_slice-expression-items.ensures at c.loop-expression-test.false) in
    (λ is. all_same_bytes t.columns c.args.a.now c.args.b.now t.partition (subst (All same) all c.loop-expression.invariant), λ e. refl)
