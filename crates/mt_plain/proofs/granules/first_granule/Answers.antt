use Rattle.std.proofs.Common.{◌≡◌, ◌≤◌, ◌+◌, ◌-◌, length, arith, sym, ◌∙◌}
use Rattle.std.specs.Prelude.{List, Bool}
use Rattle.mt_defs.specs.Rows.{Row}
use Rattle.mt_defs.specs.WrittenGranules.{is_full}
use Rattle.mt_defs.proofs.RowLemmas.{some_rows}
use Rattle.mt_plain.proofs.GranuleLemmas.{ends_here, ends_last, goes_on}
use Rattle.mt_plain.proofs.granules.first_granule.Goals as goal

pub returns-then-branch : goal.returns-then-branch
returns-then-branch c =
    let full : List Row → Bool = is_full c.args.table.now.settings c.args.table.now.columns in
    record {
      some = c.loop-count.auto.count;
      within = omega (arith, c.loop-count-test.true);
      cut = ends_here full c.args.rows.now _ (c.loop-count.count - 1) c.loop-count.count _ (omega (arith, c.loop-count.auto.count)) (omega (arith, c.loop-count-test.true)) c.split_at.ensures.front
          (sym c.in_ok-is_full.ensures ∙ c.if-branch.true) c.loop-count.invariant;
    }

pub loop-count-preserved : goal.loop-count-preserved
loop-count-preserved c =
    let full : List Row → Bool = is_full c.args.table.now.settings c.args.table.now.columns in
    goes_on full c.args.rows.now _ (c.loop-count.count - 1) c.loop-count.count _ _ (omega (arith, c.loop-count.auto.count)) (omega arith) (omega (arith, c.loop-count-test.true)) c.split_at.ensures.front
    (sym c.in_ok-is_full.ensures ∙ c.if-branch.false) c.loop-count.invariant

pub returns : goal.returns
returns c =
    let some : 1 ≤ length c.args.rows.now = some_rows c.args.rows.now c.requires.some in
    let next : (c.loop-count.count - 1) + 1 ≡ length c.args.rows.now =
    omega (arith, c.loop-count.auto.count, c.loop-count.auto.count-end some, c.loop-count-test.false) in
    record {
      some = some;
      within = omega arith;
      cut = ends_last (is_full c.args.table.now.settings c.args.table.now.columns) c.args.rows.now (c.loop-count.count - 1) _ next c.loop-count.invariant;
    }
