use Rattle.std.proofs.Common.{[], ◌++◌, refl, get_or, subst, sym}
use Rattle.std.specs.Prelude.{All}
use Rattle.std.proofs.lemmas.List.Elements.{All-take, All-drop}
use Rattle.mt_defs.specs.Rows.{RowFits}
use Rattle.mt_defs.specs.WrittenColumns.{compact_frames}
use Rattle.mt_granules.proofs.GranuleLemmas.{granule_cut, granule_next}
use Rattle.mt_compact.proofs.WrittenLemmas.{granule_step, granules_end}
use Rattle.mt_compact.proofs.writing.data_of.Goals as goal

pub append_granule-requires-clause-fit : goal.append_granule-requires-clause-fit
append_granule-requires-clause-fit c =
    subst (All (RowFits c.args.columns.now)) (sym c.split_at.ensures.front) (All-take (RowFits c.args.columns.now) (get_or c.args.granules.now c.loop-count.count-index 0) c.loop-count.rest.now c.loop-count.invariant.fit)

pub loop-count-init : goal.loop-count-init
loop-count-init c = record { runs = []; written = c.in_ok-file.ensures; ahead = refl; cut = c.requires.cut.all; fit = c.requires.fit }

pub loop-count-preserved : goal.loop-count-preserved
loop-count-preserved c =
    let i = c.loop-count.count-index in
    let lt = c.loop-count-test.true in
    let before = c.loop-count.invariant in
    record {
      runs = before.runs ++ compact_frames c.args.columns.now c.split_at.result.0.now;
      written = c.in_ok-append_granule.ensures before.runs before.written;
      ahead = granule_step c.args.columns.now before.runs _ _ c.split_at.result.0.now _ (granule_next c.args.granules.now i c.loop-count.rest.now c.split_at.result.0.now c.split_at.result.1.now lt c.split_at.ensures.front c.split_at.ensures.back) before.ahead;
      cut = granule_cut c.args.granules.now i c.loop-count.rest.now c.split_at.result.1.now lt c.split_at.ensures.back before.cut;
      fit = subst (All (RowFits c.args.columns.now)) (sym c.split_at.ensures.back) (All-drop (RowFits c.args.columns.now) (get_or c.args.granules.now i 0) c.loop-count.rest.now before.fit);
    }

pub returns : goal.returns
returns c = granules_end c.args.columns.now c.args.granules.now c.loop-count.count-index c.loop-count.rest.now c.loop-count.invariant.runs _ _ c.loop-count-test.false c.loop-count.invariant.written c.loop-count.invariant.ahead
