use Rattle.std.proofs.Common.{◌<◌, length, get_or, subst, sym}
use Rattle.std.specs.Prelude.{IsTrue}
use Rattle.std.proofs.lemmas.List.Elements.{All-drop}
use Rattle.mt_types.specs.Fits.{fits_of}
use Rattle.mt_defs.specs.Rows.{cell}
use Rattle.mt_granules.specs.CellColumns.{HasValues}
use Rattle.mt_granules.proofs.GranuleLemmas.{granule_cut, granule_next}
use Rattle.mt_wide.proofs.StreamLemmas.{encoded_step}
use Rattle.mt_wide.proofs.writing.encode_granules.Goals as goal

pub loop-count-preserved : goal.loop-count-preserved
loop-count-preserved c =
    let i = c.loop-count.count-index in
    let lt = c.loop-count-test.true in
    record {
      encoded = encoded_step c.args.column.now.ty c.args.column_index _ _ _ _ _ _ _ (granule_next c.args.granules.now i c.loop-count.rest.now c.split_at.result.0.now c.split_at.result.1.now lt c.split_at.ensures.front c.split_at.ensures.back)
          c.in_ok-encode_column.ensures c.in_ok-push.ensures.items c.loop-count.invariant.encoded;
      cut = granule_cut c.args.granules.now i c.loop-count.rest.now c.split_at.result.1.now lt c.split_at.ensures.back c.loop-count.invariant.cut;
      values = subst (HasValues c.args.column.now.ty c.args.column_index) (sym c.split_at.ensures.back)
          (All-drop (λ row. (c.args.column_index < length row) × IsTrue (fits_of c.args.column.now.ty (cell row c.args.column_index))) (get_or c.args.granules.now i 0) c.loop-count.rest.now c.loop-count.invariant.values);
    }
