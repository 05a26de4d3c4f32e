use Rattle.std.proofs.Common.{◌≡◌, ◌+◌, ◌<◌, [], ◌++◌, length, ap, sym, ◌∙◌, arith}
use Rattle.mt_defs.specs.WrittenGranules.{granules_from, is_full}
use Rattle.mt_layout.specs.Sizes.{saturated, row_size}
use Rattle.mt_layout.proofs.PayloadLemmas.{payload_size-none}
use Rattle.mt_layout.proofs.GranuleLemmas.{same_cut, nothing_begun, goes_on, ends_here, all_more}
use Rattle.mt_layout.proofs.layout.granules_of.Goals.{then-is_full+in_ok-push, else-is_full}
use Rattle.mt_layout.proofs.layout.granules_of.Goals as goal

pub loop-row-init : goal.loop-row-init
loop-row-init c =
    let settings = c.args.settings.now in
    let columns = c.args.columns.now in
    let rows = c.args.rows.now in
    record {
      few = omega arith;
      cut = nothing_begun settings columns rows 0 c.new-granules.result (ap (λ xs. xs ++ granules_from (is_full settings columns) [] rows) c.new-granules.ensures);
      all = sym (ap saturated (payload_size-none columns));
    }

pub loop-row-preserved : goal.loop-row-preserved
loop-row-preserved c =
    let settings = c.args.settings.now in
    let columns = c.args.columns.now in
    let rows = c.args.rows.now in
    let i = c.loop-row.row-index in
    let row = c.row-item.result in
    let so_far = c.loop-row.invariant in
    let within : i < length rows = omega arith in
    let sized : c.row_size-size.result ≡ saturated (row_size columns row) = c.row_size-size.ensures ∙ ap (λ r. saturated (row_size columns r)) c.as_slice.ensures in
    let all = all_more columns rows i c.loop-row.all_bytes c.saturating_add-all_bytes.result c.row_size-size.result row within c.row-item.is so_far.all sized c.saturating_add-all_bytes.ensures in
    elim c.if-is_full.branch [
      | then-is_full+in_ok-push w ↦ record {
        few = omega arith;
        cut = same_cut settings columns rows (i + 1) _ _ _ _ _ _ (w.granules-is ∙ w.in_ok-push.ensures.ok) w.count-is w.bytes-is
            (ends_here settings columns rows i c.loop-row.granules c.loop-row.count c.loop-row.bytes c.saturating_add-bytes.result c.row_size-size.result row
            so_far.cut within c.row-item.is sized c.saturating_add-bytes.ensures (λ payload measured. sym w.if-is_full.true ∙ c.is_full.ensures payload measured));
        all = all;
      }
      | else-is_full w ↦ record {
        few = omega arith;
        cut = same_cut settings columns rows (i + 1) _ _ _ _ _ _ w.granules-is w.count-is w.bytes-is
            (goes_on settings columns rows i c.loop-row.granules c.loop-row.count c.loop-row.bytes c.saturating_add-bytes.result c.row_size-size.result row
            so_far.cut within c.row-item.is sized c.saturating_add-bytes.ensures (λ payload measured. sym w.if-is_full.false ∙ c.is_full.ensures payload measured));
        all = all;
      }
    ]
