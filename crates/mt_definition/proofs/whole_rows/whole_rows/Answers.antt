use Rattle.std.proofs.Common.{◌≡◌, ◌∙◌, arith, length, map, ap, sym, subst, List, ℕ}
use Rattle.std.specs.Prelude.{Option}
use Rattle.std.specs.List.{range_with_len}
use Rattle.std.proofs.lemmas.List.{length-map}
use Rattle.std.proofs.lemmas.List.FromFn.{length-range_with_len}
use Rattle.mt_definition.specs.ListedPlaces.{ArePlaces, listed_place}
use Rattle.mt_definition.specs.RowsReading.{whole_row}
use Rattle.mt_definition.proofs.OrderLemmas.{moves_on, still_there}
use Rattle.mt_definition.proofs.WholeLemmas.{are_places, row_is, whole_rows_are}
use Rattle.mt_definition.proofs.whole_rows.whole_rows.Goals as goal

pub returns-then-has_all_in_place : goal.returns-then-has_all_in_place
returns-then-has_all_in_place c = whole_rows_are c.args.columns.now c.args.order.now c.args.rows (c.has_all_in_place.ensures c.if-has_all_in_place.true) c.requires

pub whole_row-requires-clause-long : goal.whole_row-requires-clause-long
whole_row-requires-clause-long c =
    let n = length c.args.columns.now in
    ap length (c.as_slice.ensures.value ∙ c.in_ok-places.ensures) ∙ length-map (range_with_len 0 n) (listed_place c.args.order.now) ∙ length-range_with_len 0 n

pub whole_row-requires-clause-places : goal.whole_row-requires-clause-places
whole_row-requires-clause-places c =
    let at = c.replace-row.ensures.value ∙ c.index_mut.ensures.value in
    let here = still_there c.args.rows c.loop-index.whole.items c.loop-index.index c.replace-row.result c.index_mut.result.now c.loop-index.invariant.left at in
    let inside = c.loop-index-test.true in
    let ends = c.len-count.ensures in
    let long : length c.replace-row.result ≡ length c.args.order.now = ap length here ∙ c.requires c.loop-index.index c.index_mut.result.now (omega (arith, inside, ends)) in
    let are = c.as_slice.ensures.value ∙ c.in_ok-places.ensures in
    subst (λ n. ArePlaces n c.as_slice.result.now) (sym long) (subst (ArePlaces (length c.args.order.now)) (sym are) (are_places c.args.order.now (length c.args.columns.now)))

pub loop-index-preserved : goal.loop-index-preserved
loop-index-preserved c =
    let at = c.replace-row.ensures.value ∙ c.index_mut.ensures.value in
    let inside = c.loop-index-test.true in
    let ends = c.len-count.ensures in
    let size = c.loop-index.invariant.long in
    let are : c.as_slice.result.now ≡ map (listed_place c.args.order.now) (range_with_len 0 (length c.args.columns.now)) =
    c.as_slice.ensures.value ∙ c.in_ok-places.ensures in
    let made = row_is c.args.columns.now c.args.order.now c.as_slice.result.now c.replace-row.result c.in_ok-whole.field-0 are c.in_ok-whole.ensures in
    let moves = moves_on (whole_row c.args.columns.now c.args.order.now) c.args.rows c.loop-index.whole.items c.loop-index.index c.replace-row.result c.in_ok-whole.field-0 c.replace-row.new.dest c.index_mut.result.now c.loop-index.invariant.done
    c.loop-index.invariant.left c.loop-index.invariant.long (omega (arith, inside, ends, size)) at made in
    record { done = moves.done; left = moves.left; long = moves.long }
