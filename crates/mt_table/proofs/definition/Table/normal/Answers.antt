use Rattle.std.proofs.Common.{◌≡◌, arith, true, length, ap, sym, ◌∙◌, subst}
use Rattle.std.specs.List.{list_all}
use Rattle.std.proofs.lemmas.List.{length-map}
use Rattle.mt_table.specs.Kept.{is_place}
use Rattle.mt_table.specs.Stored.{column_at, columns_below}
use Rattle.mt_table.proofs.StoredLemmas.{below_few, below_within, columns_few}
use Rattle.mt_table.proofs.definition.Table.normal.Goals as goal

pub copy_columns-requires : goal.copy_columns-requires
copy_columns-requires c =
    let few = columns_few c.args.self.now in
    let len = c.len.ensures in
    let count = c.len.result in
    let places : c.as_slice-places.result.now ≡ columns_below count c.args.chosen.now = c.as_slice-places.ensures ∙ c.in_ok-stored.ensures in
    record {
      there = subst (λ places. list_all (is_place c.as_slice.result.now) places ≡ true) (sym places)
          (subst (λ columns. list_all (is_place columns) (columns_below count c.args.chosen.now) ≡ true) (sym c.as_slice.ensures)
          (below_within c.args.self.now.columns count c.args.chosen.now (omega (arith, few, len))));
    }

pub places_among-requires : goal.places_among-requires
places_among-requires c =
    let few = columns_few c.args.self.now in
    let len = c.len.ensures in
    let count = c.len.result in
    let places : length c.as_slice-places.result.now ≡ length (columns_below count c.args.chosen.now) = ap length (c.as_slice-places.ensures ∙ c.in_ok-stored.ensures) in
    let most = below_few count c.args.chosen.now in
    record { few = omega (arith, few, len, places, most) }

pub overflow_cast-len-2 : goal.overflow_cast-len-2
overflow_cast-len-2 c =
    let few = columns_few c.args.self.now in
    let len = c.len.ensures in
    let count = c.len.result in
    let places = c.as_slice-places.result.now in
    let stored : length places ≡ length (columns_below count c.args.chosen.now) = ap length (c.as_slice-places.ensures ∙ c.in_ok-stored.ensures) in
    let most = below_few count c.args.chosen.now in
    let copied : length c.in_ok-columns.columns ≡ length places = ap length c.in_ok-columns.ensures ∙ length-map places (column_at c.as_slice.result.now) in
    let size = c.len-2.ensures in
    omega (arith, few, len, stored, most, copied, size)
