-- Rows sorted by the rank of their one key column and then by its value are the rows sorted by key.
use Rattle.std.proofs.Common.{◌≡◌, ℕ, false, List, [], ◌∷◌, map, refl, ap, sym, ◌∙◌}
use Rattle.std.specs.Cmp.{IsTotalOrder, ranked}
use Rattle.std.specs.List.{list_any}
use Rattle.std.specs.List.Sorted.{IsSorted, IsStable}
use Rattle.std.specs.Ordering.{nat_cmp}
use Rattle.std.specs.declared.cmp.Ordering.TheVariants.{Equal}
use Rattle.std.proofs.lemmas.Cmp.{on_total, then_total, nat_cmp_total}
use Rattle.mt_types.specs.Order.{values_cmp}
use Rattle.mt_types.specs.Ordered.{values_total}
use Rattle.mt_defs.specs.Rows.{Row, key_of, key_cmp}
use Rattle.mt_defs.specs.Sorting.{sorted_by, sorted_rows}
use Rattle.mt_sort.specs.declared.rank.Scale.{Scale}
use Rattle.mt_sort.specs.declared.one_rank.OneRank.{OneRank}
use Rattle.mt_sort.specs.Ranks.{is_decided, has_huge}
use Rattle.mt_sort.specs.RankedOnce.{key_left, ranked_row, ranked_cmp}
use Rattle.mt_sort.proofs.ColumnLemmas.{NoHuge, no_huges, then_whole, left_cmp, rank_in, rows_rise, rows_fall, rows_tie}
use Rattle.mt_sort.proofs.SortedLemmas.{map-sorted_by, sorted_by_either}
use Rattle.mt_sort.proofs.StableLemmas.{the_one}

module _ (scale : Scale) (column : ℕ) where
  abbrev key : List ℕ
  key = column ∷ []

  -- the order by rank and then by what is left of the key is total
  pub ranked_total : IsTotalOrder (ranked_cmp scale column)
  ranked_total = then_total (on_total (λ (r : OneRank). r.rank) nat_cmp_total) (on_total (key_left scale column) values_total)

  abbrev rank_of : Row → ℕ
  rank_of row = rank_in scale column [] row

  -- beside its rank, a row compares as by its key
  ranks_agree : (a b : Row) → NoHuge key a → NoHuge key b → ranked_cmp scale column (ranked_row scale column a) (ranked_row scale column b) ≡ key_cmp key a b
  ranks_agree a b p q =
      then_whole (nat_cmp (rank_of a) (rank_of b)) (values_cmp (key_left scale column (ranked_row scale column a)) (key_left scale column (ranked_row scale column b))) (key_cmp key a b) (rows_rise scale column [] a b)
      (rows_fall scale column [] a b) (λ e.
      let same : rank_of a ≡ rank_of b = ranked (rank_of a) (rank_of b) Equal (sym e) in
      left_cmp (is_decided scale (rank_of a)) (is_decided scale (rank_of b)) (key_of key a) (key_of key b) (ap (is_decided scale) same) (λ d. sym (rows_tie scale column [] a b p.0 q.0 d same)))

  rows_back : (rows : List Row) → map (λ (r : OneRank). r.row) (map (ranked_row scale column) rows) ≡ rows
  rows_back [] = refl
  rows_back (row ∷ rows) = ap (λ l. row ∷ l) (rows_back rows)

  -- what a stable sort of ranked rows gives, without the ranks
  pub sorted_ranked : (rows : List Row) (before after : List OneRank) → before ≡ map (ranked_row scale column) rows → list_any (has_huge key) rows ≡ false → IsSorted (ranked_cmp scale column) after → IsStable (ranked_cmp scale column) before after
      → map (λ (r : OneRank). r.row) after ≡ sorted_rows key rows
  sorted_ranked rows before after made plain up stable =
      let R = ranked_cmp scale column in
      let f = ranked_row scale column in
      let bare : List OneRank → List Row = map (λ (r : OneRank). r.row) in
      ap bare (the_one R ranked_total before after up stable ∙ ap (sorted_by R) made ∙ sym (map-sorted_by f R rows) ∙ ap (map f) (sorted_by_either (λ a b. R (f a) (f b)) (key_cmp key) (NoHuge key) ranks_agree rows (no_huges key rows plain)))
      ∙ rows_back (sorted_rows key rows)
