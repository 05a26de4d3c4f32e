-- Rows sorted by two ranks and then by key are the rows sorted by key.
use Rattle.std.proofs.Common.{◌≡◌, ℕ, Bool, true, false, cond, ◌&&◌, List, [], ◌∷◌, map, refl, ap, sym, ◌∙◌, subst, inl, inr}
use Rattle.std.specs.Cmp.{IsTotalOrder, ranked}
use Rattle.std.specs.List.{list_any}
use Rattle.std.specs.List.Sorted.{IsSorted, IsStable}
use Rattle.std.specs.Ordering.{ordering_then, nat_cmp}
use Rattle.std.specs.declared.cmp.Ordering.{Ordering}
use Rattle.std.specs.declared.cmp.Ordering.TheVariants.{Equal}
use Rattle.std.proofs.lemmas.Bool.{cases_Bool}
use Rattle.std.proofs.lemmas.Cmp.{on_total, then_total, nat_cmp_total}
use Rattle.mt_types.specs.Order.{values_cmp}
use Rattle.mt_types.specs.Ordered.{values_total}
use Rattle.mt_defs.specs.Rows.{Row, cell, key_of, key_cmp}
use Rattle.mt_defs.specs.Sorting.{sorted_by, sorted_rows}
use Rattle.mt_sort.specs.declared.two_ranks.TwoRanks.{TwoRanks}
use Rattle.mt_sort.specs.declared.two_ranks.Scales.{Scales}
use Rattle.mt_sort.specs.Ranks.{is_decided, value_rank, has_huge}
use Rattle.mt_sort.specs.RankedTwice.{are_decided, key_left, second_rank, ranked_row, ranked_cmp}
use Rattle.mt_sort.proofs.StableLemmas.{the_one}
use Rattle.mt_sort.proofs.SortedLemmas.{map-sorted_by, sorted_by_either}
use Rattle.mt_sort.proofs.ColumnLemmas.{NoHuge, no_huges, then_whole, left_cmp, rank_in, rows_rise, rows_fall, rows_tie}

-- the order by ranks and then by what is left of the key is total
pub ranked_total : (scales : Scales) (key : List ℕ) → IsTotalOrder (ranked_cmp scales key)
ranked_total scales key =
    then_total (on_total (λ (r : TwoRanks). r.first) nat_cmp_total) (then_total (on_total (λ (r : TwoRanks). r.second) nat_cmp_total) (on_total (key_left scales key) values_total))

module _ (scales : Scales) (column : ℕ) where
  abbrev first_in : Row → ℕ
  first_in row = rank_in scales.first column [] row

  -- the rank of the second column of a row
  abbrev second_in : List ℕ → Row → ℕ
  second_in others row = second_rank scales (first_in row) others row

  -- whether a row's ranks decide
  abbrev decided_in : List ℕ → Row → Bool
  decided_in others row = are_decided scales (column ∷ others) (first_in row) (second_in others row)

  abbrev left_in : List ℕ → Row → Row → Ordering
  left_in others a b = values_cmp (key_left scales (column ∷ others) (ranked_row scales (column ∷ others) a)) (key_left scales (column ∷ others) (ranked_row scales (column ∷ others) b))

  abbrev SecondsAgree : List ℕ → Row → Row → Type 0
  SecondsAgree others a b = ordering_then (nat_cmp (second_in others a) (second_in others b)) (left_in others a b) ≡ key_cmp (column ∷ others) a b

  -- nothing is decided by ranks of which the first leaves several values
  open_first : (other : ℕ) (more : List ℕ) (rank next : ℕ) → is_decided scales.first rank ≡ false → are_decided scales (column ∷ other ∷ more) rank next ≡ false
  open_first other [] rank next e = ap (λ d. d && is_decided scales.second next) e
  open_first other (third ∷ more) rank next e = refl

  open_agree : (other : ℕ) (more : List ℕ) (a b : Row) → is_decided scales.first (first_in a) ≡ false → is_decided scales.first (first_in b) ≡ false → SecondsAgree (other ∷ more) a b
  open_agree other more a b is_a is_b =
      let others = other ∷ more in
      let next_a : second_in others a ≡ 0 = ap (λ d. cond d (value_rank scales.second (cell a other)) 0) is_a in
      let next_b : second_in others b ≡ 0 = ap (λ d. cond d (value_rank scales.second (cell b other)) 0) is_b in
      let left_a : decided_in others a ≡ false = open_first other more (first_in a) (second_in others a) is_a in
      let left_b : decided_in others b ≡ false = open_first other more (first_in b) (second_in others b) is_b in
      ap (λ n. ordering_then (nat_cmp n (second_in others b)) (left_in others a b)) next_a
      ∙ ap (λ n. ordering_then (nat_cmp 0 n) (left_in others a b)) next_b
      ∙ left_cmp (decided_in others a) (decided_in others b) (key_of (column ∷ others) a) (key_of (column ∷ others) b) (left_a ∙ sym left_b) (λ d. let bad : true ≡ false = sym d ∙ left_a in cc)

  -- keys of which both columns are decided are one
  both_decided : (other : ℕ) (more : List ℕ) (a b : Row) → NoHuge (other ∷ more) a → NoHuge (other ∷ more) b → is_decided scales.first (first_in a) ≡ true → second_in (other ∷ more) a ≡ value_rank scales.second (cell a other)
      → value_rank scales.second (cell a other) ≡ value_rank scales.second (cell b other) → decided_in (other ∷ more) a ≡ true → Equal ≡ key_cmp (other ∷ more) a b
  both_decided other [] a b p q first next same d =
      let second : is_decided scales.second (value_rank scales.second (cell a other)) ≡ true =
      sym (ap (λ f. f && is_decided scales.second (value_rank scales.second (cell a other))) first) ∙ sym (ap (λ n. is_decided scales.first (first_in a) && is_decided scales.second n) next) ∙ d in
      sym (rows_tie scales.second other [] a b p.0 q.0 second same)
  both_decided other (third ∷ more) a b p q first next same d = cc

  decided_agree : (other : ℕ) (more : List ℕ) (a b : Row) → NoHuge (column ∷ other ∷ more) a → NoHuge (column ∷ other ∷ more) b → first_in a ≡ first_in b → is_decided scales.first (first_in a) ≡ true → is_decided scales.first (first_in b) ≡ true → SecondsAgree (other ∷ more) a b
  decided_agree other more a b p q e is_a is_b =
      let others = other ∷ more in
      let rank_a = value_rank scales.second (cell a other) in
      let rank_b = value_rank scales.second (cell b other) in
      let next_a : second_in others a ≡ rank_a = ap (λ d. cond d rank_a 0) is_a in
      let next_b : second_in others b ≡ rank_b = ap (λ d. cond d rank_b 0) is_b in
      let whole : key_cmp (column ∷ others) a b ≡ key_cmp others a b = rows_tie scales.first column others a b p.0 q.0 is_a e in
      ap (λ n. ordering_then (nat_cmp n (second_in others b)) (left_in others a b)) next_a
      ∙ ap (λ n. ordering_then (nat_cmp rank_a n) (left_in others a b)) next_b
      ∙ then_whole (nat_cmp rank_a rank_b) (left_in others a b) (key_cmp others a b) (rows_rise scales.second other more a b) (rows_fall scales.second other more a b) (λ o.
      let same : rank_a ≡ rank_b = ranked rank_a rank_b Equal (sym o) in
      let decided : decided_in others a ≡ decided_in others b =
      ap (λ r. are_decided scales (column ∷ others) r (second_in others a)) e ∙ ap (are_decided scales (column ∷ others) (first_in b)) (next_a ∙ same ∙ sym next_b) in
      left_cmp (decided_in others a) (decided_in others b) (key_of (column ∷ others) a) (key_of (column ∷ others) b) decided (λ d. both_decided other more a b p.1 q.1 is_a next_a same d ∙ sym whole)
      ∙ whole)
      ∙ sym whole

  -- rows that tie in their first rank compare by the second and what is left
  seconds_agree : (others : List ℕ) (a b : Row) → NoHuge (column ∷ others) a → NoHuge (column ∷ others) b → first_in a ≡ first_in b → SecondsAgree others a b
  seconds_agree [] a b p q e =
      left_cmp (is_decided scales.first (first_in a)) (is_decided scales.first (first_in b)) (key_of (column ∷ []) a) (key_of (column ∷ []) b) (ap (is_decided scales.first) e) (λ d.
      sym (rows_tie scales.first column [] a b p.0 q.0 d e))
  seconds_agree (other ∷ more) a b p q e =
      elim (cases_Bool (is_decided scales.first (first_in a))) [
        | inl decided ↦ decided_agree other more a b p q e decided (sym (ap (is_decided scales.first) e) ∙ decided)
        | inr undecided ↦ open_agree other more a b undecided (sym (ap (is_decided scales.first) e) ∙ undecided)
      ]

  -- beside their ranks, rows compare as by their keys
  ranks_agree : (others : List ℕ) (a b : Row) → NoHuge (column ∷ others) a → NoHuge (column ∷ others) b → ranked_cmp scales (column ∷ others) (ranked_row scales (column ∷ others) a) (ranked_row scales (column ∷ others) b) ≡ key_cmp (column ∷ others) a b
  ranks_agree others a b p q =
      then_whole (nat_cmp (first_in a) (first_in b)) (ordering_then (nat_cmp (second_in others a) (second_in others b)) (left_in others a b)) (key_cmp (column ∷ others) a b) (rows_rise scales.first column others a b)
      (rows_fall scales.first column others a b) (λ e.
      seconds_agree others a b p q (ranked (first_in a) (first_in b) Equal (sym e)))

  rows_back : (others : List ℕ) (rows : List Row) → map (λ (r : TwoRanks). r.row) (map (ranked_row scales (column ∷ others)) rows) ≡ rows
  rows_back others [] = refl
  rows_back others (row ∷ rows) = ap (λ l. row ∷ l) (rows_back others rows)

  ranked_sorts : (others : List ℕ) (rows : List Row) → list_any (has_huge (column ∷ others)) rows ≡ false → map (λ (r : TwoRanks). r.row) (sorted_by (ranked_cmp scales (column ∷ others)) (map (ranked_row scales (column ∷ others)) rows)) ≡ sorted_rows (column ∷ others) rows
  ranked_sorts others rows plain =
      let key = column ∷ others in
      let f = ranked_row scales key in
      ap (map (λ (r : TwoRanks). r.row)) (sym (map-sorted_by f (ranked_cmp scales key) rows) ∙ ap (map f) (sorted_by_either (λ a b. ranked_cmp scales key (f a) (f b)) (key_cmp key) (NoHuge key) (ranks_agree others) rows (no_huges key rows plain)))
      ∙ rows_back others (sorted_rows key rows)

-- what a stable sort of ranked rows gives, without the ranks
pub sorted_ranked : (scales : Scales) (column : ℕ) (others key : List ℕ) (rows : List Row) (before after : List TwoRanks)
    → key ≡ column ∷ others → list_any (has_huge key) rows ≡ false → before ≡ map (ranked_row scales (column ∷ others)) rows → IsSorted (ranked_cmp scales key) after → IsStable (ranked_cmp scales key) before after
    → map (λ (r : TwoRanks). r.row) after ≡ sorted_rows key rows
sorted_ranked scales column others key rows before after parts plain made up stable =
    let Sorts : List ℕ → Type 0 = λ k. map (λ (r : TwoRanks). r.row) (sorted_by (ranked_cmp scales k) (map (ranked_row scales (column ∷ others)) rows)) ≡ sorted_rows k rows in
    ap (map (λ (r : TwoRanks). r.row)) (the_one (ranked_cmp scales key) (ranked_total scales key) before after up stable ∙ ap (sorted_by (ranked_cmp scales key)) made)
    ∙ subst Sorts (sym parts) (ranked_sorts scales column others rows (subst (λ k. list_any (has_huge k) rows ≡ false) parts plain))
