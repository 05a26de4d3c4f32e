-- Rows by the rank of one column: they rise with it, and tie in it where one value has it.
use Rattle.std.proofs.Common.{◌≡◌, ℕ, ◌<◌, Bool, true, false, cond, List, [], ◌∷◌, refl, ap, sym, ◌∙◌}
use Rattle.std.specs.List.{AllByRecursion, list_any}
use Rattle.std.specs.Cmp.{ranked}
use Rattle.std.specs.Ordering.{ordering_then, ordering_reverse, nat_cmp}
use Rattle.std.specs.declared.cmp.Ordering.{Ordering}
use Rattle.std.specs.declared.cmp.Ordering.TheVariants.{Less, Equal, Greater}
use Rattle.std.proofs.lemmas.Cmp.{nat_cmp_total}
use Rattle.std.proofs.lemmas.Bool.{or_parts}
use Rattle.mt_types.specs.declared.value.Value.{Value, out-Value}
use Rattle.mt_types.specs.Order.{values_cmp}
use Rattle.mt_defs.specs.Rows.{Row, cell, key_of, key_cmp}
use Rattle.mt_sort.specs.declared.rank.Scale.{Scale}
use Rattle.mt_sort.specs.Ranks.{is_decided, value_rank, huge_at, has_huge}
use Rattle.mt_sort.proofs.OrderLemmas.{key_cmp_total}
use Rattle.mt_sort.proofs.RankLemmas.{values_rise, values_tie}

-- a comparison that the whole agrees with, where it does not tie, goes before the whole
pub then_whole : (r rest whole : Ordering) → (r ≡ Less → whole ≡ Less) → (r ≡ Greater → whole ≡ Greater) → (r ≡ Equal → rest ≡ whole) → ordering_then r rest ≡ whole
then_whole Less rest whole less greater equal = sym (less refl)
then_whole Equal rest whole less greater equal = equal refl
then_whole Greater rest whole less greater equal = sym (greater refl)

-- ---- one column

module _ (scale : Scale) (column : ℕ) (others : List ℕ) where
  abbrev pub rank_in : Row → ℕ
  rank_in row = value_rank scale (cell row column)

  pub rows_rise : (a b : Row) → nat_cmp (rank_in a) (rank_in b) ≡ Less → key_cmp (column ∷ others) a b ≡ Less
  rows_rise a b e =
      let less : rank_in a < rank_in b = ranked (rank_in a) (rank_in b) Less (sym e) in
      ap (λ o. ordering_then o (values_cmp (key_of others a) (key_of others b))) (values_rise scale (cell a column) (cell b column) less)

  pub rows_fall : (a b : Row) → nat_cmp (rank_in a) (rank_in b) ≡ Greater → key_cmp (column ∷ others) a b ≡ Greater
  rows_fall a b e =
      let turned : nat_cmp (rank_in b) (rank_in a) ≡ Less = nat_cmp_total.antisymm (rank_in b) (rank_in a) ∙ ap ordering_reverse e in
      (key_cmp_total (column ∷ others)).antisymm a b ∙ ap ordering_reverse (rows_rise b a turned)

  -- where the rank leaves one value, the other columns decide
  pub rows_tie : (a b : Row) → huge_at (out-Value (cell a column)) ≡ false → huge_at (out-Value (cell b column)) ≡ false → is_decided scale (rank_in a) ≡ true → rank_in a ≡ rank_in b → key_cmp (column ∷ others) a b ≡ key_cmp others a b
  rows_tie a b p q d e = ap (λ o. ordering_then o (values_cmp (key_of others a) (key_of others b))) (values_tie scale (cell a column) (cell b column) p q d e)

-- ---- the key

-- what is left of two keys, where it is known whether the ranks decide
pub left_cmp : (p q : Bool) (a b : List Value) → p ≡ q → (p ≡ true → Equal ≡ values_cmp a b) → values_cmp (cond p [] a) (cond q [] b) ≡ values_cmp a b
left_cmp true true a b same tie = tie refl
left_cmp true false a b same tie = cc
left_cmp false true a b same tie = cc
left_cmp false false a b same tie = refl

-- ---- rows without a Huge

pub none_of : {X : Type 0} (test : X → Bool) (xs : List X) → list_any test xs ≡ false → AllByRecursion (λ x. test x ≡ false) xs
none_of test [] e = tt
none_of test (x ∷ xs) e = let parts = or_parts (test x) (list_any test xs) e in (parts.0, none_of test xs parts.1)

-- no column of the key has a Huge
abbrev pub NoHuge : List ℕ → Row → Type 0
NoHuge key row = AllByRecursion (λ column. huge_at (out-Value (cell row column)) ≡ false) key

pub no_huges : (key : List ℕ) (rows : List Row) → list_any (has_huge key) rows ≡ false → AllByRecursion (NoHuge key) rows
no_huges key [] e = tt
no_huges key (row ∷ rows) e =
    let parts = or_parts (has_huge key row) (list_any (has_huge key) rows) e in
    (none_of (λ column. huge_at (out-Value (cell row column))) key parts.0, no_huges key rows parts.1)
