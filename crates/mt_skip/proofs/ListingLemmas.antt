-- When an entry lists the distinct values: its count, its items, and each of them once.
use Rattle.std.proofs.Common.{◌≡◌, ◌≢◌, ℕ, ◌↔◌, Bool, true, List, ◌++◌, length, ap, sym, ◌∙◌, subst}
use Rattle.std.specs.Prelude.{IsTrue, IsPermutation, Some, None}
use Rattle.std.specs.List.{flat_map}
use Rattle.std.proofs.lemmas.List.{append_cancel_left}
use Rattle.std.proofs.lemmas.List.Sorted.{All-permutation, length_permutation}
use Rattle.mt_types.specs.declared.ty.Ty.{Ty}
use Rattle.mt_types.specs.declared.value.Value.{Value}
use Rattle.mt_types.specs.Fits.{fits_of}
use Rattle.mt_types.specs.Items.{item_bytes}
use Rattle.mt_defs.specs.Marks.{u64_bytes}
use Rattle.mt_defs.specs.SkipIndexes.{ListsDistinct, distinct_values}
use Rattle.mt_skip.specs.Gathering.{has_each}
use Rattle.mt_skip.specs.Items.{AllFit, AreItems, ReadsItems}
use Rattle.mt_skip.proofs.DistinctLemmas.{distinct_fit}
use Rattle.mt_skip.proofs.PermutationLemmas.{has_each_is}

module _ (ty : Ty) (values : List Value) (entry : List ℕ) (count : ℕ) (fits : AllFit ty values) (counted : count ≡ length (distinct_values values)) where
  listed_count : (lists : ListsDistinct ty values entry) → length lists.0 ≡ count
  listed_count lists = length_permutation (distinct_values values) lists.0 lists.1 ∙ sym counted

  -- an entry with another count
  pub other_count : ((rest : List ℕ) → entry ≢ u64_bytes count ++ rest) → ListsDistinct ty values entry → ⊥
  other_count other lists = other (flat_map (item_bytes ty) lists.0) (lists.2 ∙ ap (λ n. u64_bytes n ++ flat_map (item_bytes ty) lists.0) (listed_count lists))

  module _ (bytes : List ℕ) (front : entry ≡ u64_bytes count ++ bytes) where
    listed_items : (lists : ListsDistinct ty values entry) → AreItems ty count bytes lists.0
    listed_items lists = record {
      fit = All-permutation (λ v. fits_of ty v ≡ true) (distinct_values values) lists.0 lists.1 (distinct_fit ty values fits);
      counted = listed_count lists;
      encoded = append_cancel_left (u64_bytes count) bytes (flat_map (item_bytes ty) lists.0) (sym front ∙ lists.2 ∙ ap (λ n. u64_bytes n ++ flat_map (item_bytes ty) lists.0) (listed_count lists));
    }

    -- an entry whose bytes are no items
    pub no_items : ReadsItems ty count bytes None → ListsDistinct ty values entry → ⊥
    no_items read lists = let bad : None ≡ Some lists.0 = read.only lists.0 (listed_items lists) in cc

    -- an entry of items
    pub some_items : (listed : List Value) (has : Bool) → ReadsItems ty count bytes (Some listed) → has ≡ has_each listed values → IsTrue has ↔ ListsDistinct ty values entry
    some_items listed has read is =
        let items : AreItems ty count bytes listed = read.found in
        let test = has_each_is listed values (items.counted ∙ counted) in (
          λ e. (
            listed,
            test.0 (sym is ∙ e),
            front ∙ ap (λ n. u64_bytes n ++ bytes) (sym items.counted) ∙ ap (λ b. u64_bytes (length listed) ++ b) items.encoded,
          ),
          λ lists.
              let one : Some listed ≡ Some lists.0 = read.only lists.0 (listed_items lists) in
              let same : listed ≡ lists.0 = cc in
              is ∙ test.1 (subst (IsPermutation (distinct_values values)) (sym same) lists.1),
        )
