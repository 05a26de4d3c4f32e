-- Where a row makes a condition true, an entry of its values lets it be true.
use Rattle.std.proofs.Common.{◌≡◌, ◌≢◌, ◌⊎◌, inl, inr, ℕ, ◌<◌, ◌≤◌, ◌^◌, ◌&&◌, ◌||◌, ◌==◌, Bool, true, false, List, [], ◌∷◌, ◌++◌, length, get_or, refl, ap, sym, ◌∙◌, subst, arith}
use Rattle.std.specs.Prelude.{AllPairs, Contains, IsPermutation, IsTrue, Option, Some, None}
use Rattle.std.specs.Bool.{MatchBool}
use Rattle.std.specs.List.{flat_map, list_any, IsDistinct}
use Rattle.std.specs.Ordering.{is_eq, is_le}
use Rattle.std.specs.declared.cmp.Ordering.{Ordering}
use Rattle.std.specs.declared.cmp.Ordering.TheVariants.{Less, Equal, Greater}
use Rattle.std.proofs.lemmas.Bool.{cases_Bool}
use Rattle.std.proofs.lemmas.List.{append-nil}
use Rattle.std.proofs.lemmas.List.Sorted.{All-permutation, length_permutation}
use Rattle.std.proofs.lemmas.Map.Keys.{IsDistinct-IsPermutation}
use Rattle.std.proofs.lemmas.Map.Made.{AllPairs-from_IsDistinct}
use Rattle.mt_types.specs.declared.ty.Ty.{Ty}
use Rattle.mt_types.specs.declared.value.Value.{Value}
use Rattle.mt_types.specs.Fits.{fits_of}
use Rattle.mt_types.specs.Items.{item_bytes}
use Rattle.mt_types.specs.Order.{value_cmp}
use Rattle.mt_table.specs.declared.column.Column.{Column}
use Rattle.mt_table.specs.declared.skip.SkipKind.{SkipKind}
use Rattle.mt_table.specs.declared.skip.SkipKind.TheVariants.{Minmax, Set}
use Rattle.mt_defs.specs.Marks.{u64_bytes}
use Rattle.mt_defs.specs.Partition.{IsMinmaxOf}
use Rattle.mt_defs.specs.Rows.{Row, RowFits, cell}
use Rattle.mt_defs.specs.SkipIndexes.{IsMinmaxEntry, IsSetEntry, ListsDistinct, Summarizes, distinct_values, is_too_many}
use Rattle.mt_query.specs.declared.cond.Cond.{Cond}
use Rattle.mt_query.specs.Suits.{cond_suits}
use Rattle.mt_query.specs.Truth.{truth_of}
use Rattle.mt_cond.specs.Intervals.{between_sides, lies_in}
use Rattle.mt_cond.specs.Masks.{allows, mask_of}
use Rattle.mt_cond.proofs.SoundLemmas.{mask_sound}
use Rattle.mt_cond.proofs.SuitedLemmas.{row_suits}
use Rattle.mt_skip.specs.Gathering.{is_same}
use Rattle.mt_skip.specs.Items.{AllFit}
use Rattle.mt_skip.proofs.DistinctLemmas.{distinct_fit, one_value, same_values}
use Rattle.mt_skip.proofs.PermutationLemmas.{any_at, any_distinct, any_permuted, are_distinct, distinct_fewer, same_decides}
use Rattle.mt_match.specs.Matching.{JudgesEntry, entry_may, may_among, may_between}
use Rattle.mt_match.proofs.EntryLemmas.{each_fits}

tied : (o : Ordering) → is_eq o ≡ true → is_le o ≡ true
tied Less e = refl
tied Equal e = refl
tied Greater e = absurd cc

module _ (cond : Cond) (column : ℕ) (columns : List Column) (row : Row) (suits : cond_suits columns cond ≡ true) (fits : RowFits columns row) (holds : truth_of cond row ≡ Some true) where
  abbrev own : Value
  own = cell row column

  -- the row's value is between the two
  holds_between : (low high : Value) → is_le (value_cmp low own) ≡ true → is_le (value_cmp own high) ≡ true → may_between cond column low high ≡ true
  holds_between low high above under =
      ap (allows (mask_of cond (between_sides column low high))) (sym holds)
      ∙ mask_sound columns cond (between_sides column low high) row (λ k i e. row_suits columns row fits k) suits (rw (above, under) refl)

  holds_at : (value : Value) → is_same own value ≡ true → may_between cond column value value ≡ true
  holds_at value same =
      subst (λ v. may_between cond column v v ≡ true) (one_value own value same) (holds_between own own (tied (value_cmp own own) (same_values.refl own)) (tied (value_cmp own own) (same_values.refl own)))

  holds_among : (values : List Value) → list_any (is_same own) values ≡ true → list_any (λ value. may_between cond column value value) values ≡ true
  holds_among [] there = cc
  holds_among (value ∷ values) there =
      elim (cases_Bool (is_same own value)) [
        | inl same ↦ ap (λ b. b || list_any (λ v. may_between cond column v v) values) (holds_at value same)
        | inr other ↦ either (may_between cond column value value) (list_any (λ v. may_between cond column v v) values) (holds_among values (ap (λ b. b || list_any (is_same own) values) (sym other) ∙ there))
      ]
    where
      either : (a b : Bool) → b ≡ true → (a || b) ≡ true
      either true b e = refl
      either false b e = e

  module _ (ty : Ty) (values : List Value) (entry : List ℕ) (all : AllFit ty values) (few : length values < 2 ^ 64) (among : Contains values own) where
    minmax_holds : (may : Option Bool) → JudgesEntry cond column Minmax ty entry may → IsMinmaxOf ty values entry → may ≡ Some true
    minmax_holds may judges (least, greatest, is_least, is_greatest, encoded) =
        judges.only (record {
          low = least;
          high = greatest;
          low_fits = subst (λ v. fits_of ty v ≡ true) is_least.among.2 (all is_least.among.0 least is_least.among.1);
          high_fits = subst (λ v. fits_of ty v ≡ true) is_greatest.among.2 (all is_greatest.among.0 greatest is_greatest.among.1);
          ordered = subst (λ v. is_le (value_cmp least v) ≡ true) is_greatest.among.2 (is_least.least is_greatest.among.0 greatest is_greatest.among.1);
          encoded = encoded;
        })
        ∙ ap (λ b. let o : Option Bool = Some b in o)
        (holds_between least greatest (subst (λ v. is_le (value_cmp least v) ≡ true) among.2 (is_least.least among.0 own among.1)) (subst (λ v. is_le (value_cmp v greatest) ≡ true) among.2 (is_greatest.greatest among.0 own among.1)))

    -- a set of none
    many_holds : (max_rows : ℕ) (may : Option Bool) → JudgesEntry cond column (Set max_rows) ty entry may → entry ≡ u64_bytes 0 → may ≡ Some true
    many_holds max_rows may judges is =
        judges.only (record { values = []; fit = refl; distinct = λ i j d before inside. absurd (omega (arith, before, inside)); few = omega arith; encoded = is ∙ sym (append-nil (u64_bytes 0)) })

    -- a set of the distinct values
    listed_holds : (max_rows : ℕ) (may : Option Bool) → JudgesEntry cond column (Set max_rows) ty entry may → ListsDistinct ty values entry → may ≡ Some true
    listed_holds max_rows may judges (listed, moved, encoded) =
        let once : IsDistinct is_same listed = IsDistinct-IsPermutation is_same same_values.symm (distinct_values values) listed moved (are_distinct values) in
        let long : length listed ≡ length (distinct_values values) = length_permutation (distinct_values values) listed moved in
        let short = distinct_fewer values in
        let there : list_any (is_same own) listed ≡ true = any_permuted own (distinct_values values) listed moved (any_distinct own values (any_at own values among.0 among.1 among.2)) in
        judges.only (record {
          values = listed;
          fit = each_fits ty listed (All-permutation (λ v. fits_of ty v ≡ true) (distinct_values values) listed moved (distinct_fit ty values all));
          distinct = AllPairs-from_IsDistinct same_decides listed once;
          few = omega (arith, few, long, short);
          encoded = encoded;
        })
        ∙ ap (λ b. let o : Option Bool = Some (b || (length listed == 0)) in o) (holds_among listed there)

    set_holds : (max_rows : ℕ) (may : Option Bool) → JudgesEntry cond column (Set max_rows) ty entry may → (many : Bool) → MatchBool many (entry ≡ u64_bytes 0) (ListsDistinct ty values entry) → may ≡ Some true
    set_holds max_rows may judges true is = many_holds max_rows may judges is
    set_holds max_rows may judges false lists = listed_holds max_rows may judges lists

    pub entry_holds : (kind : SkipKind) (may : Option Bool) → JudgesEntry cond column kind ty entry may → Summarizes kind ty values entry → may ≡ Some true
    entry_holds Minmax may judges sums = minmax_holds may judges sums
    entry_holds (Set max_rows) may judges sums = set_holds max_rows may judges (is_too_many max_rows values) sums
