-- The entry that bytes are, from the items that were read of them.
use Rattle.std.proofs.Common.{◌≡◌, ◌≢◌, inl, inr, ℕ, ◌<◌, ◌^◌, ◌↔◌, Bool, true, false, List, [], ◌∷◌, ◌++◌, length, get_or, refl, ap, sym, ◌∙◌, subst, arith}
use Rattle.std.specs.Prelude.{AllPairs, IsTrue, Option, Some, None, nat_lt}
use Rattle.std.specs.Borrow.{Bor}
use Rattle.std.specs.Int.{w64}
use Rattle.std.specs.Option.{option_map}
use Rattle.std.specs.List.{flat_map, list_all}
use Rattle.std.specs.Ordering.{is_le, is_gt}
use Rattle.std.specs.declared.cmp.Ordering.{Ordering}
use Rattle.std.specs.declared.cmp.Ordering.TheVariants.{Less, Equal, Greater}
use Rattle.std.proofs.lemmas.Bool.{cases_Bool, ltb-true, lt-ltb}
use Rattle.std.proofs.lemmas.List.{append-nil}
use Rattle.std.proofs.lemmas.List.Concat.{flat_map-cons}
use Rattle.std.proofs.lemmas.List.Sums.{AllPass-from_list_all, list_all-from_AllPass}
use Rattle.mt_facts.proofs.Orderings.{le_from_not_gt}
use Rattle.mt_types.specs.declared.ty.Ty.{Ty}
use Rattle.mt_types.specs.declared.value.Value.{Value}
use Rattle.mt_types.specs.Fits.{fits_of}
use Rattle.mt_types.specs.Items.{item_bytes}
use Rattle.mt_types.specs.Order.{value_cmp}
use Rattle.mt_table.specs.declared.skip.SkipKind.TheVariants.{Minmax, Set}
use Rattle.mt_defs.specs.Marks.{u64_bytes}
use Rattle.mt_defs.specs.SkipIndexes.{IsMinmaxEntry, IsSetEntry, set_bytes}
use Rattle.mt_query.specs.declared.cond.Cond.{Cond}
use Rattle.mt_types.specs.declared.ty.Width.TheVariants.{W64}
use Rattle.mt_types.proofs.OptionLemmas.{some_is}
use Rattle.mt_types.proofs.StepLemmas.{ok_pair}
use Rattle.mt_item.specs.declared.fault.CodecWhy.TheVariants.{Short}
use Rattle.mt_item.specs.ItemReading.{whole_front}
use Rattle.mt_item.specs.Results.{GivesFirst, IsFirst}
use Rattle.mt_item.proofs.LengthLemmas.{Small}
use Rattle.mt_item.proofs.NumberLemmas.{whole_exact}
use Rattle.mt_item.proofs.ExactLemmas.{ok_other, some_pair}
use Rattle.mt_skip.specs.Items.{AllFit, AreItems, ReadsItems}
use Rattle.mt_match.specs.Matching.{JudgesEntry, may_among, may_between}

all_fit : (ty : Ty) (values : List Value) → list_all (fits_of ty) values ≡ true → AllFit ty values
all_fit ty values e = AllPass-from_list_all (fits_of ty) values e

pub each_fits : (ty : Ty) (values : List Value) → AllFit ty values → list_all (fits_of ty) values ≡ true
each_fits ty values all = list_all-from_AllPass (fits_of ty) values all

-- ---- a count

-- a count that was read is the one that the bytes begin with
pub count_first : (bytes : List ℕ) → Small bytes → (read : Option (ℕ × Bor (List ℕ))) → GivesFirst read (whole_front w64 bytes)
    → IsFirst (λ n. nat_lt n (2 ^ 64)) u64_bytes bytes (option_map (λ (first : ℕ × Bor (List ℕ)). (first.0, first.1.now)) read)
count_first bytes small (Some (n, rest)) reads = record {
  found = (whole_exact W64).sound bytes n rest.now small reads;
  only = λ v more fits e.
      let p = ok_pair v n more rest.now (sym (ap (whole_front w64) e ∙ (whole_exact W64).complete v more fits) ∙ reads) in
      some_pair n v rest.now more p.0 p.1;
}
count_first bytes small None reads = record {
  found = tt;
  only = λ v more fits e. ok_other (v, more) Short (sym (ap (whole_front w64) e ∙ (whole_exact W64).complete v more fits) ∙ reads);
}

-- ---- two values

not_both : (o : Ordering) → is_le o ≡ true → is_gt o ≡ true → ⊥
not_both Less low high = cc
not_both Equal low high = cc
not_both Greater low high = cc

two_bytes : (ty : Ty) (low high : Value) → flat_map (item_bytes ty) (low ∷ high ∷ []) ≡ item_bytes ty low ++ item_bytes ty high
two_bytes ty low high =
    flat_map-cons (item_bytes ty) low (high ∷ []) ∙ ap (λ b. item_bytes ty low ++ b) (flat_map-cons (item_bytes ty) high [] ∙ append-nil (item_bytes ty high))

module _ (cond : Cond) (column : ℕ) (ty : Ty) (bytes : List ℕ) where
  two_items : (entry : IsMinmaxEntry ty bytes) → AreItems ty 2 bytes (entry.low ∷ entry.high ∷ [])
  two_items entry = record {
    fit = all_fit ty (entry.low ∷ entry.high ∷ []) (rw (entry.low_fits, entry.high_fits) refl);
    counted = refl;
    encoded = entry.encoded ∙ sym (two_bytes ty entry.low entry.high);
  }

  -- the bytes are no two items
  pub no_two : ReadsItems ty 2 bytes None → JudgesEntry cond column Minmax ty bytes None
  no_two read = record { found = tt; only = λ entry. let bad : None ≡ Some (entry.low ∷ entry.high ∷ []) = read.only (entry.low ∷ entry.high ∷ []) (two_items entry) in cc }

  module _ (low high : Value) (read : ReadsItems ty 2 bytes (Some (low ∷ high ∷ []))) where
    same_two : (entry : IsMinmaxEntry ty bytes) → (low ≡ entry.low) × (high ≡ entry.high)
    same_two entry =
        let same : Some (low ∷ high ∷ []) ≡ Some (entry.low ∷ entry.high ∷ []) = read.only (entry.low ∷ entry.high ∷ []) (two_items entry) in
        (cc, cc)

    -- the first is above the second
    pub turned_two : is_gt (value_cmp low high) ≡ true → JudgesEntry cond column Minmax ty bytes None
    turned_two over = record {
      found = tt;
      only = λ entry.
          let same = same_two entry in
          absurd (not_both (value_cmp low high) (ap (λ v. is_le (value_cmp v high)) same.0 ∙ ap (λ v. is_le (value_cmp entry.low v)) same.1 ∙ entry.ordered) over);
    }

    -- the first isn't above the second
    pub two_values : is_gt (value_cmp low high) ≡ false → JudgesEntry cond column Minmax ty bytes (Some (may_between cond column low high))
    two_values under =
        let items : AreItems ty 2 bytes (low ∷ high ∷ []) = read.found in
        record {
          found = (
            record {
              low = low;
              high = high;
              low_fits = items.fit 0 low (omega arith);
              high_fits = items.fit 1 high (omega arith);
              ordered = le_from_not_gt (value_cmp low high) under;
              encoded = items.encoded ∙ two_bytes ty low high;
            },
            refl,
          );
          only = λ entry. let same = same_two entry in ap (λ v. let o : Option Bool = Some (may_between cond column v high) in o) same.0 ∙ ap (λ v. let o : Option Bool = Some (may_between cond column entry.low v) in o) same.1;
        }

pair_of : (values : List Value) (d e : Value) → length values ≡ 2 → values ≡ get_or values 0 d ∷ get_or values 1 e ∷ []
pair_of [] d e long = absurd (omega (arith, long))
pair_of (a ∷ []) d e long = absurd (omega (arith, long))
pair_of (a ∷ b ∷ []) d e long = refl
pair_of (a ∷ b ∷ c ∷ rest) d e long = absurd (omega (arith, long))

module _ (cond : Cond) (column : ℕ) (ty : Ty) (bytes : List ℕ) (values : List Value) (d e low high : Value) (long : length values ≡ 2) (is_low : get_or values 0 d ≡ low) (is_high : get_or values 1 e ≡ high) where
  two_read : ReadsItems ty 2 bytes (Some values) → ReadsItems ty 2 bytes (Some (low ∷ high ∷ []))
  two_read read =
      let is : values ≡ low ∷ high ∷ [] = pair_of values d e long ∙ ap (λ v. v ∷ get_or values 1 e ∷ []) is_low ∙ ap (λ v. low ∷ v ∷ []) is_high in
      subst (λ l. ReadsItems ty 2 bytes (Some l)) is read

  pub turned_read : is_gt (value_cmp low high) ≡ true → ReadsItems ty 2 bytes (Some values) → JudgesEntry cond column Minmax ty bytes None
  turned_read over read = turned_two cond column ty bytes low high (two_read read) over

  pub values_read : is_gt (value_cmp low high) ≡ false → ReadsItems ty 2 bytes (Some values) → JudgesEntry cond column Minmax ty bytes (Some (may_between cond column low high))
  values_read under read = two_values cond column ty bytes low high (two_read read) under

-- ---- a set of values

module _ (cond : Cond) (column max_rows : ℕ) (ty : Ty) (bytes : List ℕ) where
  -- the bytes are too short for a count
  pub no_count : IsFirst (λ n. nat_lt n (2 ^ 64)) u64_bytes bytes None → JudgesEntry cond column (Set max_rows) ty bytes None
  no_count read = record {
    found = tt;
    only = λ entry.
        let bad : None ≡ Some (length entry.values, flat_map (item_bytes ty) entry.values) = read.only (length entry.values) (flat_map (item_bytes ty) entry.values) (lt-ltb (length entry.values) (2 ^ 64) entry.few) entry.encoded in
        cc;
  }

  module _ (count : ℕ) (items : List ℕ) (first : IsFirst (λ n. nat_lt n (2 ^ 64)) u64_bytes bytes (Some (count, items))) where
    counted_items : (entry : IsSetEntry ty bytes) → AreItems ty count items entry.values
    counted_items entry =
        let pair = some_is (count, items) (length entry.values, flat_map (item_bytes ty) entry.values)
        (first.only (length entry.values) (flat_map (item_bytes ty) entry.values) (lt-ltb (length entry.values) (2 ^ 64) entry.few) entry.encoded) in
        record {
          fit = all_fit ty entry.values entry.fit;
          counted = sym (ap (λ (p : ℕ × List ℕ). p.0) pair);
          encoded = ap (λ (p : ℕ × List ℕ). p.1) pair;
        }

    -- the bytes are not so many items
    pub no_items : ReadsItems ty count items None → JudgesEntry cond column (Set max_rows) ty bytes None
    no_items read = record { found = tt; only = λ entry. let bad : None ≡ Some entry.values = read.only entry.values (counted_items entry) in cc }

    module _ (values : List Value) (read : ReadsItems ty count items (Some values)) where
      same_values : (entry : IsSetEntry ty bytes) → values ≡ entry.values
      same_values entry = let same : Some values ≡ Some entry.values = read.only entry.values (counted_items entry) in cc

      -- a value is listed twice
      pub listed_twice : (b : Bool) → b ≡ false → IsTrue b ↔ AllPairs (λ a b. a ≢ b) values → JudgesEntry cond column (Set max_rows) ty bytes None
      listed_twice b twice distinct = record {
        found = tt;
        only = λ entry. let once : b ≡ true = distinct.1 (subst (λ l. AllPairs (λ a b. a ≢ b) l) (sym (same_values entry)) entry.distinct) in cc;
      }

      -- the values differ
      pub different : (b : Bool) → b ≡ true → IsTrue b ↔ AllPairs (λ a b. a ≢ b) values → JudgesEntry cond column (Set max_rows) ty bytes (Some (may_among cond column values))
      different b once distinct =
          let are : AreItems ty count items values = read.found in
          record {
            found = (
              record {
                values = values;
                fit = each_fits ty values are.fit;
                distinct = distinct.0 once;
                few = subst (λ n. n < 2 ^ 64) (sym are.counted) (ltb-true count (2 ^ 64) first.found.0);
                encoded = first.found.1 ∙ ap (λ n. u64_bytes n ++ items) (sym are.counted) ∙ ap (λ b. u64_bytes (length values) ++ b) are.encoded;
              },
              refl,
            );
            only = λ entry. ap (λ l. let o : Option Bool = Some (may_among cond column l) in o) (same_values entry);
          }
