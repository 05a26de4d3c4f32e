-- An entry is the one of some values exactly where the tests say so.
use Rattle.std.proofs.Common.{◌≡◌, ℕ, suc, ◌↔◌, Bool, true, false, cond, ◌&&◌, ◌||◌, List, [], ◌∷◌, ◌++◌, refl, ap, sym, ◌∙◌, inl, inr, arith}
use Rattle.std.specs.Prelude.{All, Contains}
use Rattle.std.specs.Bool.{MatchBool}
use Rattle.std.specs.List.{list_all, list_any}
use Rattle.std.specs.Ordering.{is_le}
use Rattle.std.specs.Str.{bytes_eq}
use Rattle.std.proofs.lemmas.Bool.{and_from, and_parts, cases_Bool}
use Rattle.std.proofs.lemmas.List.Folds.{list_any_at}
use Rattle.std.proofs.lemmas.Slice.Eq.{bytes_eq-Decides}
use Rattle.mt_facts.proofs.Lists.{each_passes}
use Rattle.std.specs.Cmp.{both_ways}
use Rattle.mt_types.specs.declared.ty.Ty.{Ty}
use Rattle.mt_types.specs.declared.value.Value.{Value}
use Rattle.mt_types.specs.Items.{item_bytes}
use Rattle.mt_types.specs.Order.{value_cmp}
use Rattle.mt_table.specs.declared.skip.SkipKind.{SkipKind}
use Rattle.mt_table.specs.declared.skip.SkipKind.TheVariants.{Minmax, Set}
use Rattle.mt_defs.specs.Marks.{u64_bytes}
use Rattle.mt_defs.specs.Partition.{IsMinmaxOf, is_minmax_of, is_least, is_greatest}
use Rattle.mt_defs.specs.SkipIndexes.{ListsDistinct, Summarizes, distinct_values, is_too_many, lists_distinct, set_bytes, summarizes}
use Rattle.mt_skip.proofs.PermutationLemmas.{any_order, any_of_orders}

-- ---- tests on lists

found : {X : Type 0} (p : X → Bool) (xs : List X) → list_any p xs ≡ true → (x : X) × Contains xs x × (p x ≡ true)
found p [] there = cc
found p (x ∷ xs) there =
    elim (cases_Bool (p x)) [
      | inl hit ↦ (x, (0, omega arith, refl), hit)
      | inr miss ↦ let rest = found p xs (ap (λ b. b || list_any p xs) (sym miss) ∙ there) in (rest.0, (suc rest.1.0, omega (arith, rest.1.1), rest.1.2), rest.2)
    ]

finds : {X : Type 0} (p : X → Bool) (xs : List X) (x : X) → Contains xs x → p x ≡ true → list_any p xs ≡ true
finds p xs x at passes = list_any_at p xs at.0 x at.1 (ap p at.2 ∙ passes)

all_of : {X : Type 0} (p : X → Bool) (xs : List X) → All (λ x. p x ≡ true) xs → list_all p xs ≡ true
all_of p [] each = refl
all_of p (x ∷ xs) each = and_from (p x) (list_all p xs) (each 0 x (omega arith)) (all_of p xs (λ k d inside. each (suc k) d (omega (arith, inside))))

-- ---- the least and the greatest

pub minmax_tested : (ty : Ty) (values : List Value) (bytes : List ℕ) → (is_minmax_of ty values bytes ≡ true) ↔ IsMinmaxOf ty values bytes
minmax_tested ty values bytes = (
  λ e.
      let least = found (λ low. is_least values low && list_any (λ high. is_greatest values high && bytes_eq bytes (item_bytes ty low ++ item_bytes ty high)) values) values e in
      let low = least.0 in
      let outer = and_parts (is_least values low) (list_any (λ high. is_greatest values high && bytes_eq bytes (item_bytes ty low ++ item_bytes ty high)) values) least.2 in
      let greatest = found (λ high. is_greatest values high && bytes_eq bytes (item_bytes ty low ++ item_bytes ty high)) values outer.1 in
      let high = greatest.0 in
      let inner = and_parts (is_greatest values high) (bytes_eq bytes (item_bytes ty low ++ item_bytes ty high)) greatest.2 in (
        low,
        high,
        record { among = least.1; least = each_passes (λ other. is_le (value_cmp low other)) values outer.0 },
        record { among = greatest.1; greatest = each_passes (λ other. is_le (value_cmp other high)) values inner.0 },
        (bytes_eq-Decides bytes (item_bytes ty low ++ item_bytes ty high)).0 inner.1,
      ),
  λ is.
      let low = is.0 in
      let high = is.1 in
      finds (λ least. is_least values least && list_any (λ greatest. is_greatest values greatest && bytes_eq bytes (item_bytes ty least ++ item_bytes ty greatest)) values) values low is.2.among
      (and_from (is_least values low) _ (all_of (λ other. is_le (value_cmp low other)) values is.2.least)
      (finds (λ greatest. is_greatest values greatest && bytes_eq bytes (item_bytes ty low ++ item_bytes ty greatest)) values high is.3.among
      (and_from (is_greatest values high) _ (all_of (λ other. is_le (value_cmp other high)) values is.3.greatest) ((bytes_eq-Decides bytes (item_bytes ty low ++ item_bytes ty high)).1 is.4)))),
)

-- ---- sets

listing_tested : (ty : Ty) (values : List Value) (entry : List ℕ) → (lists_distinct ty values entry ≡ true) ↔ ListsDistinct ty values entry
listing_tested ty values entry =
    let p : List Value → Bool = λ listed. bytes_eq entry (set_bytes ty listed) in (
      λ e. let order = any_order p (distinct_values values) e in (order.0, order.1, (bytes_eq-Decides entry (set_bytes ty order.0)).0 order.2),
      λ lists. any_of_orders p values lists.0 lists.1 ((bytes_eq-Decides entry (set_bytes ty lists.0)).1 lists.2),
    )

set_tested : (ty : Ty) (values : List Value) (entry : List ℕ) (many : Bool) → (cond many (bytes_eq entry (u64_bytes 0)) (lists_distinct ty values entry) ≡ true) ↔ MatchBool many (entry ≡ u64_bytes 0) (ListsDistinct ty values entry)
set_tested ty values entry true = bytes_eq-Decides entry (u64_bytes 0)
set_tested ty values entry false = listing_tested ty values entry

-- the test on entries
pub summaries_tested : (kind : SkipKind) (ty : Ty) (values : List Value) (entry : List ℕ) → (summarizes kind ty values entry ≡ true) ↔ Summarizes kind ty values entry
summaries_tested Minmax ty values entry = minmax_tested ty values entry
summaries_tested (Set max_rows) ty values entry = set_tested ty values entry (is_too_many max_rows values)

-- an answer that is right is the test's
pub answers_tested : (kind : SkipKind) (ty : Ty) (values : List Value) (entry : List ℕ) (agrees : Bool) → (agrees ≡ true) ↔ Summarizes kind ty values entry → agrees ≡ summarizes kind ty values entry
answers_tested kind ty values entry agrees right =
    let test = summaries_tested kind ty values entry in
    both_ways agrees (summarizes kind ty values entry) (λ e. test.1 (right.0 e)) (λ e. right.1 (test.0 e))
