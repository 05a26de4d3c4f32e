-- Which entries agree with some values: the writer's, and no set entry that lacks one of them.
use Rattle.std.proofs.Common.{◌≡◌, ◌≢◌, ℕ, suc, ◌<◌, ◌≤◌, ◌^◌, Bool, true, false, cond, not, List, [], ◌∷◌, ◌++◌, length, take, refl, ap, sym, ◌∙◌, subst, arith}
use Rattle.std.specs.Prelude.{Contains, Ok}
use Rattle.std.specs.Bool.{MatchBool}
use Rattle.std.specs.Int.{w64, from_le_bytes}
use Rattle.std.specs.List.{flat_map, list_any}
use Rattle.std.proofs.Math.Seq.{take-append_seam}
use Rattle.std.proofs.lemmas.List.{append_cancel_left}
use Rattle.std.proofs.lemmas.List.Concat.{flat_map-cons}
use Rattle.std.proofs.lemmas.List.Sorted.{IsPermutation-refl, All-permutation, length_permutation}
use Rattle.std.proofs.lemmas.Nat.{from_le_bytes-to_le_bytes_8}
use Rattle.mt_types.specs.declared.ty.Ty.{Ty}
use Rattle.mt_types.specs.declared.value.Value.{Value}
use Rattle.mt_types.specs.Fits.{fits_of}
use Rattle.mt_types.specs.Items.{item_bytes}
use Rattle.mt_table.specs.declared.skip.SkipKind.{SkipKind}
use Rattle.mt_table.specs.declared.skip.SkipKind.TheVariants.{Minmax, Set}
use Rattle.mt_defs.specs.Marks.{u64_bytes}
use Rattle.mt_defs.specs.SkipIndexes.{ListsDistinct, Summarizes, distinct_values, is_too_many, set_bytes}
use Rattle.mt_defs.specs.WrittenPartition.{minmax_bytes}
use Rattle.mt_defs.specs.WrittenSkips.{written_entry}
use Rattle.mt_item.specs.ItemReading.{First, item_front}
use Rattle.mt_item.specs.ItemTypes.{has_items}
use Rattle.mt_item.proofs.ItemLemmas.{item_exact}
use Rattle.mt_skip.specs.Gathering.{is_same}
use Rattle.mt_skip.specs.Items.{AllFit}
use Rattle.mt_skip.proofs.DistinctLemmas.{distinct_fit}
use Rattle.mt_skip.proofs.ExtremeLemmas.{minmax_is}
use Rattle.mt_skip.proofs.PermutationLemmas.{any_at, any_distinct, any_permuted, contains_from, distinct_fewer}

-- ---- the writer's entries

some_values : (values : List Value) → values ≢ [] → 0 < length values
some_values [] some = absurd (some refl)
some_values (v ∷ vs) some = omega arith

set_agrees : (ty : Ty) (values : List Value) (many : Bool)
    → MatchBool many (cond many (u64_bytes 0) (set_bytes ty (distinct_values values)) ≡ u64_bytes 0) (ListsDistinct ty values (cond many (u64_bytes 0) (set_bytes ty (distinct_values values))))
set_agrees ty values true = refl
set_agrees ty values false = (distinct_values values, IsPermutation-refl (distinct_values values), refl)

pub written_agree : (kind : SkipKind) (ty : Ty) (values : List Value) → values ≢ [] → Summarizes kind ty values (written_entry kind ty values)
written_agree Minmax ty values some = (minmax_is ty values (minmax_bytes ty values) (some_values values some)).0 refl
written_agree (Set max_rows) ty values some = set_agrees ty values (is_too_many max_rows values)

-- ---- items are told apart

same_first : (v w : Value) (x y : List ℕ) → ◌≡◌ {A = First Value} (Ok (v, x)) (Ok (w, y)) → (v ≡ w) × (x ≡ y)
same_first v w x y e =
    let pair : ◌≡◌ {A = Value × List ℕ} (v, x) (w, y) = cc in
    (ap (λ (p : Value × List ℕ). p.0) pair, ap (λ (p : Value × List ℕ). p.1) pair)

pub tail_fits : (ty : Ty) (v : Value) (vs : List Value) → AllFit ty (v ∷ vs) → AllFit ty vs
tail_fits ty v vs all k d inside = all (suc k) d (omega (arith, inside))

-- as many values with the same items are the same values
one_listing : (ty : Ty) (vs ws : List Value) → has_items ty ≡ true → AllFit ty vs → AllFit ty ws → length vs ≡ length ws → flat_map (item_bytes ty) vs ≡ flat_map (item_bytes ty) ws → vs ≡ ws
one_listing ty [] [] items f g long e = refl
one_listing ty [] (w ∷ ws) items f g long e = absurd (omega (arith, long))
one_listing ty (v ∷ vs) [] items f g long e = absurd (omega (arith, long))
one_listing ty (v ∷ vs) (w ∷ ws) items f g long e =
    let x = flat_map (item_bytes ty) vs in
    let y = flat_map (item_bytes ty) ws in
    let front : item_bytes ty v ++ x ≡ item_bytes ty w ++ y = sym (flat_map-cons (item_bytes ty) v vs) ∙ e ∙ flat_map-cons (item_bytes ty) w ws in
    let exact = item_exact ty items in
    let read : ◌≡◌ {A = First Value} (Ok (v, x)) (Ok (w, y)) = sym (exact.complete v x (f 0 v (omega arith))) ∙ ap (item_front ty) front ∙ exact.complete w y (g 0 w (omega arith)) in
    let same = same_first v w x y read in
    ap (λ a. a ∷ vs) same.0 ∙ ap (λ l. w ∷ l) (one_listing ty vs ws items (tail_fits ty v vs f) (tail_fits ty w ws g) (omega (arith, long)) same.1)

one_count : (m n : ℕ) (x y : List ℕ) → m < 2 ^ 64 → n < 2 ^ 64 → u64_bytes m ++ x ≡ u64_bytes n ++ y → m ≡ n
one_count m n x y low high e =
    let front : u64_bytes m ≡ u64_bytes n = sym (take-append_seam (u64_bytes m) x) ∙ ap (take 8) e ∙ take-append_seam (u64_bytes n) y in
    sym (from_le_bytes-to_le_bytes_8 m low) ∙ ap (from_le_bytes w64) front ∙ from_le_bytes-to_le_bytes_8 n high

lacking_listed : (ty : Ty) (values listed : List Value) (lacking : Value) → has_items ty ≡ true → AllFit ty values → AllFit ty listed → length values < 2 ^ 64 → length listed < 2 ^ 64 → Contains values lacking → (Contains listed lacking → ⊥)
    → ListsDistinct ty values (set_bytes ty listed) → ⊥
lacking_listed ty values listed lacking items fits listed_fits few listed_few among lacks lists =
    let others : List Value = lists.0 in
    let distinct = distinct_values values in
    let long = length_permutation distinct others lists.1 in
    let short = distinct_fewer values in
    let others_fit : AllFit ty others = All-permutation (λ v. fits_of ty v ≡ true) distinct others lists.1 (distinct_fit ty values fits) in
    let count : length listed ≡ length others = one_count (length listed) (length others) (flat_map (item_bytes ty) listed) (flat_map (item_bytes ty) others) listed_few (omega (arith, long, short, few)) lists.2 in
    let behind : flat_map (item_bytes ty) listed ≡ flat_map (item_bytes ty) others =
    append_cancel_left (u64_bytes (length others)) (flat_map (item_bytes ty) listed) (flat_map (item_bytes ty) others) (ap (λ n. u64_bytes n ++ flat_map (item_bytes ty) listed) (sym count) ∙ lists.2) in
    let same : listed ≡ others = one_listing ty listed others items listed_fits others_fit count behind in
    let there = any_permuted lacking distinct others lists.1 (any_distinct lacking values (any_at lacking values among.0 among.1 among.2)) in
    lacks (contains_from lacking listed (ap (list_any (is_same lacking)) same ∙ there))

-- a set entry that lacks a value isn't the one of the values
pub lacking_disagree : (ty : Ty) (max_rows : ℕ) (values listed : List Value) (lacking : Value) → has_items ty ≡ true → AllFit ty values → AllFit ty listed → length values < 2 ^ 64 → length listed < 2 ^ 64
    → is_too_many max_rows values ≡ false → Contains values lacking → (Contains listed lacking → ⊥) → Summarizes (Set max_rows) ty values (set_bytes ty listed) → ⊥
lacking_disagree ty max_rows values listed lacking items fits listed_fits few listed_few not_many among lacks sums =
    lacking_listed ty values listed lacking items fits listed_fits few listed_few among lacks (subst (λ b. MatchBool b (set_bytes ty listed ≡ u64_bytes 0) (ListsDistinct ty values (set_bytes ty listed))) not_many sums)
