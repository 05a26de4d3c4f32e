-- Listings whose names rise.
use Rattle.std.proofs.Common.{◌≡◌, ◌<◌, ℕ, suc, Bool, true, List, [], ◌∷◌, map, length, drop, get_or, ◌&&◌, refl, sym, ◌∙◌, ap, subst, drop-cons}
use Rattle.std.proofs.Math.Dec.{T}
use Rattle.std.proofs.lemmas.Cmp.{nat_list_cmp_total}
use Rattle.std.specs.BTreeMap.Comparable.{le_lt_trans}
use Rattle.std.specs.FinMap.{is_sorted}
use Rattle.std.specs.FinMap.Entries.{below_all}
use Rattle.std.specs.Ordering.{nat_cmp, is_lt, is_le}
use Rattle.std.specs.Cmp.Lexicographic.{slice_cmp}
use Rattle.std.specs.declared.cmp.Ordering.TheVariants.{Less}
use Rattle.mt_shelf.specs.declared.file.Entry.{Entry}
use Rattle.mt_shelf.proofs.Listings.{keyed, both, first, second, is_less, less_is, true_from_T}
use Rattle.mt_host.specs.Rising.{is_before_others}

T_from_true : (b : Bool) → b ≡ true → T b
T_from_true b is = subst T (sym is) tt

-- what lies above a name lies above each lesser one
widened : (k q : List ℕ) → slice_cmp nat_cmp k q ≡ Less → (es : List (List ℕ × ℕ)) → T (below_all (slice_cmp nat_cmp) q es) → T (below_all (slice_cmp nat_cmp) k es)
widened k q less [] all = tt
widened k q less (e ∷ es) all =
    let later : slice_cmp nat_cmp q e.0 ≡ Less = is_less (slice_cmp nat_cmp q e.0) (first (is_lt (slice_cmp nat_cmp q e.0)) (below_all (slice_cmp nat_cmp) q es) all) in
    both (is_lt (slice_cmp nat_cmp k e.0)) (below_all (slice_cmp nat_cmp) k es)
    (less_is (slice_cmp nat_cmp k e.0) (le_lt_trans nat_list_cmp_total k q e.0 (ap is_le less) later))
    (widened k q less es (second (is_lt (slice_cmp nat_cmp q e.0)) (below_all (slice_cmp nat_cmp) q es) all))

-- a lesser name in front of names that rise
rising_cons : (e : Entry) (es : List Entry) → is_before_others e es ≡ true → is_sorted (slice_cmp nat_cmp) (map keyed es) ≡ true → is_sorted (slice_cmp nat_cmp) (map keyed (e ∷ es)) ≡ true
rising_cons e [] less rising = refl
rising_cons e (f ∷ es) less rising =
    let lt : T (is_lt (slice_cmp nat_cmp e.name f.name)) = T_from_true (is_lt (slice_cmp nat_cmp e.name f.name)) less in
    let sorted : T (below_all (slice_cmp nat_cmp) f.name (map keyed es) && is_sorted (slice_cmp nat_cmp) (map keyed es)) = T_from_true _ rising in
    let all : T (below_all (slice_cmp nat_cmp) f.name (map keyed es)) = first (below_all (slice_cmp nat_cmp) f.name (map keyed es)) (is_sorted (slice_cmp nat_cmp) (map keyed es)) sorted in
    true_from_T _ (both (below_all (slice_cmp nat_cmp) e.name (map keyed (f ∷ es))) (is_sorted (slice_cmp nat_cmp) (map keyed (f ∷ es)))
    (both (is_lt (slice_cmp nat_cmp e.name f.name)) (below_all (slice_cmp nat_cmp) e.name (map keyed es)) lt (widened e.name f.name (is_less (slice_cmp nat_cmp e.name f.name) lt) (map keyed es) all))
    sorted)

-- one entry more, by its index
pub rising_from : (entries : List Entry) (i j : ℕ) (e : Entry) → i ≡ suc j → j < length entries → e ≡ get_or entries j e → is_before_others e (drop i entries) ≡ true
    → is_sorted (slice_cmp nat_cmp) (map keyed (drop i entries)) ≡ true → is_sorted (slice_cmp nat_cmp) (map keyed (drop j entries)) ≡ true
rising_from entries i j e next inside is less rising =
    let P : List Entry → Type 0 = λ es. is_sorted (slice_cmp nat_cmp) (map keyed es) ≡ true in
    let rest : e ∷ drop i entries ≡ drop j entries = ap (λ (n : ℕ). e ∷ drop n entries) next ∙ ap (λ (x : Entry). x ∷ drop (suc j) entries) is ∙ sym (drop-cons entries j e inside) in
    subst P rest (rising_cons e (drop i entries) less rising)
