-- The writer's columns.txt lists each column of a definition, and a folder may list these.
use Rattle.std.proofs.Common.{◌≡◌, ℕ, zero, suc, ◌+◌, ◌<◌, ◌≤◌, Bool, true, false, not, ◌||◌, List, length, refl, ap, sym, ◌∙◌, arith, inl, inr}
use Rattle.std.specs.Prelude.{All, IsTrue, nat_eq}
use Rattle.std.specs.List.{list_all, range_with_len}
use Rattle.std.proofs.lemmas.Bool.{and_from, cases_order, eq-eqb, lt-ltb, ltb-true, ne_eqb, or_left, or_right}
use Rattle.std.proofs.lemmas.List.Elements.{All-weaker}
use Rattle.std.proofs.lemmas.List.Sums.{AllPass-from_list_all, list_all-from_AllPass}
use Rattle.mt_table.specs.declared.column.Column.{Column}
use Rattle.mt_table.specs.Kept.{is_one_of, is_place}
use Rattle.mt_table.specs.Names.{places_differ}
use Rattle.mt_defs.specs.Metadata.{HasDefaults, may_list}
use Rattle.mt_defs.specs.Rows.{Row}
use Rattle.mt_law_written.proofs.RuleLemmas.{range_below}

-- the places of all columns
abbrev pub own_order : List Column → List ℕ
own_order columns = range_with_len 0 (length columns)

-- the definition has these columns
abbrev pub ArePlaces : List Column → List ℕ → Type 0
ArePlaces columns places = list_all (is_place columns) places ≡ true

-- ---- a range of places

in_range : (n first i : ℕ) → first ≤ i → i < first + n → is_one_of (range_with_len first n) i ≡ true
in_range zero first i low high = absurd (omega (arith, low, high))
in_range (suc n) first i low high =
    let later : List ℕ = range_with_len (first + 1) n in
    elim (cases_order i first) [
      | inl same ↦ or_left (nat_eq i first) (is_one_of later i) (eq-eqb i first same)
      | inr (inl below) ↦ absurd (omega (arith, low, below))
      | inr (inr above) ↦ or_right (nat_eq i first) (is_one_of later i) (in_range n (first + 1) i (omega (arith, above)) (omega (arith, high)))
    ]

not_in_range : (n first i : ℕ) → i < first → is_one_of (range_with_len first n) i ≡ false
not_in_range zero first i low = refl
not_in_range (suc n) first i low =
    ap (λ (same : Bool). same || is_one_of (range_with_len (first + 1) n) i) (ne_eqb i first (λ same. omega (arith, low, same))) ∙ not_in_range n (first + 1) i (omega (arith, low))

range_places_differ : (n first : ℕ) → places_differ (range_with_len first n) ≡ true
range_places_differ zero first = refl
range_places_differ (suc n) first =
    let later : List ℕ = range_with_len (first + 1) n in
    and_from (not (is_one_of later first)) (places_differ later) (ap not (not_in_range n (first + 1) first (omega arith))) (range_places_differ n (first + 1))

-- places below a count
pub places_below : (columns : List Column) (places : List ℕ) → All (λ i. i < length columns) places → ArePlaces columns places
places_below columns places below =
    list_all-from_AllPass (is_place columns) places (All-weaker (λ i. i < length columns) (λ i. is_place columns i ≡ true) (λ i inside. lt-ltb i (length columns) inside) places below)

-- ---- the columns of a folder

pub own_places : (columns : List Column) → ArePlaces columns (own_order columns)
own_places columns = places_below columns (own_order columns) (range_below 0 (length columns) (length columns) (omega arith))

own_place : (columns : List Column) (i : ℕ) → i < length columns → is_one_of (own_order columns) i ≡ true
own_place columns i inside = in_range (length columns) 0 i (omega arith) (omega (arith, inside))

-- a folder may list all columns
pub all_listed : (columns : List Column) (must : List ℕ) → ArePlaces columns must → IsTrue (may_list columns must (own_order columns))
all_listed columns must known =
    let order : List ℕ = own_order columns in
    let each : list_all (is_one_of order) must ≡ true =
    list_all-from_AllPass (is_one_of order) must (All-weaker (λ i. is_place columns i ≡ true) (λ i. is_one_of order i ≡ true) (λ i place. own_place columns i (ltb-true i (length columns) place)) must (AllPass-from_list_all (is_place columns) must known)) in
    and_from (list_all (is_place columns) order) _ (own_places columns) (and_from (places_differ order) (list_all (is_one_of order) must) (range_places_differ (length columns) 0) each)

-- and lacks none then
pub none_lacks : (columns : List Column) (rows : List Row) → All (HasDefaults columns (own_order columns)) rows
none_lacks columns rows = λ k d inside i place none. (let bad : true ≡ false = sym (own_place columns i place) ∙ none in cc)
