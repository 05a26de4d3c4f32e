-- The rows of a trial, in any order: sorting and merging keep them, and lose none.
use Rattle.std.proofs.Common.{◌≡◌, ◌≢◌, ℕ, zero, suc, ◌+◌, ◌%◌, ◌<◌, ◌≤◌, ◌==◌, arith, Bool, not, List, [], ◌∷◌, ◌++◌, length, get_or, refl, ap, sym, ◌∙◌, subst, lit≤}
use Rattle.std.specs.Prelude.{All}
use Rattle.std.specs.List.{range_with_len}
use Rattle.std.proofs.lemmas.List.{append-nil, length-append, length-map}
use Rattle.std.proofs.lemmas.List.Elements.{All-append, All-map, All-nil, All-weaker}
use Rattle.std.proofs.lemmas.List.Filters.{length-filter_both}
use Rattle.std.proofs.lemmas.List.FromFn.{length-range_with_len}
use Rattle.std.proofs.lemmas.List.Sums.{count_by-le-length, length-filter}
use Rattle.std.proofs.lemmas.Nat.{mod_below}
use Rattle.mt_defs.specs.Rows.{Row}
use Rattle.mt_defs.specs.Sorting.{merged_rows, sorted_rows}
use Rattle.mt_defs.proofs.Sorted.{All-sorted_rows, length-sorted_rows}
use Rattle.mt_trial.specs.Rows.{half_places, half_rows, trial_row, row_of_number, x_at}

-- a row of a trial
abbrev pub IsTrialRow : Row → Type 0
IsTrialRow row = (x : ℕ) × (row ≡ row_of_number x)

-- what holds of the row of each number
pub all_trial : (P : Row → Type 0) → ((x : ℕ) → P (row_of_number x)) → (rows : List Row) → All IsTrialRow rows → All P rows
all_trial P holds rows are = All-weaker IsTrialRow P (λ row is. subst P (sym is.1) (holds is.0)) rows are

-- ---- where they come from

pub half_trial : (number rows remainder : ℕ) → All IsTrialRow (half_rows number rows remainder)
half_trial number rows remainder = All-map IsTrialRow (trial_row number) (half_places rows remainder) (λ k d within. (x_at number (get_or (half_places rows remainder) k d), refl))

pub sorted_trial : (sort : List ℕ) (rows : List Row) → All IsTrialRow rows → All IsTrialRow (sorted_rows sort rows)
sorted_trial = All-sorted_rows IsTrialRow

pub merged_trial : (sort : List ℕ) (a b : List Row) → All IsTrialRow a → All IsTrialRow b → All IsTrialRow (merged_rows sort (a ∷ b ∷ []))
merged_trial sort a b one two = sorted_trial sort (a ++ (b ++ [])) (All-append IsTrialRow a (b ++ []) one (All-append IsTrialRow b [] two (All-nil IsTrialRow)))

-- ---- how many they are

odd_is : (i : ℕ) → (i % 2 == 1) ≡ not (i % 2 == 0)
odd_is i = by (i % 2) (mod_below i 2 (lit≤ tt))
  where
    by : (r : ℕ) → r < 2 → (r == 1) ≡ not (r == 0)
    by zero small = refl
    by (suc zero) small = refl
    by (suc (suc r)) small = absurd (omega (arith, small))

pub half_lengths : (number rows : ℕ) → length (half_rows number rows 0) + length (half_rows number rows 1) ≡ rows
half_lengths number rows =
    let even = length-map (half_places rows 0) (trial_row number) in
    let odd = length-map (half_places rows 1) (trial_row number) in
    let both = length-filter_both (λ i. i % 2 == 0) (λ i. i % 2 == 1) odd_is (range_with_len 0 rows) in
    let all = length-range_with_len 0 rows in
    omega (arith, even, odd, both, all)

pub half_length : (number rows remainder : ℕ) → length (half_rows number rows remainder) ≤ rows
half_length number rows remainder =
    let half : ℕ → Bool = λ i. i % 2 == remainder in
    let one = length-map (half_places rows remainder) (trial_row number) in
    let kept = length-filter half (range_with_len 0 rows) in
    let few = count_by-le-length half (range_with_len 0 rows) in
    let all = length-range_with_len 0 rows in
    omega (arith, one, kept, few, all)

pub merged_length : (sort : List ℕ) (a b : List Row) → length (merged_rows sort (a ∷ b ∷ [])) ≡ length a + length b
merged_length sort a b = length-sorted_rows sort (a ++ (b ++ [])) ∙ length-append a (b ++ []) ∙ ap (λ (rest : List Row). length a + length rest) (append-nil b)

-- both halves, each in key order, together
abbrev pub all_halves : (sort : List ℕ) (number rows : ℕ) → List Row
all_halves sort number rows = merged_rows sort (sorted_rows sort (half_rows number rows 0) ∷ sorted_rows sort (half_rows number rows 1) ∷ [])

pub all_trial_rows : (sort : List ℕ) (number rows : ℕ) → All IsTrialRow (all_halves sort number rows)
all_trial_rows sort number rows =
    merged_trial sort (sorted_rows sort (half_rows number rows 0)) (sorted_rows sort (half_rows number rows 1))
    (sorted_trial sort (half_rows number rows 0) (half_trial number rows 0))
    (sorted_trial sort (half_rows number rows 1) (half_trial number rows 1))

pub all_length : (sort : List ℕ) (number rows : ℕ) → length (all_halves sort number rows) ≡ rows
all_length sort number rows =
    let both = merged_length sort (sorted_rows sort (half_rows number rows 0)) (sorted_rows sort (half_rows number rows 1)) in
    let even = length-sorted_rows sort (half_rows number rows 0) in
    let odd = length-sorted_rows sort (half_rows number rows 1) in
    omega (arith, both, even, odd, half_lengths number rows)

pub all_some : (sort : List ℕ) (number rows : ℕ) → 2 ≤ rows → all_halves sort number rows ≢ []
all_some sort number rows few none = let nothing : length (all_halves sort number rows) ≡ 0 = ap length none in omega (arith, few, nothing, all_length sort number rows)
