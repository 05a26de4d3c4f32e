-- The rows of a trial fit its columns, and are of one month.
use Rattle.std.proofs.Common.{◌≡◌, ◌≢◌, ℕ, zero, suc, ◌+◌, ◌/◌, ◌%◌, ◌^◌, ◌<◌, ◌≤◌, ◌==◌, arith, Bool, true, false, List, [], ◌∷◌, ◌++◌, length, map, refl, ap, sym, ◌∙◌, lit≤, get_or}
use Rattle.std.specs.Prelude.{All, pos, filter, nat_le, if◌then◌else◌, ◌&&◌}
use Rattle.std.specs.Fmt.{digits}
use Rattle.std.specs.Int.{w32, to_le_bytes}
use Rattle.std.specs.List.{flat_map, list_all, range_with_len}
use Rattle.std.proofs.Math.Nat.{zero-add}
use Rattle.std.proofs.lemmas.Bool.{eq-eqb, eqb-true, lt-ltb, ne_eqb}
use Rattle.std.proofs.lemmas.List.Elements.{All-contains, All-map, filter-append}
use Rattle.std.proofs.lemmas.List.FromFn.{get_or-range_with_len, length-range_with_len}
use Rattle.std.proofs.lemmas.List.Sums.{AllPass-from_list_all}
use Rattle.std.proofs.lemmas.List.{append-nil, map-append}
use Rattle.std.proofs.lemmas.Nat.{mod_below}
use Rattle.mt_types.specs.declared.ty.Ty.{Ty, map-Ty, out-Ty}
use Rattle.mt_types.specs.declared.ty.Ty.TheVariants.{UInt, Str, Date, outs-UInt, outs-Str, outs-Date}
use Rattle.mt_types.specs.declared.ty.Ty.TheOpen.{Ty-F}
use Rattle.mt_types.specs.declared.ty.Width.TheVariants.{W32, W64}
use Rattle.mt_types.specs.declared.value.Value.{Value, out-Value}
use Rattle.mt_types.specs.declared.value.Value.TheVariants.{Num, Text, outs-Num, outs-Text}
use Rattle.mt_types.specs.declared.limits.TheConstants.{MAX_TEXT}
use Rattle.mt_types.specs.Bytes.{is_byte}
use Rattle.mt_types.specs.Fits.{fits_of, fits_step, num_at, text_at, is_unsigned}
use Rattle.mt_table.specs.declared.definition.Table.{Table}
use Rattle.mt_table.specs.declared.partition.PartExpr.{PartExpr}
use Rattle.mt_table.proofs.PlaceLemmas.{range_more}
use Rattle.mt_defs.specs.Partition.{HaveOnePartition, expression_bytes, month_at, month_of, partition_bytes}
use Rattle.mt_defs.specs.Rows.{Row, RowFits}
use Rattle.mt_defs.specs.Sorting.{sorted_rows}
use Rattle.mt_defs.proofs.Sorted.{All-sorted_rows}
use Rattle.mt_item.proofs.ItemLemmas.{test_at}
use Rattle.mt_trial.specs.declared.rows.TheConstants.{FIRST_DAY}
use Rattle.mt_trial.specs.Rows.{half_places, half_rows, trial_row, row_of_number, text_of_number, x_at}
use Rattle.mt_trial.specs.Tables.{trial_columns, trial_partition}
use Rattle.mt_trial.proofs.ItemLemmas.{below_pass}

-- ---- one place more

range_next : (n : ℕ) → range_with_len 0 (n + 1) ≡ range_with_len 0 n ++ n ∷ []
range_next n = sym (range_more n (range_with_len 0 n) (range_with_len 0 n ++ n ∷ []) refl refl)

abbrev is_half : (remainder i : ℕ) → Bool
is_half remainder i = i % 2 == remainder

places_next : (n remainder : ℕ) → half_places (n + 1) remainder ≡ half_places n remainder ++ filter (is_half remainder) (n ∷ [])
places_next n remainder = ap (filter (is_half remainder)) (range_next n) ∙ filter-append (is_half remainder) (range_with_len 0 n) (n ∷ [])

rows_next : (number n remainder : ℕ) → half_rows number (n + 1) remainder ≡ half_rows number n remainder ++ map (trial_row number) (filter (is_half remainder) (n ∷ []))
rows_next number n remainder = ap (map (trial_row number)) (places_next n remainder) ∙ map-append (trial_row number) (half_places n remainder) (filter (is_half remainder) (n ∷ []))

-- a place of this half
pub row_taken : (number n remainder : ℕ) → n % 2 ≡ remainder → half_rows number (n + 1) remainder ≡ half_rows number n remainder ++ trial_row number n ∷ []
row_taken number n remainder is =
    let here : is_half remainder n ≡ true = eq-eqb (n % 2) remainder is in
    rows_next number n remainder ∙ ap (λ b. half_rows number n remainder ++ map (trial_row number) (if b then n ∷ [] else [])) here

-- a place of the other half
pub row_passed : (number n remainder : ℕ) → ¬ (n % 2 ≡ remainder) → half_rows number (n + 1) remainder ≡ half_rows number n remainder
row_passed number n remainder isnt =
    let other : is_half remainder n ≡ false = ne_eqb (n % 2) remainder isnt in
    rows_next number n remainder ∙ ap (λ b. half_rows number n remainder ++ map (trial_row number) (if b then n ∷ [] else [])) other ∙ append-nil (half_rows number n remainder)

-- ---- they fit

number_fits : (ty : Ty) (level : Ty-F Ty) (size n : ℕ) → out-Ty ty ≡ level → ((v : Value) → fits_step (map-Ty Ty (Value → Bool) fits_of level) v ≡ num_at (is_unsigned size) (out-Value v)) → n < 2 ^ size
    → fits_of ty (Num (pos n)) ≡ true
number_fits ty level size n is step small =
    test_at ty level (Num (pos n)) is ∙ step (Num (pos n)) ∙ ap (num_at (is_unsigned size)) (outs-Num (pos n)) ∙ lt-ltb n (2 ^ size) small

abbrev fits_text : List ℕ → Bool
fits_text bytes = nat_le (length bytes) MAX_TEXT && list_all is_byte bytes

text_passes : (k : ℕ) → k < 100 → fits_text (text_of_number k) ≡ true
unfolding digits
text_passes k small = below_pass (λ k. fits_text (text_of_number k)) 100 k refl small

text_fits : (k : ℕ) → k < 100 → fits_of Str (Text (text_of_number k)) ≡ true
text_fits k small =
    test_at Str _ (Text (text_of_number k)) outs-Str ∙ ap (text_at fits_text) (outs-Text (text_of_number k)) ∙ text_passes k small

pub row_fits : (x : ℕ) → RowFits trial_columns (row_of_number x)
row_fits x =
    let day : x % 31 < 31 = mod_below x 31 (lit≤ tt) in
    let k : x % 100 < 100 = mod_below x 100 (lit≤ tt) in
    let v : x / 100 % 1000 < 1000 = mod_below (x / 100) 1000 (lit≤ tt) in (
      number_fits Date _ 16 (FIRST_DAY + x % 31) outs-Date (λ v. refl) (omega (arith, day)),
      (
        number_fits (UInt W32) _ 32 (x % 100) (outs-UInt W32) (λ v. refl) (omega (arith, k)),
        (number_fits (UInt W64) _ 64 (x / 100 % 1000) (outs-UInt W64) (λ v. refl) (omega (arith, v)), (text_fits (x % 100) k, tt)),
      ),
    )

pub half_fits : (number rows remainder : ℕ) → All (RowFits trial_columns) (half_rows number rows remainder)
half_fits number rows remainder = All-map (RowFits trial_columns) (trial_row number) (half_places rows remainder) (λ k d within. row_fits (x_at number (get_or (half_places rows remainder) k d)))

-- ---- there is one in each half

pub half_some : (number rows remainder : ℕ) → 2 ≤ rows → remainder < 2 → half_rows number rows remainder ≢ []
half_some number zero remainder few small = absurd (omega (arith, few))
half_some number (suc zero) remainder few small = absurd (omega (arith, few))
half_some number (suc (suc n)) zero few small = λ e. cc
half_some number (suc (suc n)) (suc zero) few small = λ e. cc
half_some number (suc (suc n)) (suc (suc r)) few small = absurd (omega (arith, small))

-- ---- they are of one month

in_month : (r : ℕ) → r < 31 → month_of (FIRST_DAY + r) ≡ 202401
in_month r small =
    let is_january : ℕ → Bool = λ r. month_of (FIRST_DAY + r) == 202401 in
    let all : list_all is_january (range_with_len 0 31) ≡ true = refl in
    let here : r < length (range_with_len 0 31) = omega (arith, small, length-range_with_len 0 31) in
    let at : is_january (get_or (range_with_len 0 31) r 0) ≡ true = AllPass-from_list_all is_january (range_with_len 0 31) all r 0 here in
    eqb-true (month_of (FIRST_DAY + r)) 202401 (sym (ap is_january (get_or-range_with_len 0 31 r 0 small ∙ zero-add r)) ∙ at)

abbrev pub january : List ℕ
january = to_le_bytes w32 202401 ++ []

pub row_month : (table : Table) (x : ℕ) → table.partition ≡ trial_partition → partition_bytes table (row_of_number x) ≡ january
row_month table x is =
    let month : month_at (out-Value (Num (pos (FIRST_DAY + x % 31)))) ≡ 202401 = ap month_at (outs-Num (pos (FIRST_DAY + x % 31))) ∙ in_month (x % 31) (mod_below x 31 (lit≤ tt)) in
    ap (λ (partition : List PartExpr). flat_map (expression_bytes table.columns (row_of_number x)) partition) is ∙ ap (λ m. to_le_bytes w32 m ++ []) month

pub half_month : (table : Table) (number rows remainder : ℕ) → table.partition ≡ trial_partition → HaveOnePartition table (sorted_rows table.sort (half_rows number rows remainder))
half_month table number rows remainder is =
    let P : Row → Type 0 = λ row. partition_bytes table row ≡ january in
    let half : All P (half_rows number rows remainder) = All-map P (trial_row number) (half_places rows remainder) (λ k d within. row_month table (x_at number (get_or (half_places rows remainder) k d)) is) in
    let all = All-sorted_rows P table.sort (half_rows number rows remainder) half in
    λ a b in_a in_b. All-contains P (sorted_rows table.sort (half_rows number rows remainder)) a all in_a ∙ sym (All-contains P (sorted_rows table.sort (half_rows number rows remainder)) b all in_b)
