-- The bytes of a trial's values, and of the states that a projection has of them.
use Rattle.std.proofs.Common.{◌≡◌, ℕ, ◌+◌, ◌/◌, ◌^◌, ◌<◌, ◌≤◌, arith, Bool, true, List, [], ◌++◌, length, refl, ap, sym, ◌∙◌, inl, inr}
use Rattle.std.specs.Prelude.{pos, nat_le}
use Rattle.std.specs.Fmt.{digits}
use Rattle.std.specs.Int.{w16, w32, w64}
use Rattle.std.specs.List.{list_all, range_with_len}
use Rattle.std.proofs.Math.Nat.{zero-add}
use Rattle.std.proofs.lemmas.Bool.{cases_lt, leb-true}
use Rattle.std.proofs.lemmas.List.FromFn.{get_or-range_with_len, length-range_with_len}
use Rattle.std.proofs.lemmas.List.Sums.{AllPass-from_list_all}
use Rattle.mt_types.specs.declared.ty.Agg.TheVariants.{Sum}
use Rattle.mt_types.specs.declared.ty.Ty.{Ty, map-Ty, out-Ty}
use Rattle.mt_types.specs.declared.ty.Ty.TheVariants.{UInt, Str, Date, CountState, outs-UInt, outs-Str, outs-Date, outs-CountState, State as StateOf, outs-State as outs-StateOf}
use Rattle.mt_types.specs.declared.ty.Ty.TheOpen.{Ty-F}
use Rattle.mt_types.specs.declared.ty.Ty.TheFolds.{fold_out-Ty}
use Rattle.mt_types.specs.declared.ty.Width.TheVariants.{W32, W64}
use Rattle.mt_types.specs.declared.value.AggState.TheVariants as state
use Rattle.mt_types.specs.declared.value.Value.{Value}
use Rattle.mt_types.specs.declared.value.Value.TheVariants.{Num, Text, State, outs-Num, outs-Text, outs-State}
use Rattle.mt_types.specs.Items.{item_bytes, item_step, state_at, text_at, whole_at}
use Rattle.mt_types.specs.Leb128.{leb128}
use Rattle.mt_types.proofs.Leb128Lemmas.{leb128_more, leb128_small}
use Rattle.mt_trial.specs.Rows.{text_of_number}

-- a test that all numbers below a bound pass
pub below_pass : (test : ℕ → Bool) (bound k : ℕ) → list_all test (range_with_len 0 bound) ≡ true → k < bound → test k ≡ true
below_pass test bound k all small =
    let inside : k < length (range_with_len 0 bound) = omega (arith, small, length-range_with_len 0 bound) in
    sym (ap test (get_or-range_with_len 0 bound k 0 small ∙ zero-add k)) ∙ AllPass-from_list_all test (range_with_len 0 bound) all k 0 inside

-- ---- columns

item_at : (ty : Ty) (level : Ty-F Ty) (value : Value) → out-Ty ty ≡ level → item_bytes ty value ≡ item_step (map-Ty Ty (Value → List ℕ) item_bytes level) value
item_at ty level value is = ap (λ (bytes : Value → List ℕ). bytes value) (fold_out-Ty (Value → List ℕ) item_step ty ∙ ap (λ l. item_step (map-Ty Ty (Value → List ℕ) item_bytes l)) is)

pub day_size : (n : ℕ) → length (item_bytes Date (Num (pos n))) ≡ 2
day_size n = ap length (item_at Date _ (Num (pos n)) outs-Date ∙ ap (whole_at w16) (outs-Num (pos n)))

pub u32_size : (n : ℕ) → length (item_bytes (UInt W32) (Num (pos n))) ≡ 4
u32_size n = ap length (item_at (UInt W32) _ (Num (pos n)) (outs-UInt W32) ∙ ap (whole_at w32) (outs-Num (pos n)))

pub u64_size : (n : ℕ) → length (item_bytes (UInt W64) (Num (pos n))) ≡ 8
u64_size n = ap length (item_at (UInt W64) _ (Num (pos n)) (outs-UInt W64) ∙ ap (whole_at w64) (outs-Num (pos n)))

text_few : (k : ℕ) → k < 100 → nat_le (length (leb128 (length (text_of_number k)) ++ text_of_number k)) 4 ≡ true
unfolding digits leb128
text_few k small = below_pass (λ k. nat_le (length (leb128 (length (text_of_number k)) ++ text_of_number k)) 4) 100 k refl small

pub text_size : (k : ℕ) → k < 100 → length (item_bytes Str (Text (text_of_number k))) ≤ 4
text_size k small =
    let is : length (item_bytes Str (Text (text_of_number k))) ≡ length (leb128 (length (text_of_number k)) ++ text_of_number k) = ap length (item_at Str _ (Text (text_of_number k)) outs-Str ∙ ap text_at (outs-Text (text_of_number k))) in
    omega (arith, is, leb-true (length (leb128 (length (text_of_number k)) ++ text_of_number k)) 4 (text_few k small))

-- ---- states

leb128_size : (n : ℕ) → n < 2 ^ 21 → length (leb128 n) ≤ 3
leb128_size n small =
    elim (cases_lt n 128) [
      | inl one ↦ omega (arith, ap length (leb128_small n one))
      | inr more ↦
          let rest : length (leb128 n) ≡ 1 + length (leb128 (n / 128)) = ap length (leb128_more n more) ∙ omega arith in
          elim (cases_lt (n / 128) 128) [
            | inl two ↦ omega (arith, rest, ap length (leb128_small (n / 128) two))
            | inr others ↦
                let last : length (leb128 (n / 128)) ≡ 1 + length (leb128 (n / 128 / 128)) = ap length (leb128_more (n / 128) others) ∙ omega arith in
                omega (arith, rest, last, ap length (leb128_small (n / 128 / 128) (omega (arith, small))))
          ]
    ]

pub count_size : (n : ℕ) → n < 2 ^ 21 → length (item_bytes CountState (State (state.Count n))) ≤ 3
count_size n small =
    let is : length (item_bytes CountState (State (state.Count n))) ≡ length (leb128 n) = ap length (item_at CountState _ (State (state.Count n)) outs-CountState ∙ ap (state_at (λ _. [])) (outs-State (state.Count n))) in
    omega (arith, is, leb128_size n small)

pub sum_size : (n : ℕ) → length (item_bytes (StateOf Sum (UInt W64)) (State (state.Sum n))) ≡ 8
sum_size n = ap length (item_at (StateOf Sum (UInt W64)) _ (State (state.Sum n)) (outs-StateOf Sum (UInt W64)) ∙ ap (state_at (item_bytes (UInt W64))) (outs-State (state.Sum n)))
