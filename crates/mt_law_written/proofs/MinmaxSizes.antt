-- The least and the greatest of some values have at most two items' bytes.
use Rattle.std.proofs.Common.{ℕ, ◌*◌, ◌≤◌, Bool, true, false, List, [], ◌∷◌, length, arith, length-append}
use Rattle.std.specs.Prelude.{All, if◌then◌else◌}
use Rattle.std.specs.List.{flat_map}
use Rattle.std.specs.Ordering.{is_lt}
use Rattle.std.proofs.Math.Nat.{mul-le-mul_left}
use Rattle.std.proofs.lemmas.List.Elements.{All-cons, All-head, All-nil, All-tail}
use Rattle.mt_types.specs.Items.{item_bytes}
use Rattle.mt_types.specs.Order.{value_cmp}
use Rattle.mt_types.specs.declared.ty.Ty.{Ty}
use Rattle.mt_types.specs.declared.value.Value.{Value}
use Rattle.mt_defs.specs.WrittenPartition.{best_of, better_of, minmax_bytes}
use Rattle.mt_law_written.proofs.SumLemmas.{runs_size}

-- ---- the best is one of the values, or there are none

module _ (P : Value → Type 0) (is_better : Value → Value → Bool) where
  better_all : (value : Value) (rest : List Value) → P value → All P rest → All P (better_of is_better value rest)
  better_all value [] here later = All-cons P value [] here (All-nil P)
  better_all value (best ∷ rest) here later =
      elim (is_better best value) as (λ b. All P (if b then best ∷ [] else value ∷ [])) [
        | true ↦ All-cons P best [] (All-head P best rest later) (All-nil P)
        | false ↦ All-cons P value [] here (All-nil P)
      ]

  pub best_all : (values : List Value) → All P values → All P (best_of is_better values)
  best_all [] all = all
  best_all (value ∷ values) all = better_all value (best_of is_better values) (All-head P value values all) (best_all values (All-tail P value values all))

better_few : (is_better : Value → Value → Bool) (value : Value) (rest : List Value) → length (better_of is_better value rest) ≤ 1
better_few is_better value [] = omega arith
better_few is_better value (best ∷ rest) =
    elim (is_better best value) as (λ b. length (if b then best ∷ [] else value ∷ []) ≤ 1) [
      | true ↦ omega arith
      | false ↦ omega arith
    ]

pub best_few : (is_better : Value → Value → Bool) (values : List Value) → length (best_of is_better values) ≤ 1
best_few is_better [] = omega arith
best_few is_better (value ∷ values) = better_few is_better value (best_of is_better values)

-- ---- their bytes

-- values whose items have at most so many bytes
abbrev pub HaveItems : Ty → ℕ → List Value → Type 0
HaveItems ty width values = All (λ value. length (item_bytes ty value) ≤ width) values

best_size : (ty : Ty) (width : ℕ) (is_better : Value → Value → Bool) (values : List Value) → HaveItems ty width values → length (flat_map (item_bytes ty) (best_of is_better values)) ≤ width
best_size ty width is_better values has =
    let each = best_all (λ value. length (item_bytes ty value) ≤ width) is_better values has in
    omega (arith, runs_size (item_bytes ty) width (best_of is_better values) each, mul-le-mul_left width (best_few is_better values))

pub minmax_size : (ty : Ty) (values : List Value) (width : ℕ) → HaveItems ty width values → length (minmax_bytes ty values) ≤ 2 * width
minmax_size ty values width has =
    let least = best_size ty width (λ v w. is_lt (value_cmp v w)) values has in
    let greatest = best_size ty width (λ v w. is_lt (value_cmp w v)) values has in
    omega (arith, least, greatest, length-append (flat_map (item_bytes ty) (best_of (λ v w. is_lt (value_cmp v w)) values)) (flat_map (item_bytes ty) (best_of (λ v w. is_lt (value_cmp w v)) values)))
