-- Arrays as ranges of the values one level below.
use Rattle.std.proofs.Common.{◌≡◌, ℕ, ◌+◌, ◌-◌, ◌<◌, ◌≤◌, List, [], ◌∷◌, length, get_or, take, drop, refl, ap, sym, subst, ◌∙◌, arith}
use Rattle.std.specs.Prelude.{sum}
use Rattle.std.proofs.lemmas.List.{get_or-map, length-map}
use Rattle.mt_types.specs.declared.value.Value.{Value}
use Rattle.mt_types.specs.declared.value.Value.TheVariants.{Null, List as Items}
use Rattle.mt_cells.specs.Pieces.{cut}
use Rattle.mt_columns.specs.Nesting.{AreNested, inner_values, nested_values}
use Rattle.mt_cells.proofs.CutLemmas.{length-cut, next_start, piece_at, start_within}

module _ (all : List (List ℕ)) (sizes : List ℕ) (levels : List (List ℕ)) (values : List Value) (is : all ≡ sizes ∷ levels) where
  pub nested_length : length (nested_values all values) ≡ length sizes
  nested_length =
      ap (λ (ls : List (List ℕ)). length (nested_values ls values)) is
      ∙ length-map (cut sizes (nested_values levels values)) (λ (items : List Value). Items items) ∙ length-cut sizes (nested_values levels values)

  below : AreNested all values → length (nested_values levels values) ≡ sum sizes
  below nested = (subst (λ (ls : List (List ℕ)). AreNested ls values) is nested).0

  pub array_order : (i start end : ℕ) → AreNested all values → i < length (nested_values all values) → start ≡ sum (take i sizes) → end ≡ sum (take (i + 1) sizes) → start ≤ end
  array_order i start end nested h s e =
      let pieces = cut sizes (nested_values levels values) in
      let there : i < length pieces = omega (arith, h, nested_length, length-cut sizes (nested_values levels values)) in
      omega (arith, s, e, next_start sizes (nested_values levels values) pieces (below nested) refl i there)

  pub array_within : (i end : ℕ) → AreNested all values → end ≡ sum (take (i + 1) sizes) → end ≤ length (inner_values all values)
  array_within i end nested e =
      let pieces = cut sizes (nested_values levels values) in
      let same : length (inner_values all values) ≡ length (nested_values levels values) = ap (λ (ls : List (List ℕ)). length (inner_values ls values)) is in
      omega (arith, e, same, start_within sizes (nested_values levels values) pieces (below nested) refl (i + 1))

  pub array_value : (i start end : ℕ) → AreNested all values → i < length (nested_values all values) → start ≡ sum (take i sizes) → end ≡ sum (take (i + 1) sizes)
      → get_or (nested_values all values) i Null ≡ Items (take (end - start) (drop start (inner_values all values)))
  array_value i start end nested h s e =
      let pieces = cut sizes (nested_values levels values) in
      let there : i < length pieces = omega (arith, h, nested_length, length-cut sizes (nested_values levels values)) in
      ap (λ (ls : List (List ℕ)). get_or (nested_values ls values) i Null) is
      ∙ get_or-map (λ (items : List Value). Items items) pieces i [] Null there
      ∙ ap Items (sym (piece_at sizes (nested_values levels values) pieces (below nested) refl i start end [] (take (end - start) (drop start (nested_values levels values))) there s e refl))
      ∙ ap (λ (ls : List (List ℕ)). Items (take (end - start) (drop start (inner_values ls values)))) (sym is)

  pub below_within : (i end : ℕ) → AreNested all values → end ≡ sum (take (i + 1) sizes) → end ≤ length (nested_values levels values)
  below_within i end nested e =
      let same : length (inner_values all values) ≡ length (nested_values levels values) = ap (λ (ls : List (List ℕ)). length (inner_values ls values)) is in
      omega (arith, array_within i end nested e, same)

  pub below_value : (i start end : ℕ) → AreNested all values → i < length (nested_values all values) → start ≡ sum (take i sizes) → end ≡ sum (take (i + 1) sizes)
      → get_or (nested_values all values) i Null ≡ Items (take (end - start) (drop start (nested_values levels values)))
  below_value i start end nested h s e = array_value i start end nested h s e ∙ ap (λ (ls : List (List ℕ)). Items (take (end - start) (drop start (inner_values ls values)))) is
