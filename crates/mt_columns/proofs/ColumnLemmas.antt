-- Columns of any type.
use Rattle.std.proofs.Common.{◌≡◌, ℕ, zero, suc, List, [], length, map, replicate, refl, ap, sym, subst, ◌∙◌}
use Rattle.mt_types.specs.declared.value.Value.{Value}
use Rattle.mt_types.specs.declared.value.Value.TheVariants.{List as Items}
use Rattle.mt_columns.specs.Nesting.{AreNested, nested_values}
use Rattle.std.specs.Prelude.{sum}
use Rattle.std.proofs.lemmas.List.{length-map, nil_from_length}
use Rattle.std.proofs.Common.{◌∷◌}
use Rattle.mt_cells.specs.Pieces.{cut}
use Rattle.mt_cells.proofs.CutLemmas.{cut_none, length-cut}

-- levels without arrays have no values
no_values : (depth : ℕ) → nested_values (replicate depth []) [] ≡ []
no_values zero = refl
no_values (suc depth) = ap (map (λ (xs : List Value). Items xs)) (cut_none (nested_values (replicate depth []) []))

no_arrays : (depth : ℕ) → AreNested (replicate depth []) []
no_arrays zero = tt
no_arrays (suc depth) = (ap (λ (vs : List Value). length vs) (no_values depth), no_arrays depth)

pub empty_values : (levels : List (List ℕ)) (values : List Value) (depth : ℕ) → levels ≡ replicate depth [] → values ≡ [] → nested_values levels values ≡ []
empty_values levels values depth is none = ap (λ (ls : List (List ℕ)). nested_values ls values) is ∙ ap (nested_values (replicate depth [])) none ∙ no_values depth

pub empty_nested : (levels : List (List ℕ)) (values : List Value) (depth : ℕ) → levels ≡ replicate depth [] → values ≡ [] → AreNested levels values
empty_nested levels values depth is none = subst (λ (ls : List (List ℕ)). AreNested ls values) (sym is) (subst (λ (vs : List Value). AreNested (replicate depth []) vs) (sym none) (no_arrays depth))

-- no values hold none
pub nothing_below : (levels : List (List ℕ)) (values : List Value) → AreNested levels values → nested_values levels values ≡ [] → values ≡ []
nothing_below [] values nested e = e
nothing_below (sizes ∷ levels) values nested e =
    let inner = nested_values levels values in
    let none : length sizes ≡ 0 = sym (length-cut sizes inner) ∙ sym (length-map (cut sizes inner) (λ (xs : List Value). Items xs)) ∙ ap (λ (vs : List Value). length vs) e in
    nothing_below levels values nested.1 (nil_from_length inner (nested.0 ∙ ap (λ (ns : List ℕ). sum ns) (nil_from_length sizes none)))

-- arrays of no values
pub array_values : (levels levels' : List (List ℕ)) (values : List Value) → levels' ≡ [] ∷ levels → nested_values levels' values ≡ []
array_values levels levels' values is = ap (λ (ls : List (List ℕ)). nested_values ls values) is ∙ ap (map (λ (xs : List Value). Items xs)) (cut_none (nested_values levels values))

pub array_nested : (levels levels' : List (List ℕ)) (values : List Value) → levels' ≡ [] ∷ levels → nested_values levels values ≡ [] → AreNested levels values → AreNested levels' values
array_nested levels levels' values is e nested = subst (λ (ls : List (List ℕ)). AreNested ls values) (sym is) (ap (λ (vs : List Value). length vs) e, nested)

-- a level of arrays around
pub around_values : (sizes : List ℕ) (levels levels' : List (List ℕ)) (values : List Value) → levels' ≡ sizes ∷ levels → nested_values levels' values ≡ map (λ (xs : List Value). Items xs) (cut sizes (nested_values levels values))
around_values sizes levels levels' values is = ap (λ (ls : List (List ℕ)). nested_values ls values) is

pub around_nested : (sizes : List ℕ) (levels levels' : List (List ℕ)) (values : List Value) → levels' ≡ sizes ∷ levels → length (nested_values levels values) ≡ sum sizes → AreNested levels values → AreNested levels' values
around_nested sizes levels levels' values is many nested = subst (λ (ls : List (List ℕ)). AreNested ls values) (sym is) (many, nested)
