-- Ranges of values inside arrays.
use Rattle.std.proofs.Common.{◌≡◌, ℕ, ◌+◌, ◌-◌, ◌<◌, ◌≤◌, List, [], ◌∷◌, ◌++◌, length, get_or, set, take, drop, map, ap, ap₂, sym, ◌∙◌, subst, arith, length-append, length-drop, length-take-le}
use Rattle.std.specs.Prelude.{sum}
use Rattle.std.proofs.lemmas.List.{map-append, drop-set, take-set, get_or-take, take-take, length-set, take-map, drop-map}
use Rattle.std.proofs.lemmas.List.Sums.{sum_by-append, sum_by-take-le}
use Rattle.mt_types.specs.declared.value.Value.{Value}
use Rattle.mt_types.specs.declared.value.Value.TheVariants.{List as Items}
use Rattle.mt_cells.specs.Pieces.{cut}
use Rattle.mt_columns.specs.Leaves.{Leaved}
use Rattle.mt_columns.specs.Nesting.{AreNested, IsPushed, nested_values}
use Rattle.mt_cells.proofs.CutLemmas.{cut-append, cut_range, range_sum}
use Rattle.mt_columns.proofs.PushLemmas.{first_level}

-- arrays more
arrays_more : (sizes sizes' : List ℕ) (rest0 rest1 : List (List ℕ)) (v0 v1 items : List Value) → length (nested_values rest0 v0) ≡ sum sizes → length items ≡ sum sizes' → nested_values rest1 v1 ≡ nested_values rest0 v0 ++ items
    → (nested_values ((sizes ++ sizes') ∷ rest1) v1 ≡ nested_values (sizes ∷ rest0) v0 ++ map (λ (xs : List Value). Items xs) (cut sizes' items)) × (length (nested_values rest1 v1) ≡ sum (sizes ++ sizes'))
arrays_more sizes sizes' rest0 rest1 v0 v1 items long long' more =
    let inner = nested_values rest0 v0 in (
      ap (λ (vs : List Value). map (λ (xs : List Value). Items xs) (cut (sizes ++ sizes') vs)) more
          ∙ ap (map (λ (xs : List Value). Items xs)) (cut-append sizes sizes' inner items long)
          ∙ map-append (λ (xs : List Value). Items xs) (cut sizes inner) (cut sizes' items),
      ap (λ (vs : List Value). length vs) more ∙ length-append inner items ∙ ap₂ ◌+◌ long long' ∙ sym (sum_by-append (λ n. n) sizes sizes'),
    )

pushed_arrays : (level : ℕ) (l0 l1 l2 : List (List ℕ)) (f0 f1 : Leaved) (sizes' : List ℕ) (items : List Value) → level < length l0 → AreNested (drop level l0) f0.values → IsPushed (level + 1) l0 l1 f0 f1 items → length items ≡ sum sizes'
    → l2 ≡ set l1 level (get_or l1 level [] ++ sizes') → IsPushed level l0 l2 f0 f1 (map (λ (xs : List Value). Items xs) (cut sizes' items))
pushed_arrays level l0 l1 l2 f0 f1 sizes' items h nested p long' is =
    let sizes = get_or l0 level [] in
    let there : level < length l1 = omega (arith, h, p.many) in
    let within : level < level + 1 = omega arith in
    let same : get_or l1 level [] ≡ sizes = sym (get_or-take (level + 1) l1 level [] within) ∙ ap (λ (ls : List (List ℕ)). get_or ls level []) p.above ∙ get_or-take (level + 1) l0 level [] within in
    let written : l2 ≡ set l1 level (sizes ++ sizes') = is ∙ ap (λ (s : List ℕ). set l1 level (s ++ sizes')) same in
    let after : drop level l2 ≡ (sizes ++ sizes') ∷ drop (level + 1) l1 = ap (drop level) written ∙ drop-set l1 level (sizes ++ sizes') there in
    let before = first_level level l0 h in
    let long = (subst (λ (ls : List (List ℕ)). AreNested ls f0.values) before nested).0 in
    let more = arrays_more sizes sizes' (drop (level + 1) l0) (drop (level + 1) l1) f0.values f1.values items long long' p.values in
    let upper : take level l1 ≡ take level l0 = sym (shorter level l1) ∙ ap (take level) p.above ∙ shorter level l0 in
    record {
      many = ap (λ (ls : List (List ℕ)). length ls) written ∙ length-set l1 level (sizes ++ sizes') ∙ p.many;
      above = ap (take level) written ∙ take-set l1 level (sizes ++ sizes') ∙ upper;
      kind = p.kind;
      nullable = p.nullable;
      values = ap (λ (ls : List (List ℕ)). nested_values ls f1.values) after ∙ more.0 ∙ ap (λ (ls : List (List ℕ)). nested_values ls f0.values ++ map (λ (xs : List Value). Items xs) (cut sizes' items)) (sym before);
      nested = subst (λ (ls : List (List ℕ)). AreNested ls f1.values) (sym after) (more.1, p.nested);
    }
  where
    shorter : (n : ℕ) (ls : List (List ℕ)) → take n (take (n + 1) ls) ≡ take n ls
    shorter n ls = take-take n (n + 1) ls (omega arith)

-- a range of another column's level
module _ (others : List (List ℕ)) (sizes : List ℕ) (rest : List (List ℕ)) (values : List Value) (is : others ≡ sizes ∷ rest) (nested' : AreNested others values) (from to start end : ℕ) (order : from ≤ to)
    (s : start ≡ sum (take from sizes)) (e : end ≡ sum (take to sizes)) where
  pub rest_nested : AreNested rest values
  rest_nested = (subst (λ (ls : List (List ℕ)). AreNested ls values) is nested').1

  rest_long : length (nested_values rest values) ≡ sum sizes
  rest_long = (subst (λ (ls : List (List ℕ)). AreNested ls values) is nested').0

  pub range_order : start ≤ end
  range_order = omega (arith, s, e, range_sum sizes from to order)

  pub range_within : to ≤ length sizes → end ≤ length (nested_values rest values)
  range_within h = omega (arith, e, rest_long, sum_by-take-le (λ n. n) sizes to)

  pub pushed_range : (level : ℕ) (l0 l1 l2 : List (List ℕ)) (f0 f1 : Leaved) → level < length l0 → AreNested (drop level l0) f0.values → to ≤ length sizes
      → IsPushed (level + 1) l0 l1 f0 f1 (take (end - start) (drop start (nested_values rest values))) → l2 ≡ set l1 level (get_or l1 level [] ++ take (to - from) (drop from sizes))
      → IsPushed level l0 l2 f0 f1 (take (to - from) (drop from (nested_values others values)))
  pushed_range level l0 l1 l2 f0 f1 h nested there p written =
      let inner = nested_values rest values in
      let items = take (end - start) (drop start inner) in
      let sizes' = take (to - from) (drop from sizes) in
      let within : end ≤ length inner = range_within there in
      let left : end - start ≤ length (drop start inner) = omega (arith, within, range_order, length-drop start inner) in
      let long : length items ≡ sum sizes' = omega (arith, length-take-le (end - start) (drop start inner) left, s, e, range_sum sizes from to order) in
      let pieces : map (λ (xs : List Value). Items xs) (cut sizes' items) ≡ take (to - from) (drop from (nested_values others values)) =
      ap (map (λ (xs : List Value). Items xs)) (sym (cut_range sizes inner from to start end order s e))
      ∙ sym (ap (λ (ls : List (List ℕ)). take (to - from) (drop from (nested_values ls values))) is ∙ ap (take (to - from)) (drop-map (λ (xs : List Value). Items xs) from (cut sizes inner)) ∙ take-map (λ (xs : List Value). Items xs) (to - from) (drop from (cut sizes inner))) in
      subst (λ (vs : List Value). IsPushed level l0 l2 f0 f1 vs) pieces (pushed_arrays level l0 l1 l2 f0 f1 sizes' items h nested p long written)
