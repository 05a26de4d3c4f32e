-- One more value inside arrays.
use Rattle.std.proofs.Common.{◌≡◌, ℕ, suc, ◌+◌, ◌<◌, Bool, true, false, List, [], ◌∷◌, ◌++◌, length, get_or, set, take, drop, map, refl, ap, sym, ◌∙◌, subst, arith, length-append}
use Rattle.std.specs.Prelude.{sum}
use Rattle.std.specs.List.{list_all}
use Rattle.std.proofs.lemmas.List.{append-nil, append_assoc, map-append, drop_all, drop_more, drop-set, take-set, take_more, get_or-take, take-take, length-set}
use Rattle.std.proofs.lemmas.List.Sums.{sum_by_push}
use Rattle.mt_types.specs.declared.value.Value.{Value}
use Rattle.mt_types.specs.declared.value.Value.TheVariants.{List as Items, outs-List}
use Rattle.mt_types.specs.Fits.{list_at}
use Rattle.mt_cells.specs.Pieces.{cut}
use Rattle.mt_columns.specs.Leaves.{Leaved}
use Rattle.mt_columns.specs.Nesting.{AreNested, IsPushed, nested_values, fits_depth}
use Rattle.std.proofs.Common.{inl, inr}
use Rattle.std.proofs.lemmas.Bool.{cases_Bool}
use Rattle.std.proofs.lemmas.List.Folds.{list_all_at}
use Rattle.mt_cells.proofs.CutLemmas.{cut-append, cut_one}

-- nothing is pushed yet
pub pushed_none : (level : ℕ) (levels : List (List ℕ)) (leaf : Leaved) → AreNested (drop level levels) leaf.values → IsPushed level levels levels leaf leaf []
pushed_none level levels leaf nested = record {
  many = refl;
  above = refl;
  kind = refl;
  nullable = refl;
  values = sym (append-nil (nested_values (drop level levels) leaf.values));
  nested = nested;
}

-- one element more
pub pushed_more : (level i : ℕ) (l0 l1 l2 : List (List ℕ)) (f0 f1 f2 : Leaved) (items : List Value) (v : Value) → i < length items → v ≡ get_or items i v → IsPushed level l0 l1 f0 f1 (take i items) → IsPushed level l1 l2 f1 f2 (v ∷ [])
    → IsPushed level l0 l2 f0 f2 (take (i + 1) items)
pushed_more level i l0 l1 l2 f0 f1 f2 items v h is p q = record {
  many = q.many ∙ p.many;
  above = q.above ∙ p.above;
  kind = q.kind ∙ p.kind;
  nullable = q.nullable ∙ p.nullable;
  values =
      q.values ∙ ap (λ (vs : List Value). vs ++ v ∷ []) p.values ∙ append_assoc (nested_values (drop level l0) f0.values) (take i items) (v ∷ [])
      ∙ ap (λ (vs : List Value). nested_values (drop level l0) f0.values ++ vs) (ap (λ (w : Value). take i items ++ w ∷ []) is ∙ sym (take_more items i v h));
  nested = q.nested;
}

-- the first level, and those below it
pub first_level : (level : ℕ) (levels : List (List ℕ)) → level < length levels → drop level levels ≡ get_or levels level [] ∷ drop (level + 1) levels
first_level level levels h = drop_more levels level [] h

pub below_nested : (level : ℕ) (levels : List (List ℕ)) (values : List Value) → level < length levels → AreNested (drop level levels) values → AreNested (drop (level + 1) levels) values
below_nested level levels values h nested = (subst (λ (ls : List (List ℕ)). AreNested ls values) (first_level level levels h) nested).1

-- an array of the elements that were pushed
array_more : (sizes : List ℕ) (rest0 rest1 : List (List ℕ)) (v0 v1 items : List Value) → length (nested_values rest0 v0) ≡ sum sizes → nested_values rest1 v1 ≡ nested_values rest0 v0 ++ items
    → (nested_values ((sizes ++ length items ∷ []) ∷ rest1) v1 ≡ nested_values (sizes ∷ rest0) v0 ++ Items items ∷ []) × (length (nested_values rest1 v1) ≡ sum (sizes ++ length items ∷ []))
array_more sizes rest0 rest1 v0 v1 items long more =
    let inner = nested_values rest0 v0 in (
      ap (λ (vs : List Value). map (λ (xs : List Value). Items xs) (cut (sizes ++ length items ∷ []) vs)) more
          ∙ ap (map (λ (xs : List Value). Items xs)) (cut-append sizes (length items ∷ []) inner items long ∙ ap (λ (ps : List (List Value)). cut sizes inner ++ ps) (cut_one (length items) items refl))
          ∙ map-append (λ (xs : List Value). Items xs) (cut sizes inner) (items ∷ []),
      ap (λ (vs : List Value). length vs) more ∙ length-append inner items ∙ ap (λ (n : ℕ). n + length items) long ∙ sym (sum_by_push (λ n. n) sizes (length items)),
    )

pub pushed_array : (level : ℕ) (l0 l1 l2 : List (List ℕ)) (f0 f1 : Leaved) (items : List Value) → level < length l0 → AreNested (drop level l0) f0.values → IsPushed (level + 1) l0 l1 f0 f1 items
    → l2 ≡ set l1 level (get_or l1 level [] ++ length items ∷ []) → IsPushed level l0 l2 f0 f1 (Items items ∷ [])
pushed_array level l0 l1 l2 f0 f1 items h nested p is =
    let sizes = get_or l0 level [] in
    let there : level < length l1 = omega (arith, h, p.many) in
    let within : level < level + 1 = omega arith in
    let same : get_or l1 level [] ≡ sizes = sym (get_or-take (level + 1) l1 level [] within) ∙ ap (λ (ls : List (List ℕ)). get_or ls level []) p.above ∙ get_or-take (level + 1) l0 level [] within in
    let written : l2 ≡ set l1 level (sizes ++ length items ∷ []) = is ∙ ap (λ (s : List ℕ). set l1 level (s ++ length items ∷ [])) same in
    let after : drop level l2 ≡ (sizes ++ length items ∷ []) ∷ drop (level + 1) l1 = ap (drop level) written ∙ drop-set l1 level (sizes ++ length items ∷ []) there in
    let before = first_level level l0 h in
    let long = (subst (λ (ls : List (List ℕ)). AreNested ls f0.values) before nested).0 in
    let more = array_more sizes (drop (level + 1) l0) (drop (level + 1) l1) f0.values f1.values items long p.values in
    let upper : take level l1 ≡ take level l0 = sym (shorter level l1) ∙ ap (take level) p.above ∙ shorter level l0 in
    record {
      many = ap (λ (ls : List (List ℕ)). length ls) written ∙ length-set l1 level (sizes ++ length items ∷ []) ∙ p.many;
      above = ap (take level) written ∙ take-set l1 level (sizes ++ length items ∷ []) ∙ upper;
      kind = p.kind;
      nullable = p.nullable;
      values = ap (λ (ls : List (List ℕ)). nested_values ls f1.values) after ∙ more.0 ∙ ap (λ (ls : List (List ℕ)). nested_values ls f0.values ++ Items items ∷ []) (sym before);
      nested = subst (λ (ls : List (List ℕ)). AreNested ls f1.values) (sym after) (more.1, p.nested);
    }
  where
    shorter : (n : ℕ) (ls : List (List ℕ)) → take n (take (n + 1) ls) ≡ take n ls
    shorter n ls = take-take n (n + 1) ls (omega arith)

-- a value inside no array
pub pushed_leaf : (level : ℕ) (levels : List (List ℕ)) (f0 f1 : Leaved) (v : Value) → level ≡ length levels → f1.kind ≡ f0.kind → f1.nullable ≡ f0.nullable → f1.values ≡ f0.values ++ v ∷ [] → IsPushed level levels levels f0 f1 (v ∷ [])
pushed_leaf level levels f0 f1 v last k n is =
    let none : drop level levels ≡ [] = drop_all level levels (omega (arith, last)) in
    record {
      many = refl;
      above = refl;
      kind = k;
      nullable = n;
      values = ap (λ (ls : List (List ℕ)). nested_values ls f1.values) none ∙ is ∙ ap (λ (ls : List (List ℕ)). nested_values ls f0.values ++ v ∷ []) (sym none);
      nested = subst (λ (ls : List (List ℕ)). AreNested ls f1.values) (sym none) tt;
    }

-- the elements of an array that fits
pub element_fits : (test : Value → Bool) (d n i : ℕ) (items : List Value) (v : Value) → d ≡ suc n → fits_depth test d (Items items) ≡ true → i < length items → v ≡ get_or items i v → fits_depth test n v ≡ true
element_fits test d n i items v is fits h e =
    let p : Value → Bool = fits_depth test n in
    let all : list_all p items ≡ true = sym (ap (list_at (list_all p)) (outs-List items)) ∙ ap (λ (k : ℕ). fits_depth test k (Items items)) (sym is) ∙ fits in
    elim (cases_Bool (p (get_or items i v))) [
      | inl good ↦ ap p e ∙ good
      | inr wrong ↦ (let bad : false ≡ true = sym (list_all_at p items i v h wrong) ∙ all in cc)
    ]
