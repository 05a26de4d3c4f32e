-- What holds of each element of lists that are made of others.
use Rattle.std.proofs.Common.{◌≡◌, ◌≢◌, ℕ, zero, suc, ◌+◌, ◌<◌, ◌≤◌, Bool, true, List, [], ◌∷◌, ◌++◌, length, map, take, drop, get_or, refl, ap, sym, ◌∙◌, subst, arith}
use Rattle.std.specs.Prelude.{All}
use Rattle.std.specs.List.{flat_map, list_all, enumerate_from, range_with_len}
use Rattle.std.proofs.lemmas.Bool.{and_from}
use Rattle.std.proofs.lemmas.List.{same_lists, get_or_default}
use Rattle.std.proofs.lemmas.List.FromFn.{length-enumerate_from, get_or-enumerate_from, length-map-range_with_len, get_or-map-range_with_len}
use Rattle.std.proofs.lemmas.List.Elements.{All-nil, All-cons, All-append, All-head, All-tail, All-take, All-drop}
use Rattle.mt_defs.specs.Lists.{Pointwise}
use Rattle.mt_defs.specs.Rows.{Row}
use Rattle.mt_defs.specs.Granules.{granule_rows}
use Rattle.mt_defs.specs.SkipIndexes.{entry_groups}

module _ {X : Type 0} (P : X → Type 0) where
  pub All-left : (xs ys : List X) → All P (xs ++ ys) → All P xs
  All-left [] ys all = All-nil P
  All-left (x ∷ xs) ys all = All-cons P x xs (All-head P x (xs ++ ys) all) (All-left xs ys (All-tail P x (xs ++ ys) all))

  pub All-right : (xs ys : List X) → All P (xs ++ ys) → All P ys
  All-right [] ys all = all
  All-right (x ∷ xs) ys all = All-right xs ys (All-tail P x (xs ++ ys) all)

  pub All-of_flat_map : {Y : Type 0} (f : Y → List X) (ys : List Y) → All P (flat_map f ys) → All (λ y. All P (f y)) ys
  All-of_flat_map f [] all = All-nil (λ y. All P (f y))
  All-of_flat_map f (y ∷ ys) all = All-cons (λ y. All P (f y)) y ys (All-left (f y) (flat_map f ys) all) (All-of_flat_map f ys (All-right (f y) (flat_map f ys) all))

  pub All-to_flat_map : {Y : Type 0} (f : Y → List X) (ys : List Y) → All (λ y. All P (f y)) ys → All P (flat_map f ys)
  All-to_flat_map f [] all = All-nil P
  All-to_flat_map f (y ∷ ys) all = All-append P (f y) (flat_map f ys) (All-head (λ y. All P (f y)) y ys all) (All-to_flat_map f ys (All-tail (λ y. All P (f y)) y ys all))

  pub All-of_map : {Y : Type 0} (f : Y → X) (ys : List Y) → All P (map f ys) → All (λ y. P (f y)) ys
  All-of_map f [] all = All-nil (λ y. P (f y))
  All-of_map f (y ∷ ys) all = All-cons (λ y. P (f y)) y ys (All-head P (f y) (map f ys) all) (All-of_map f ys (All-tail P (f y) (map f ys) all))

  pub All-mapped : {Y : Type 0} (f : Y → X) (ys : List Y) → All (λ y. P (f y)) ys → All P (map f ys)
  All-mapped f [] all = All-nil P
  All-mapped f (y ∷ ys) all = All-cons P (f y) (map f ys) (All-head (λ y. P (f y)) y ys all) (All-mapped f ys (All-tail (λ y. P (f y)) y ys all))

-- of each element with its index
pub All-enumerated : {X : Type 0} (Q : ℕ × X → Type 0) (xs : List X) → ((k : ℕ) (d : X) → k < length xs → Q (k, get_or xs k d)) → All Q (enumerate_from 0 xs)
All-enumerated Q xs each k d inside =
    let here : k < length xs = omega (arith, inside, length-enumerate_from 0 xs) in
    let same : 0 + k ≡ k = omega arith in
    subst Q (sym (get_or-enumerate_from 0 xs k d here ∙ ap (λ n. (n, get_or xs k d.1)) same)) (each k d.1 here)

-- of two, and of three
pub All-two : {X : Type 0} (P : X → Type 0) (x y : X) → P x → P y → All P (x ∷ y ∷ [])
All-two P x y one two = All-cons P x (y ∷ []) one (All-cons P y [] two (All-nil P))

pub All-three : {X : Type 0} (P : X → Type 0) (x y z : X) → P x → P y → P z → All P (x ∷ y ∷ z ∷ [])
All-three P x y z one two three = All-cons P x (y ∷ z ∷ []) one (All-two P y z two three)

-- what two facts of each element give
pub All-both : {X : Type 0} (P Q R : X → Type 0) → ((x : X) → P x → Q x → R x) → (xs : List X) → All P xs → All Q xs → All R xs
All-both P Q R f xs p q k d inside = f (get_or xs k d) (p k d inside) (q k d inside)

-- a test that each element passes
pub list_all-mapped : {X Y : Type 0} (test : Y → Bool) (f : X → Y) (xs : List X) → All (λ x. test (f x) ≡ true) xs → list_all test (map f xs) ≡ true
list_all-mapped test f [] all = refl
list_all-mapped test f (x ∷ xs) all =
    and_from (test (f x)) (list_all test (map f xs)) (All-head (λ x. test (f x) ≡ true) x xs all) (list_all-mapped test f xs (All-tail (λ x. test (f x) ≡ true) x xs all))

pub Pointwise-mapped : {X Y : Type 0} (R : X → Y → Type 0) (f : X → Y) (xs : List X) → All (λ x. R x (f x)) xs → Pointwise R xs (map f xs)
Pointwise-mapped R f [] all = tt
Pointwise-mapped R f (x ∷ xs) all = (All-head (λ x. R x (f x)) x xs all, Pointwise-mapped R f xs (All-tail (λ x. R x (f x)) x xs all))

-- what holds of all rows holds of those of each granule
pub All-granules : (P : Row → Type 0) (granules : List ℕ) (rows : List Row) → All P rows → All (All P) (granule_rows granules rows)
All-granules P [] rows all = All-nil (All P)
All-granules P (count ∷ granules) rows all =
    All-cons (All P) (take count rows) (granule_rows granules (drop count rows)) (All-take P count rows all) (All-granules P granules (drop count rows) (All-drop P count rows all))

-- and of those of each group of granules
pub All-groups : (P : Row → Type 0) (per_entry most : ℕ) (granules : List (List Row)) → All (All P) granules → All (All P) (entry_groups per_entry most granules)
All-groups P per_entry zero granules all = All-nil (All P)
All-groups P per_entry (suc most) [] all = All-nil (All P)
All-groups P per_entry (suc most) (granule ∷ granules) all =
    All-cons (All P) (flat_map (λ rows. rows) (take per_entry (granule ∷ granules))) (entry_groups per_entry most (drop per_entry (granule ∷ granules)))
    (All-to_flat_map P (λ rows. rows) (take per_entry (granule ∷ granules)) (All-take (All P) per_entry (granule ∷ granules) all))
    (All-groups P per_entry most (drop per_entry (granule ∷ granules)) (All-drop (All P) per_entry (granule ∷ granules) all))

-- the elements at all indexes are the list
pub all_places : {X : Type 0} (xs : List X) (d : X) → map (λ i. get_or xs i d) (range_with_len 0 (length xs)) ≡ xs
all_places xs d =
    same_lists _ _ (length-map-range_with_len (λ i. get_or xs i d) 0 (length xs)) (λ k e inside.
    let here : k < length xs = omega (arith, inside, length-map-range_with_len (λ i. get_or xs i d) 0 (length xs)) in
    let same : 0 + k ≡ k = omega arith in
    get_or-map-range_with_len (λ i. get_or xs i d) 0 (length xs) k k e here same ∙ get_or_default xs k d e here)

-- what each pair says of its first holds of all firsts
pub Pointwise-firsts : {A B : Type 0} (R : A → B → Type 0) (P : A → Type 0) → ((x : A) (y : B) → R x y → P x) → (xs : List A) (ys : List B) → Pointwise R xs ys → All P xs
Pointwise-firsts R P f [] [] p = All-nil P
Pointwise-firsts R P f [] (y ∷ ys) p = absurd p
Pointwise-firsts R P f (x ∷ xs) [] p = absurd p
Pointwise-firsts R P f (x ∷ xs) (y ∷ ys) p = All-cons P x xs (f x y p.0) (Pointwise-firsts R P f xs ys p.1)

-- a list that is not empty has an element
pub some_of : {X : Type 0} (xs : List X) → xs ≢ [] → 1 ≤ length xs
some_of [] some = absurd (some refl)
some_of (x ∷ xs) some = omega arith
