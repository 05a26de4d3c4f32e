-- Rows in key order: they never fall, and are the rows that were sorted.
use Rattle.std.proofs.Common.{◌≡◌, ◌≢◌, ℕ, zero, suc, ◌+◌, ◌*◌, ◌<◌, Bool, true, false, cond, List, [], ◌∷◌, length, get_or, All, refl, sym, ap, ◌∙◌, subst, arith, inl, inr}
use Rattle.std.specs.declared.cmp.Ordering.{Ordering}
use Rattle.std.specs.declared.cmp.Ordering.TheVariants.{Less, Equal, Greater}
use Rattle.std.specs.Ordering.{is_lt, is_gt, ordering_reverse}
use Rattle.std.specs.Cmp.{IsTotalOrder}
use Rattle.std.specs.List.{sum_by}
use Rattle.std.specs.List.Sorted.{IsSorted}
use Rattle.std.proofs.lemmas.Bool.{cases_Bool}
use Rattle.std.proofs.lemmas.Cmp.{on_total}
use Rattle.std.proofs.lemmas.List.Elements.{All-cons}
use Rattle.std.proofs.lemmas.List.Sums.{sum_by-cons}
use Rattle.mt_types.specs.Ordered.{values_total}
use Rattle.mt_table.specs.declared.column.Column.{Column}
use Rattle.mt_table.specs.Rows.{element_count, cell_count}
use Rattle.mt_defs.specs.Rows.{Row, key_of, key_cmp}
use Rattle.mt_defs.specs.Sorting.{placed_by, sorted_by, sorted_rows}

-- ---- what is the same of any reordering

tail_all : {X : Type 0} (P : X → Type 0) (x : X) (xs : List X) → All P (x ∷ xs) → All P xs
tail_all P x xs all k d inside = all (suc k) d (omega (arith, inside))

head_all : {X : Type 0} (P : X → Type 0) (x : X) (xs : List X) → All P (x ∷ xs) → P x
head_all P x xs all = all 0 x (omega arith)

module _ {X : Type 0} (R : X → X → Ordering) where
  all_placed : (P : X → Type 0) (x : X) (ys : List X) → P x → All P ys → All P (placed_by R x ys)
  all_placed P x [] here all = All-cons P x [] here all
  all_placed P x (y ∷ ys) here all =
      elim (is_gt (R x y)) as (λ b. All P (cond b (y ∷ placed_by R x ys) (x ∷ y ∷ ys))) [
        | true ↦ All-cons P y (placed_by R x ys) (head_all P y ys all) (all_placed P x ys here (tail_all P y ys all))
        | false ↦ All-cons P x (y ∷ ys) here all
      ]

  -- what holds of each element still does
  pub All-sorted_by : (P : X → Type 0) (xs : List X) → All P xs → All P (sorted_by R xs)
  All-sorted_by P [] all = all
  All-sorted_by P (x ∷ xs) all = all_placed P x (sorted_by R xs) (head_all P x xs all) (All-sorted_by P xs (tail_all P x xs all))

  length_placed : (x : X) (ys : List X) → length (placed_by R x ys) ≡ suc (length ys)
  length_placed x [] = refl
  length_placed x (y ∷ ys) =
      elim (is_gt (R x y)) as (λ b. length (cond b (y ∷ placed_by R x ys) (x ∷ y ∷ ys)) ≡ suc (suc (length ys))) [
        | true ↦ ap suc (length_placed x ys)
        | false ↦ refl
      ]

  pub length-sorted_by : (xs : List X) → length (sorted_by R xs) ≡ length xs
  length-sorted_by [] = refl
  length-sorted_by (x ∷ xs) = length_placed x (sorted_by R xs) ∙ ap suc (length-sorted_by xs)

  sum_placed : (f : X → ℕ) (x : X) (ys : List X) → sum_by f (placed_by R x ys) ≡ f x + sum_by f ys
  sum_placed f x [] = sum_by-cons f x []
  sum_placed f x (y ∷ ys) =
      elim (is_gt (R x y)) as (λ b. sum_by f (cond b (y ∷ placed_by R x ys) (x ∷ y ∷ ys)) ≡ f x + sum_by f (y ∷ ys)) [
        | true ↦ omega (arith, sum_by-cons f y (placed_by R x ys), sum_by-cons f y ys, sum_placed f x ys)
        | false ↦ sum_by-cons f x (y ∷ ys)
      ]

  pub sum_by-sorted_by : (f : X → ℕ) (xs : List X) → sum_by f (sorted_by R xs) ≡ sum_by f xs
  sum_by-sorted_by f [] = refl
  sum_by-sorted_by f (x ∷ xs) = omega (arith, sum_placed f x (sorted_by R xs), sum_by-cons f x xs, sum_by-sorted_by f xs)

  -- ---- no element is less than the one before it

  -- the first of a list, if there is one, is not less than y
  abbrev Follows : X → List X → Type 0
  Follows y [] = Unit {0}
  Follows y (z ∷ zs) = is_lt (R z y) ≡ false

  abbrev Climbs : List X → Type 0
  Climbs [] = Unit {0}
  Climbs (y ∷ ys) = Follows y ys × Climbs ys

  not_less : (r : Ordering) → is_gt r ≡ true → is_lt r ≡ false
  not_less Less e = cc
  not_less Equal e = cc
  not_less Greater e = refl

  turned : (r s : Ordering) → s ≡ ordering_reverse r → is_gt r ≡ false → is_lt s ≡ false
  turned Less s e not = ap is_lt e
  turned Equal s e not = ap is_lt e
  turned Greater s e not = cc

  follows_placed : (z x : X) (ys : List X) → is_lt (R x z) ≡ false → Follows z ys → Follows z (placed_by R x ys)
  follows_placed z x [] here there = here
  follows_placed z x (y ∷ ys) here there =
      elim (is_gt (R x y)) as (λ b. Follows z (cond b (y ∷ placed_by R x ys) (x ∷ y ∷ ys))) [
        | true ↦ there
        | false ↦ here
      ]

  placed_climbs : IsTotalOrder R → (x : X) (ys : List X) → Climbs ys → Climbs (placed_by R x ys)
  placed_climbs order x [] up = (tt, tt)
  placed_climbs order x (y ∷ ys) up =
      let Q : Bool → Type 0 = λ b. Climbs (cond b (y ∷ placed_by R x ys) (x ∷ y ∷ ys)) in
      elim (cases_Bool (is_gt (R x y))) [
        | inl above ↦ subst Q (sym above) (follows_placed y x ys (not_less (R x y) above) up.0, placed_climbs order x ys up.1)
        | inr not_above ↦ subst Q (sym not_above) (turned (R x y) (R y x) (order.antisymm y x) not_above, up)
      ]

  sorted_climbs : IsTotalOrder R → (xs : List X) → Climbs (sorted_by R xs)
  sorted_climbs order [] = tt
  sorted_climbs order (x ∷ xs) = placed_climbs order x (sorted_by R xs) (sorted_climbs order xs)

  climbs_at : (xs : List X) → Climbs xs → (k : ℕ) (d : X) → suc k < length xs → is_lt (R (get_or xs (suc k) d) (get_or xs k d)) ≡ false
  climbs_at [] up k d inside = absurd (omega (arith, inside))
  climbs_at (x ∷ []) up k d inside = absurd (omega (arith, inside))
  climbs_at (x ∷ y ∷ ys) up zero d inside = up.0
  climbs_at (x ∷ y ∷ ys) up (suc k) d inside = climbs_at (y ∷ ys) up.1 k d (omega (arith, inside))

  pub IsSorted-sorted_by : IsTotalOrder R → (xs : List X) → IsSorted R (sorted_by R xs)
  IsSorted-sorted_by order xs k d low inside =
      let next : suc k ≡ k + 1 = omega arith in
      subst (λ n. is_lt (R (get_or (sorted_by R xs) n d) (get_or (sorted_by R xs) k d)) ≡ false) next (climbs_at (sorted_by R xs) (sorted_climbs order xs) k d (omega (arith, inside)))

-- ---- rows

pub IsSorted-sorted_rows : (sort : List ℕ) (rows : List Row) → IsSorted (key_cmp sort) (sorted_rows sort rows)
IsSorted-sorted_rows sort rows = IsSorted-sorted_by (key_cmp sort) (on_total (key_of sort) values_total) rows

pub All-sorted_rows : (P : Row → Type 0) (sort : List ℕ) (rows : List Row) → All P rows → All P (sorted_rows sort rows)
All-sorted_rows P sort rows all = All-sorted_by (key_cmp sort) P rows all

pub length-sorted_rows : (sort : List ℕ) (rows : List Row) → length (sorted_rows sort rows) ≡ length rows
length-sorted_rows sort rows = length-sorted_by (key_cmp sort) rows

pub cell_count-sorted_rows : (columns : List Column) (sort : List ℕ) (rows : List Row) → cell_count columns (sorted_rows sort rows) ≡ cell_count columns rows
cell_count-sorted_rows columns sort rows =
    ap (λ n. n * length columns + sum_by (λ row. sum_by element_count row) (sorted_rows sort rows)) (length-sorted_rows sort rows)
    ∙ ap (λ n. length rows * length columns + n) (sum_by-sorted_by (key_cmp sort) (λ row. sum_by element_count row) rows)

nothing_sorted : (rows : List Row) → length rows ≡ 0 → rows ≡ []
nothing_sorted [] e = refl
nothing_sorted (row ∷ rows) e = absurd (omega (arith, e))

pub some_sorted_rows : (sort : List ℕ) (rows : List Row) → rows ≢ [] → sorted_rows sort rows ≢ []
some_sorted_rows sort rows some none = some (nothing_sorted rows (sym (length-sorted_rows sort rows) ∙ ap length none))
