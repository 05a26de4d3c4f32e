-- Files of different names have different names in any order.
use Rattle.std.proofs.Common.{◌≡◌, ◌≢◌, true, false, cond, List, [], ◌∷◌, sym, ◌∙◌, arith}
use Rattle.std.specs.Prelude.{All, AllPairs}
use Rattle.std.specs.Ordering.{is_gt}
use Rattle.std.specs.declared.cmp.Ordering.{Ordering}
use Rattle.std.proofs.lemmas.List.Elements.{All-nil, All-cons, All-head, All-tail}
use Rattle.std.proofs.lemmas.List.Kept.{AllPairs-cons}
use Rattle.mt_fault.specs.declared.file.FileBytes.{FileBytes}
use Rattle.mt_defs.specs.Sorting.{placed_by, sorted_by}
use Rattle.mt_defs.proofs.Sorted.{All-sorted_by}
use Rattle.mt_defs.proofs.NameLemmas.{same_name}
use Rattle.mt_law_written.proofs.LookupLemmas.{Apart, AreApart}
use Rattle.mt_law_written.proofs.ApartLemmas.{EachLater}

-- each pair
pub pairs_of : {X : Type 0} (R : X → X → Type 0) (xs : List X) → EachLater R xs → AllPairs R xs
pairs_of R [] each = λ i j d low inside. absurd (omega (arith, inside))
pairs_of R (x ∷ xs) each = AllPairs-cons R x xs each.0 (pairs_of R xs each.1)

abbrev pub Differently : FileBytes → FileBytes → Type 0
Differently f g = f.name ≢ g.name

unnamed : (file : FileBytes) (files : List FileBytes) → Apart file files → All (Differently file) files
unnamed file [] apart = All-nil (Differently file)
unnamed file (other ∷ files) apart =
    All-cons (Differently file) other files (λ same.
    (let bad : true ≡ false = sym (same_name file.name other.name same) ∙ apart.0 in cc)) (unnamed file files apart.1)

pub each_later : (files : List FileBytes) → AreApart files → EachLater Differently files
each_later [] apart = tt
each_later (file ∷ files) apart = (unnamed file files apart.0, each_later files apart.1)

module _ {X : Type 0} (R : X → X → Type 0) (turn : (x y : X) → R x y → R y x) (order : X → X → Ordering) where
  all_placed : (P : X → Type 0) (x : X) (ys : List X) → P x → All P ys → All P (placed_by order x ys)
  all_placed P x [] here all = All-cons P x [] here all
  all_placed P x (y ∷ ys) here all =
      elim (is_gt (order x y)) as (λ b. All P (cond b (y ∷ placed_by order x ys) (x ∷ y ∷ ys))) [
        | true ↦ All-cons P y (placed_by order x ys) (All-head P y ys all) (all_placed P x ys here (All-tail P y ys all))
        | false ↦ All-cons P x (y ∷ ys) here all
      ]

  later_placed : (x : X) (ys : List X) → All (R x) ys → EachLater R ys → EachLater R (placed_by order x ys)
  later_placed x [] one each = (one, tt)
  later_placed x (y ∷ ys) one each =
      elim (is_gt (order x y)) as (λ b. EachLater R (cond b (y ∷ placed_by order x ys) (x ∷ y ∷ ys))) [
        | true ↦ (all_placed (R y) x ys (turn x y (All-head (R x) y ys one)) each.0, later_placed x ys (All-tail (R x) y ys one) each.1)
        | false ↦ (one, each)
      ]

  -- a relation that holds both ways holds of each pair in any order
  pub later_sorted : (xs : List X) → EachLater R xs → EachLater R (sorted_by order xs)
  later_sorted [] each = tt
  later_sorted (x ∷ xs) each = later_placed x (sorted_by order xs) (All-sorted_by order (R x) xs each.0) (later_sorted xs each.1)
