-- Lists that belong together element by element.
use Rattle.std.proofs.Common.{◌≡◌, List, [], ◌∷◌, map, get_or, ap, arith}
use Rattle.std.specs.Prelude.{All}
use Rattle.std.specs.List.Sorted.{IsNonDecreasingBy}
use Rattle.std.proofs.lemmas.List.{length-map, get_or-map}
use Rattle.std.proofs.lemmas.List.Elements.{All-nil, All-cons}
use Rattle.mt_table.specs.Rows.{Pointwise}
use Rattle.mt_defs.specs.declared.mark.Mark.{Mark}
use Rattle.mt_defs.specs.SkipIndexes.{SkipMark}
use Rattle.mt_law_checked.proofs.SkipBytes.{mark_of}

pub pointwise_to : {A B : Type 0} (R S : A → B → Type 0) → ((x : A) (y : B) → R x y → S x y) → (xs : List A) (ys : List B) → Pointwise R xs ys → Pointwise S xs ys
pointwise_to R S f [] [] p = tt
pointwise_to R S f [] (y ∷ ys) p = absurd p
pointwise_to R S f (x ∷ xs) [] p = absurd p
pointwise_to R S f (x ∷ xs) (y ∷ ys) p = (f x y p.0, pointwise_to R S f xs ys p.1)

pub pointwise_unmapped : {A B C : Type 0} (R : B → C → Type 0) (f : A → B) (xs : List A) (ys : List C) → Pointwise R (map f xs) ys → Pointwise (λ x y. R (f x) y) xs ys
pointwise_unmapped R f [] [] p = tt
pointwise_unmapped R f [] (y ∷ ys) p = absurd p
pointwise_unmapped R f (x ∷ xs) [] p = absurd p
pointwise_unmapped R f (x ∷ xs) (y ∷ ys) p = (p.0, pointwise_unmapped R f xs ys p.1)

pub pointwise_mapped : {A B C : Type 0} (R : B → C → Type 0) (f : A → B) (xs : List A) (ys : List C) → Pointwise (λ x y. R (f x) y) xs ys → Pointwise R (map f xs) ys
pointwise_mapped R f [] [] p = tt
pointwise_mapped R f [] (y ∷ ys) p = absurd p
pointwise_mapped R f (x ∷ xs) [] p = absurd p
pointwise_mapped R f (x ∷ xs) (y ∷ ys) p = (p.0, pointwise_mapped R f xs ys p.1)

pub all_seconds : {A B : Type 0} (R : A → B → Type 0) (P : B → Type 0) → ((x : A) (y : B) → R x y → P y) → (xs : List A) (ys : List B) → Pointwise R xs ys → All P ys
all_seconds R P f [] [] p = All-nil P
all_seconds R P f [] (y ∷ ys) p = absurd p
all_seconds R P f (x ∷ xs) [] p = absurd p
all_seconds R P f (x ∷ xs) (y ∷ ys) p = All-cons P y ys (f x y p.0) (all_seconds R P f xs ys p.1)

pub order_unmapped : (marks : List SkipMark) → IsNonDecreasingBy (λ (m : Mark). m.offset) (map mark_of marks) → IsNonDecreasingBy (λ (s : SkipMark). s.mark.offset) marks
order_unmapped marks order i j d le inside =
    let long = length-map marks mark_of in
    let here = order i j d.mark le (omega (arith, inside, long)) in
    let low : (get_or (map mark_of marks) i d.mark).offset ≡ (get_or marks i d).mark.offset = ap (λ (m : Mark). m.offset) (get_or-map mark_of marks i d d.mark (omega (arith, le, inside))) in
    let high : (get_or (map mark_of marks) j d.mark).offset ≡ (get_or marks j d).mark.offset = ap (λ (m : Mark). m.offset) (get_or-map mark_of marks j d d.mark inside) in
    omega (arith, here, low, high)

pub order_mapped : (marks : List SkipMark) → IsNonDecreasingBy (λ (s : SkipMark). s.mark.offset) marks → IsNonDecreasingBy (λ (m : Mark). m.offset) (map mark_of marks)
order_mapped marks order i j d le inside =
    let s : SkipMark = record { mark = d; rows = 0 } in
    let long = length-map marks mark_of in
    let here = order i j s le (omega (arith, inside, long)) in
    let low : (get_or (map mark_of marks) i d).offset ≡ (get_or marks i s).mark.offset = ap (λ (m : Mark). m.offset) (get_or-map mark_of marks i s d (omega (arith, le, inside, long))) in
    let high : (get_or (map mark_of marks) j d).offset ≡ (get_or marks j s).mark.offset = ap (λ (m : Mark). m.offset) (get_or-map mark_of marks j s d (omega (arith, inside, long))) in
    omega (arith, here, low, high)
