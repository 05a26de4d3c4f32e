-- Names of files, one index more.
use Rattle.std.proofs.Common.{◌≡◌, ℕ, ◌+◌, ◌<◌, List, [], ◌∷◌, ◌++◌, length, take, ap, sym, ◌∙◌, get_or}
use Rattle.std.specs.List.{flat_map}
use Rattle.std.proofs.lemmas.List.{append-nil, append_assoc, take_more}
use Rattle.std.proofs.lemmas.List.Concat.{flat_map-append, flat_map-cons}

pub flat_more : {A B : Type 0} (f : A → List B) (xs : List A) (i : ℕ) (x : A) (initial done new : List B) → i < length xs → x ≡ get_or xs i x → done ≡ initial ++ flat_map f (take i xs) → new ≡ done ++ f x → new ≡ initial ++ flat_map f (take (i + 1) xs)
flat_more {A} {B} f xs i x initial done new inside at before more =
    more ∙ ap (λ (l : List B). l ++ f x) before ∙ append_assoc initial (flat_map f (take i xs)) (f x)
    ∙ ap (λ (l : List B). initial ++ l)
    (ap (λ (l : List B). flat_map f (take i xs) ++ l) (sym (flat_map-cons f x [] ∙ append-nil (f x)))
    ∙ sym (flat_map-append f (take i xs) (x ∷ []))
    ∙ ap (λ (l : List A). flat_map f l) (ap (λ (a : A). take i xs ++ a ∷ []) at ∙ sym (take_more xs i x inside)))
