-- Values in several runs.
use Rattle.std.proofs.Common.{◌≡◌, ℕ, zero, suc, ◌<◌, ◌≤◌, Bool, true, List, [], ◌∷◌, ◌++◌, length, get_or, take, refl, ap, sym, ◌∙◌, arith}
use Rattle.std.specs.List.{flat_map, list_all}
use Rattle.std.proofs.lemmas.List.{take_all}
use Rattle.std.proofs.lemmas.List.Concat.{flat_map-append}
use Rattle.std.proofs.lemmas.List.Folds.{list_all-append}
use Rattle.std.proofs.lemmas.Bool.{and_parts}

-- what is made of the values of some runs is what is made of each run
pub flat_map-flat_map : {X Y Z : Type 0} (f : Y → List Z) (g : X → List Y) (xs : List X) → flat_map (λ x. flat_map f (g x)) xs ≡ flat_map f (flat_map g xs)
flat_map-flat_map f g [] = refl
flat_map-flat_map f g (x ∷ xs) = ap (λ zs. flat_map f (g x) ++ zs) (flat_map-flat_map f g xs) ∙ sym (flat_map-append f (g x) (flat_map g xs))

-- what holds of the values of all runs holds of those of one
pub all_of_run : {X Y : Type 0} (p : Y → Bool) (g : X → List Y) (xs : List X) (i : ℕ) (d : X) → i < length xs → list_all p (flat_map g xs) ≡ true → list_all p (g (get_or xs i d)) ≡ true
all_of_run p g [] i d less all = absurd (omega arith)
all_of_run p g (x ∷ xs) zero d less all = (and_parts _ _ (sym (list_all-append p (g x) (flat_map g xs)) ∙ all)).0
all_of_run p g (x ∷ xs) (suc i) d less all = all_of_run p g xs i d (omega arith) (and_parts _ _ (sym (list_all-append p (g x) (flat_map g xs)) ∙ all)).1

-- all runs are done
pub all_runs : {X Y Z : Type 0} (f : Y → List Z) (g : X → List Y) (xs : List X) (i : ℕ) (out : List Z) → length xs ≤ i → out ≡ flat_map (λ x. flat_map f (g x)) (take i xs) → out ≡ flat_map f (flat_map g xs)
all_runs f g xs i out done is = is ∙ ap (flat_map (λ x. flat_map f (g x))) (take_all i xs done) ∙ flat_map-flat_map f g xs

-- what holds of all holds of one
pub all_of_one : {X : Type 0} (p : X → Bool) (xs : List X) (i : ℕ) (d : X) → i < length xs → list_all p xs ≡ true → p (get_or xs i d) ≡ true
all_of_one p [] i d less all = absurd (omega arith)
all_of_one p (x ∷ xs) zero d less all = (and_parts _ _ all).0
all_of_one p (x ∷ xs) (suc i) d less all = all_of_one p xs i d (omega arith) (and_parts _ _ all).1
