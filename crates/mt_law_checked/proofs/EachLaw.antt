-- Checks of each item pass exactly where those of all items do.
use Rattle.std.proofs.Common.{◌≡◌, List, [], ◌∷◌, refl, ◌∙◌}
use Rattle.std.specs.Prelude.{All, Result, Ok}
use Rattle.std.proofs.lemmas.List.Elements.{All-nil, All-cons, All-head, All-tail}
use Rattle.mt_types.proofs.StepLemmas.{ok_then, then_of}
use Rattle.mt_fault.specs.declared.fault.Fault.{Fault}
use Rattle.mt_check.specs.FolderChecks.{each}

-- the checks of an item pass
abbrev Passes : {A : Type 0} → (A → Result Unit Fault) → A → Type 0
Passes check x = check x ≡ Ok tt

pub each_passed : {A : Type 0} (check : A → Result Unit Fault) (xs : List A) → each check xs ≡ Ok tt → All (λ x. check x ≡ Ok tt) xs
each_passed check [] passes = All-nil (Passes check)
each_passed check (x ∷ xs) passes = ok_then (check x) (λ _. each check xs) tt passes (λ done first rest. All-cons (Passes check) x xs first (each_passed check xs rest))

pub each_passes : {A : Type 0} (check : A → Result Unit Fault) (xs : List A) → All (λ x. check x ≡ Ok tt) xs → each check xs ≡ Ok tt
each_passes check [] all = refl
each_passes check (x ∷ xs) all = then_of (check x) tt (λ _. each check xs) (All-head (Passes check) x xs all) ∙ each_passes check xs (All-tail (Passes check) x xs all)
