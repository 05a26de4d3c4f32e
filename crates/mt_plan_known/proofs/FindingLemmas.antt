-- Readers of what is a relation, step by step.
use Rattle.std.proofs.Common.{◌≡◌, ℕ, ◌+◌, ◌<◌, List, [], ◌∷◌, ◌++◌, length, refl, ap, sym, ◌∙◌}
use Rattle.std.specs.Prelude.{Result, Ok, Err}
use Rattle.mt_table.specs.Rows.{Pointwise}
use Rattle.mt_fault.specs.declared.error.FileError.{FileError}
use Rattle.mt_fault.specs.declared.error.FileError.TheVariants.{AtFault, NoMemory}
use Rattle.mt_fault.specs.Faults.{Judged}
use Rattle.mt_fault.specs.Results.{FailsAs}
use Rattle.mt_plan_known.specs.Finding.{Finds}

-- nothing is so
pub none_finds : {A : Type 0} (Is : A → Type 0) (e : FileError) → ((x : A) → Is x → ⊥) → Finds Is (Err e)
none_finds Is (AtFault fault) none = none
none_finds Is NoMemory none = tt

-- an error of a step
pub step_finds : {A B : Type 0} (Is : A → Type 0) (Has : B → Type 0) (e : FileError) → Finds Is (Err e) → ((y : B) → Has y → (x : A) × Is x) → Finds Has (Err e)
step_finds Is Has (AtFault fault) none step = λ y has. let part = step y has in none part.0 part.1
step_finds Is Has NoMemory none step = tt

-- an error of a reading
pub reading_finds : {A B : Type 0} (reading : Judged A) (Has : B → Type 0) (e : FileError) → FailsAs e reading → ((y : B) → Has y → (x : A) × (reading ≡ Ok x)) → Finds Has (Err e)
reading_finds reading Has (AtFault fault) fails step = λ y has. let part = step y has in let bad = sym fails ∙ part.1 in cc
reading_finds reading Has NoMemory fails step = tt

-- one more of each
pub pointwise_push : {A B : Type 0} (R : A → B → Type 0) (xs : List A) (ys : List B) (x : A) (y : B) → Pointwise R xs ys → R x y → Pointwise R (xs ++ x ∷ []) (ys ++ y ∷ [])
pointwise_push R [] [] x y p r = (r, tt)
pointwise_push R [] (w ∷ ys) x y p r = absurd p
pointwise_push R (w ∷ xs) [] x y p r = absurd p
pointwise_push R (w ∷ xs) (z ∷ ys) x y p r = (p.0, pointwise_push R xs ys x y p.1 r)
