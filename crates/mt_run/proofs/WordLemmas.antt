-- Words of another number than the command's form has are no `trial`.
use Rattle.std.proofs.Common.{◌≡◌, ℕ, ◌<◌, ◌≤◌, List, [], ◌∷◌, length, map, None, refl, arith}
use Rattle.mt_run.specs.Words.{trial_command}

pub fewer_than_three : {X : Type 0} (text : X → List ℕ) (operands : List X) → length operands < 3 → trial_command (map text operands) ≡ None
fewer_than_three text [] few = refl
fewer_than_three text (a ∷ []) few = refl
fewer_than_three text (a ∷ b ∷ []) few = refl
fewer_than_three text (a ∷ b ∷ c ∷ more) few = absurd (omega (arith, few))

pub more_than_three : {X : Type 0} (text : X → List ℕ) (operands : List X) → 4 ≤ length operands → trial_command (map text operands) ≡ None
more_than_three text [] many = refl
more_than_three text (a ∷ []) many = refl
more_than_three text (a ∷ b ∷ []) many = refl
more_than_three text (a ∷ b ∷ c ∷ []) many = absurd (omega (arith, many))
more_than_three text (a ∷ b ∷ c ∷ d ∷ more) many = refl
