-- Steps whose only outcome is one value, and what an outcome says of the steps.
use Rattle.std.proofs.Common.{◌≡◌, ◌⊎◌, inl, inr, refl, ◌∙◌, subst, Result, Ok, Err}
use Rattle.mt_command.specs.Outcomes.{Outcomes, ◌>>=◌, gives}
use Rattle.mt_command.specs.Status as readings
use Rattle.mt_command.specs.declared.status.Status.{Status}
use Rattle.mt_trial.proofs.OnlyLemmas.{no_value, same_value}

-- any outcome of the steps is this value
abbrev pub IsOnly : {A : Type 0} → Outcomes A → A → Type 0
IsOnly {A} steps x = (outcome : Result A Status) → steps outcome → outcome ≡ Ok x

pub given_only : {A : Type 0} (r : Result A Status) (x : A) → r ≡ Ok x → IsOnly (gives r) x
given_only r x is outcome same = same ∙ is

pub then_only : {A B : Type 0} (first : Outcomes A) (next : A → Outcomes B) (x : A) (y : B) → IsOnly first x → IsOnly (next x) y → IsOnly (first >>= next) y
then_only first next x y one other outcome (inl (value, is, goes)) = other outcome (subst (λ v. next v outcome) (same_value value x (one (Ok value) is)) goes)
then_only first next x y one other outcome (inr (status, is, same)) = absurd (no_value status x (one (Err status) is))

-- steps that have a value passed the first of them
pub came_by : {A B : Type 0} (first : Outcomes A) (next : A → Outcomes B) (y : B) → (first >>= next) (Ok y) → (x : A) × first (Ok x) × next x (Ok y)
came_by first next y (inl came) = came
came_by first next y (inr (status, is, same)) = cc

-- and steps that refuse did so at the first, or later
pub came_to_refuse : {A B : Type 0} (first : Outcomes A) (next : A → Outcomes B) (status : Status) → (first >>= next) (Err status)
    → first (Err status) ⊎ ((x : A) × first (Ok x) × next x (Err status))
came_to_refuse first next status (inl came) = inr came
came_to_refuse first next status (inr (other, is, same)) = let this : other ≡ status = cc in inl (subst (λ s. first (Err s)) this is)

pub no_refusal : {A : Type 0} (status : Status) (x : A) → gives (let r : Result A Status = Ok x in r) (Err status) → ⊥
no_refusal status x e = cc

-- what a step gave, and what those after it made of it
pub record Passed {A B : Type 0} (first : Result A Status) (rest : A → Result B Status) (made : B) : Type 0 where
  pub gave : A
  pub given : first ≡ Ok gave
  pub later : rest gave ≡ Ok made

pub passed : {A B : Type 0} (first : Result A Status) (rest : A → Result B Status) (made : B) → readings.◌>>=◌ first rest ≡ Ok made → Passed first rest made
passed (Ok gave) rest made e = record { gave = gave; given = refl; later = e }
passed (Err status) rest made e = cc
