-- Steps that come to one value, and to nothing else.
use Rattle.std.proofs.Common.{◌≡◌, inl, inr, refl, sym, ◌∙◌, subst, Result, Ok, Err}
use Rattle.std.specs.Prelude.{◌↔◌}
use Rattle.mt_command.specs.Outcomes.{Outcomes, ◌>>=◌, gives}
use Rattle.mt_command.specs.declared.status.Status.{Status}

-- the steps come to this value, and to nothing else
abbrev pub IsOnly : {A : Type 0} → Outcomes A → A → Type 0
IsOnly {A} steps x = (outcome : Result A Status) → steps outcome ↔ (outcome ≡ Ok x)

pub same_value : {A : Type 0} (x y : A) → (let r : Result A Status = Ok x in r) ≡ Ok y → x ≡ y
same_value x y e = cc

pub no_value : {A : Type 0} (status : Status) (x : A) → (let r : Result A Status = Err status in r) ≡ Ok x → ⊥
no_value status x e = cc

pub given_only : {A : Type 0} (r : Result A Status) (x : A) → r ≡ Ok x → IsOnly (gives r) x
given_only r x is outcome = (λ same. same ∙ is, λ same. same ∙ sym is)

pub then_only : {A B : Type 0} (first : Outcomes A) (next : A → Outcomes B) (x : A) (y : B) → IsOnly first x → IsOnly (next x) y → IsOnly (first >>= next) y
then_only first next x y one other outcome = (came, λ same. inl (x, (one (Ok x)).1 refl, (other outcome).1 same))
  where
    came : (first >>= next) outcome → outcome ≡ Ok y
    came (inl (value, is, goes)) = (other outcome).0 (subst (λ v. next v outcome) (same_value value x ((one (Ok value)).0 is)) goes)
    came (inr (status, is, same)) = absurd (no_value status x ((one (Err status)).0 is))
