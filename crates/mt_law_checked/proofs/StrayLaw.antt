-- No name is a stray exactly where each name is known.
use Rattle.std.proofs.Common.{◌≡◌, ℕ, zero, suc, Bool, true, false, ◌||◌, List, [], ◌∷◌, refl, sym, ap, ◌∙◌, subst, arith, inl, inr}
use Rattle.std.specs.Prelude.{◌↔◌, None, Option, Some, Contains, if◌then◌else◌}
use Rattle.std.proofs.lemmas.Bool.{cases_Bool}
use Rattle.mt_defs.specs.Folder.{names_agree}
use Rattle.mt_defs.proofs.NameLemmas.{name_is, same_name}
use Rattle.mt_strays.specs.Strays.{is_known_name, first_unknown}

-- ---- one name

here : {X : Type 0} (x : X) (xs : List X) → Contains (x ∷ xs) x
here x xs = (0, omega arith, refl)

later : {X : Type 0} (x y : X) (xs : List X) → Contains xs y → Contains (x ∷ xs) y
later x y xs (i, inside, at) = (suc i, omega (arith, inside), at)

pub among : (known : List (List ℕ)) (name : List ℕ) → is_known_name known name ≡ true → Contains known name
among [] name e = cc
among (other ∷ known) name e =
    elim (cases_Bool (names_agree other name)) [
      | inl same ↦ subst (Contains (other ∷ known)) (name_is other name same) (here other known)
      | inr differs ↦ later other name known (among known name (sym (ap (λ b. b || is_known_name known name) differs) ∙ e))
    ]

pub known_of : (known : List (List ℕ)) (name : List ℕ) → Contains known name → is_known_name known name ≡ true
known_of [] name (i, inside, at) = absurd (omega (arith, inside))
known_of (other ∷ known) name (zero, inside, at) = ap (λ b. b || is_known_name known name) (same_name other name at)
known_of (other ∷ known) name (suc i, inside, at) =
    or_later (names_agree other name) (is_known_name known name) (known_of known name (i, omega (arith, inside), at))
  where
    or_later : (a b : Bool) → b ≡ true → (a || b) ≡ true
    or_later true b e = refl
    or_later false b e = e

-- ---- all names

all_known : (known names : List (List ℕ)) → first_unknown known names ≡ None → (name : List ℕ) → Contains names name → Contains known name
all_known known [] e name (i, inside, at) = absurd (omega (arith, inside))
all_known known (first ∷ names) e name at =
    elim (cases_Bool (is_known_name known first)) [
      | inl is ↦ by is at (λ later. all_known known names (sym (ap (λ b. if b then first_unknown known names else Some first) is) ∙ e) name later)
      | inr not ↦ absurd (some_is first (sym (ap (λ b. if b then first_unknown known names else Some first) not) ∙ e))
    ]
  where
    some_is : (x : List ℕ) → (let o : Option (List ℕ) = Some x in o) ≡ None → ⊥
    some_is x e = cc

    by : is_known_name known first ≡ true → Contains (first ∷ names) name → (Contains names name → Contains known name) → Contains known name
    by is (zero, inside, same) later = subst (Contains known) same (among known first is)
    by is (suc i, inside, same) later = later (i, omega (arith, inside), same)

none_unknown : (known names : List (List ℕ)) → ((name : List ℕ) → Contains names name → Contains known name) → first_unknown known names ≡ None
none_unknown known [] all = refl
none_unknown known (first ∷ names) all =
    ap (λ b. if b then first_unknown known names else Some first) (known_of known first (all first (here first names)))
    ∙ none_unknown known names (λ name at. all name (later first name names at))

pub known_exactly : (known names : List (List ℕ)) → (first_unknown known names ≡ None) ↔ ((name : List ℕ) → Contains names name → Contains known name)
known_exactly known names = (all_known known names, none_unknown known names)
