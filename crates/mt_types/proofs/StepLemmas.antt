-- What a chain of steps says where it is Ok.
use Rattle.std.proofs.Common.{◌≡◌, Bool, true, false, List, ◌∷◌, refl, ap, ◌&&◌}
use Rattle.std.specs.Prelude.{Result, Ok, Err}
use Rattle.mt_types.specs.Steps.{◌>>=◌, require, at, onto}

-- the first step is Ok, and so is what follows it
pub ok_then : {A B E Z : Type 0} (r : Result A E) (f : A → Result B E) (y : B) → (r >>= f) ≡ Ok y → ((x : A) → r ≡ Ok x → f x ≡ Ok y → Z) → Z
ok_then (Ok x) f y e next = next x refl e
ok_then (Err w) f y e next = cc

pub required : {E B Z : Type 0} (b : Bool) (w : E) (f : Unit {0} → Result B E) (y : B) → (require b w >>= f) ≡ Ok y → (b ≡ true → f tt ≡ Ok y → Z) → Z
required true w f y e next = next refl e
required false w f y e next = cc

pub both_true : (a b : Bool) → (a && b) ≡ true → (a ≡ true) × (b ≡ true)
both_true true b e = (refl, e)
both_true false b e = cc

-- the bound step is what is left, once the first is known
pub then_of : {A B E : Type 0} (r : Result A E) (x : A) (f : A → Result B E) → r ≡ Ok x → (r >>= f) ≡ f x
then_of {A} {B} {E} r x f e = ap (λ (q : Result A E). q >>= f) e

pub then_bad : {A B E : Type 0} (r : Result A E) (w : E) (f : A → Result B E) → r ≡ Err w → (r >>= f) ≡ Err w
then_bad {A} {B} {E} r w f e = ap (λ (q : Result A E). q >>= f) e

pub ok_pair : {A B E : Type 0} (a a' : A) (b b' : B) → (let r : Result (A × B) E = Ok (a, b) in r) ≡ Ok (a', b') → (a' ≡ a) × (b' ≡ b)
ok_pair {A} {B} {E} a a' b b' e =
    let both : (let p : A × B = (a', b') in p) ≡ (a, b) = cc in
    (ap (λ (p : A × B). p.0) both, ap (λ (p : A × B). p.1) both)

pub ok_one : {A E : Type 0} (a a' : A) → (let r : Result A E = Ok a in r) ≡ Ok a' → a' ≡ a
ok_one a a' e = cc

pub require_is : {E : Type 0} (b : Bool) (w : E) → b ≡ true → require b w ≡ Ok tt
require_is {E} b w e = ap (λ (b : Bool). require b w) e

pub passed : {E B : Type 0} (b : Bool) (w : E) (f : Unit {0} → Result B E) → b ≡ true → (require b w >>= f) ≡ f tt
passed {E} {B} b w f e = ap (λ (b : Bool). require b w >>= f) e

pub both_of : (a b : Bool) → a ≡ true → b ≡ true → (a && b) ≡ true
both_of a b e f = rw (e, f) refl

pub onto_ok : {A E Z : Type 0} (x : A) (r : Result (List A) E) (y : List A) → onto x r ≡ Ok y → ((xs : List A) → r ≡ Ok xs → y ≡ x ∷ xs → Z) → Z
onto_ok x (Ok xs) y e next = next xs refl (ok_one _ _ e)
onto_ok x (Err w) y e next = cc

pub at_ok_then : {A B X E Z : Type 0} (x : X) (r : Result A E) (f : A → Result B (X × E)) (y : B) → (at x r >>= f) ≡ Ok y → ((a : A) → r ≡ Ok a → f a ≡ Ok y → Z) → Z
at_ok_then x (Ok a) f y e next = next a refl e
at_ok_then x (Err w) f y e next = cc

pub failed : {E B : Type 0} (b : Bool) (w : E) (f : Unit {0} → Result B E) → b ≡ false → (require b w >>= f) ≡ Err w
failed {E} {B} b w f e = ap (λ (b : Bool). require b w >>= f) e
