-- Steps that may fail: each is checked only where all earlier ones hold.
use Rattle.std.specs.Prelude.{Bool, true, false, List, ◌∷◌, Option, Some, None, Result, Ok, Err}

-- the next step, where the one before is Ok
infixl 10 ◌>>=◌
abbrev pub ◌>>=◌ : {A B E : Type 0} → Result A E → (A → Result B E) → Result B E
(Ok x) >>= f = f x
(Err e) >>= f = Err e

-- the test holds, or this is wrong
abbrev pub require : {E : Type 0} → Bool → E → Result (Unit {0}) E
require true why = Ok tt
require false why = Err why

-- what was found, or this is wrong
abbrev pub ok_or : {A E : Type 0} → E → Option A → Result A E
ok_or why (Some x) = Ok x
ok_or why None = Err why

-- what is wrong, and where
abbrev pub at : {A X E : Type 0} → X → Result A E → Result A (X × E)
at where' (Ok x) = Ok x
at where' (Err why) = Err (where', why)

-- one more item before those that were read
abbrev pub onto : {A E : Type 0} → A → Result (List A) E → Result (List A) E
onto x read = read >>= λ xs. Ok (x ∷ xs)
