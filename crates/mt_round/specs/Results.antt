-- Results one after another.
use Rattle.std.specs.Prelude.{[], ◌∷◌, List, Result, Ok}
use Rattle.mt_types.specs.Steps.{◌>>=◌, onto}

-- the values of all results, or the first error
abbrev pub values_or_first_error : {A E : Type 0} → List (Result A E) → Result (List A) E
values_or_first_error [] = Ok []
values_or_first_error (result ∷ results) = result >>= λ value. onto value (values_or_first_error results)
