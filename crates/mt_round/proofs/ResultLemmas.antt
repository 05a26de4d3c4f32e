-- How the values of results grow, one result after another.
use Rattle.std.proofs.Common.{◌≡◌, [], ◌∷◌, ◌++◌, List, Result, Ok, Err, ap, sym, refl}
use Rattle.std.proofs.lemmas.List.{append_assoc}
use Rattle.mt_types.specs.Steps.{◌>>=◌, onto}

-- some values before those that are to come
abbrev pub behind : {A E : Type 0} → List A → Result (List A) E → Result (List A) E
behind values read = read >>= λ more. Ok (values ++ more)

-- before the first result there is no value
pub behind_none : {A E : Type 0} (read : Result (List A) E) → read ≡ behind [] read
behind_none (Ok more) = refl
behind_none (Err e) = refl

-- the next value stands behind the earlier ones
pub behind_onto : {A E : Type 0} (values : List A) (value : A) (read : Result (List A) E) → behind values (onto value read) ≡ behind (values ++ value ∷ []) read
behind_onto values value (Ok more) = ap Ok (sym (append_assoc values (value ∷ []) more))
behind_onto values value (Err e) = refl
