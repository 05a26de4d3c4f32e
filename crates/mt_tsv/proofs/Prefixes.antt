-- What was read before, and what is still read.
use Rattle.std.proofs.Common.{◌≡◌, List, [], ◌∷◌, ◌++◌, Result, Ok, Err, refl, ap, append_assoc}
use Rattle.mt_types.specs.Steps.{◌>>=◌, onto}

abbrev pub with_prefix : {A E : Type 0} → List A → Result (List A) E → Result (List A) E
with_prefix prefix read = read >>= λ xs. Ok (prefix ++ xs)

pub with_prefix-onto : {A E : Type 0} (prefix : List A) (x : A) (read : Result (List A) E) → with_prefix prefix (onto x read) ≡ with_prefix (prefix ++ x ∷ []) read
with_prefix-onto {A} {E} prefix x (Ok xs) = ap (λ (ys : List A). let r : Result (List A) E = Ok ys in r) (simp append_assoc)
with_prefix-onto prefix x (Err e) = refl

pub with_prefix-nil : {A E : Type 0} (read : Result (List A) E) → with_prefix [] read ≡ read
with_prefix-nil (Ok xs) = refl
with_prefix-nil (Err e) = refl

pub with_prefix-append : {A E : Type 0} (first second : List A) (read : Result (List A) E) → with_prefix first (with_prefix second read) ≡ with_prefix (first ++ second) read
with_prefix-append {A} {E} first second (Ok xs) = ap (λ (ys : List A). let r : Result (List A) E = Ok ys in r) (simp append_assoc)
with_prefix-append first second (Err e) = refl

pub onto_prefix : {A E : Type 0} (x : A) (prefix : List A) (read : Result (List A) E) → onto x (with_prefix prefix read) ≡ with_prefix (x ∷ prefix) read
onto_prefix x prefix (Ok xs) = refl
onto_prefix x prefix (Err e) = refl
