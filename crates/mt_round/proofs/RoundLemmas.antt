-- What the results of a round come to, where what each task gives is known.
use Rattle.std.proofs.Common.{◌≡◌, ℕ, ◌<◌, List, [], ◌∷◌, length, get_or, Result, Ok, Err, IfOk, ap, ◌∙◌, arith, suc}
use Rattle.mt_types.proofs.StepLemmas.{ok_one, onto_ok}
use Rattle.mt_round.specs.Results.{values_or_first_error}

-- where each value is the one that is wanted, all values are those that are wanted
pub values_are : {X E : Type 0} (wanted : List X) (results : List (Result X E)) (values : List X) (none : X) → length results ≡ length wanted
    → ((i : ℕ) (d : Result X E) → i < length wanted → IfOk (get_or results i d) (λ x. x ≡ get_or wanted i none)) → values_or_first_error results ≡ Ok values → values ≡ wanted
values_are [] [] values none len each is = ok_one [] values is
values_are [] (r ∷ rs) values none len each is = absurd (omega (arith, len))
values_are (w ∷ ws) [] values none len each is = absurd (omega (arith, len))
values_are (w ∷ ws) (Err e ∷ rs) values none len each is = cc
values_are (w ∷ ws) (Ok x ∷ rs) values none len each is =
    onto_ok x (values_or_first_error rs) values is (λ more same split.
    let first : x ≡ w = each 0 (Ok x) (omega arith) in
    let later : more ≡ ws = values_are ws rs more none (omega (arith, len)) (λ i d h. each (suc i) d (omega (arith, h))) same in
    split ∙ ap (λ y. y ∷ more) first ∙ ap (λ l. w ∷ l) later)
