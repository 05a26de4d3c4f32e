-- The steps of a part have one outcome.
use Rattle.std.proofs.Common.{◌≡◌, ℕ, List, ap, sym, ◌∙◌, inl, inr}
use Rattle.std.specs.Prelude.{Result, Ok, Err}
use Rattle.mt_fault.specs.declared.fault.Fault.{Fault}
use Rattle.mt_shelf.specs.Files.{Files}
use Rattle.mt_table.specs.declared.definition.Table.{Table}
use Rattle.mt_definition.specs.declared.accepted.Accepted.{Accepted}
use Rattle.mt_command.specs.Outcomes.{refused_by}
use Rattle.mt_command.specs.Parts.{part_checks, part_steps}
use Rattle.mt_command.specs.declared.status.Status.{Status}
use Rattle.mt_command.specs.declared.status.Status.TheVariants.{AtFault}
use Rattle.mt_headline.proofs.PublishedLemmas.{same_accepted}

-- which answer some checks give
abbrev Answers : Type 1
Answers = Result Accepted Fault → Type 0

-- one at most
abbrev HasOne : Answers → Type 0
HasOne checks = (one other : Result Accepted Fault) → checks one → checks other → one ≡ other

never : {A B : Type 0} (x : A) (e : B) → (let r : Result A B = Ok x in r) ≡ Err e → ⊥
never x e same = cc

same_error : {A B : Type 0} (d e : B) → (let r : Result A B = Err d in r) ≡ Err e → d ≡ e
same_error d e same = cc

refused_one : (part : List ℕ) (checks : Answers) → HasOne checks → (one other : Result Accepted Status) → refused_by (AtFault part) checks one → refused_by (AtFault part) checks other → one ≡ other
refused_one part checks has (Ok a) (Ok b) p q = ap Ok (same_accepted a b (has (Ok a) (Ok b) p q))
refused_one part checks has (Ok a) (Err t) p (fault, q, named) = absurd (never a fault (has (Ok a) (Err fault) p q))
refused_one part checks has (Err s) (Ok b) (fault, p, named) q = absurd (never b fault (has (Ok b) (Err fault) q p))
refused_one part checks has (Err s) (Err t) (f, p, is) (g, q, named) = ap Err (is ∙ ap (AtFault part) (same_error f g (has (Err f) (Err g) p q)) ∙ sym named)

pub one_outcome : (table : Table) (part : List ℕ) (files : Files) (one other : Result Accepted Status) → part_steps table part files one → part_steps table part files other → one ≡ other
one_outcome table part files one other (inl (listing, listed, p)) (inl (again, relisted, q)) = refused_one part (part_checks table part files) (λ answer another is too. sym is ∙ too) one other p q
one_outcome table part files one other (inl (listing, listed, p)) (inr (status, unlisted, is)) = absurd (never listing status (listed ∙ sym unlisted))
one_outcome table part files one other (inr (status, unlisted, is)) (inl (listing, listed, q)) = absurd (never listing status (listed ∙ sym unlisted))
one_outcome table part files one other (inr (s, unlisted, is)) (inr (t, again, named)) = is ∙ ap Err (same_error s t (unlisted ∙ sym again)) ∙ sym named
