-- Clauses one after the other, as a loop reads them.
use Rattle.std.proofs.Common.{◌≡◌, ℕ, suc, ◌+◌, ◌-◌, ◌<◌, ◌≤◌, List, true, false, Option, Some, None, refl, sym, ◌∙◌, arith}
use Rattle.mt_tokens.specs.Tokens.{Tok}
use Rattle.mt_phrases.specs.declared.error.SyntaxError.{SyntaxError}
use Rattle.mt_phrases.specs.declared.error.SyntaxError.TheVariants as error
use Rattle.mt_phrases.specs.Phrases.{first_is}
use Rattle.mt_phrases.specs.Answers.{Fails}
use Rattle.mt_syntax.specs.declared.clause.Clause.{Clause}
use Rattle.mt_syntax.specs.declared.clause.Clauses.{Clauses}
use Rattle.mt_syntax.specs.Trees.{with_clause}
use Rattle.mt_syntax.specs.Reading.{clause_at, more_clauses, is_clause_key}

-- what is left to read gives the whole
pub record GoesClauses (left : ℕ) (found : Clauses) (tokens : List Tok) (total : Option (Clauses × List Tok)) : Type 0 where
  pub is : more_clauses left found tokens ≡ total

pub clauses_go_on : {end i : ℕ} {found : Clauses} {tokens : List Tok} (x : Clause × List Tok) (next : Clauses) {total : Option (Clauses × List Tok)}
    → i < end → first_is is_clause_key tokens ≡ true → clause_at tokens ≡ Some x → with_clause found x.0 ≡ Some next
    → GoesClauses (end - i) found tokens total → GoesClauses (end - (i + 1)) next x.1 total
unfolding more_clauses
clauses_go_on {end = end} {i = i} {found = found} {tokens = tokens} x next lt begins clause added goes =
    let k : end - i ≡ suc (end - (i + 1)) = omega arith in
    let one : more_clauses (end - i) found tokens ≡ more_clauses (end - (i + 1)) next x.1 = rw (k, begins, clause, added) refl in
    record { is = sym one ∙ goes.is }

pub clause_is_wrong : (error : SyntaxError) {end i : ℕ} {found : Clauses} {tokens : List Tok} {total : Option (Clauses × List Tok)}
    → i < end → first_is is_clause_key tokens ≡ true → Fails error (clause_at tokens)
    → GoesClauses (end - i) found tokens total → Fails error total
unfolding more_clauses
clause_is_wrong error.NoMemory lt begins clause goes = tt
clause_is_wrong error.Bad {end = end} {i = i} {found = found} {tokens = tokens} lt begins clause goes =
    let k : end - i ≡ suc (end - (i + 1)) = omega arith in
    let one : more_clauses (end - i) found tokens ≡ None = rw (k, begins, clause) refl in
    sym goes.is ∙ one

pub clause_is_twice : (error : SyntaxError) {end i : ℕ} {found : Clauses} {tokens : List Tok} (x : Clause × List Tok) {total : Option (Clauses × List Tok)}
    → i < end → first_is is_clause_key tokens ≡ true → clause_at tokens ≡ Some x → with_clause found x.0 ≡ None
    → GoesClauses (end - i) found tokens total → Fails error total
unfolding more_clauses
clause_is_twice error.NoMemory x lt begins clause twice goes = tt
clause_is_twice error.Bad {end = end} {i = i} {found = found} {tokens = tokens} x lt begins clause twice goes =
    let k : end - i ≡ suc (end - (i + 1)) = omega arith in
    let one : more_clauses (end - i) found tokens ≡ None = rw (k, begins, clause, twice) refl in
    sym goes.is ∙ one

pub clauses_run_out : {end i : ℕ} {found : Clauses} {tokens : List Tok} {total : Option (Clauses × List Tok)}
    → end ≤ i → GoesClauses (end - i) found tokens total → total ≡ Some (found, tokens)
unfolding more_clauses
clauses_run_out {end = end} {i = i} {found = found} {tokens = tokens} le goes =
    let k : end - i ≡ 0 = omega arith in
    let one : more_clauses (end - i) found tokens ≡ Some (found, tokens) = rw k refl in
    sym goes.is ∙ one

pub no_clause_begins : {end i : ℕ} {found : Clauses} {tokens : List Tok} {total : Option (Clauses × List Tok)}
    → i < end → first_is is_clause_key tokens ≡ false → GoesClauses (end - i) found tokens total → total ≡ Some (found, tokens)
unfolding more_clauses
no_clause_begins {end = end} {i = i} {found = found} {tokens = tokens} lt none goes =
    let k : end - i ≡ suc (end - (i + 1)) = omega arith in
    let one : more_clauses (end - i) found tokens ≡ Some (found, tokens) = rw (k, none) refl in
    sym goes.is ∙ one
