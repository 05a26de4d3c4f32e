-- Items behind commas, as a loop reads them.
use Rattle.std.proofs.Common.{◌≡◌, ℕ, suc, ◌+◌, ◌-◌, ◌<◌, ◌≤◌, List, [], ◌∷◌, ◌++◌, Option, Some, None, refl, sym, ◌∙◌, arith}
use Rattle.mt_tokens.specs.Tokens.{Tok}
use Rattle.mt_tokens.specs.Splits.{after_if}
use Rattle.mt_tokens.specs.Words.{is_sign}
use Rattle.mt_tokens.specs.declared.sign.Sign.TheVariants.{Comma}
use Rattle.mt_phrases.specs.declared.error.SyntaxError.{SyntaxError}
use Rattle.mt_phrases.specs.declared.error.SyntaxError.TheVariants as error
use Rattle.mt_phrases.specs.Readers.{Reader, more}
use Rattle.mt_phrases.specs.Answers.{Fails}

-- what is left to read gives the whole
pub record Goes {A : Type 0} (p : Reader A) (left : ℕ) (found : List A) (tokens : List Tok) (total : Option (List A × List Tok)) : Type 0 where
  pub is : more p left found tokens ≡ total

pub goes_on : {A : Type 0} (p : Reader A) {end i : ℕ} {found : List A} {tokens after : List Tok} (x : A × List Tok) {total : Option (List A × List Tok)}
    → i < end → after_if (is_sign Comma) tokens ≡ Some after → p after ≡ Some x
    → Goes p (end - i) found tokens total → Goes p (end - (i + 1)) (found ++ x.0 ∷ []) x.1 total
unfolding more
goes_on p {end = end} {i = i} {found = found} {tokens = tokens} x lt comma item goes =
    let k : end - i ≡ suc (end - (i + 1)) = omega arith in
    let one : more p (end - i) found tokens ≡ more p (end - (i + 1)) (found ++ x.0 ∷ []) x.1 = rw (k, comma, item) refl in
    record { is = sym one ∙ goes.is }

pub goes_wrong : {A : Type 0} (error : SyntaxError) (p : Reader A) {end i : ℕ} {found : List A} {tokens after : List Tok} {total : Option (List A × List Tok)}
    → i < end → after_if (is_sign Comma) tokens ≡ Some after → Fails error (p after)
    → Goes p (end - i) found tokens total → Fails error total
unfolding more
goes_wrong error.NoMemory p lt comma item goes = tt
goes_wrong error.Bad p {end = end} {i = i} {found = found} {tokens = tokens} lt comma item goes =
    let k : end - i ≡ suc (end - (i + 1)) = omega arith in
    let one : more p (end - i) found tokens ≡ None = rw (k, comma, item) refl in
    sym goes.is ∙ one

pub goes_out : {A : Type 0} (p : Reader A) {end i : ℕ} {found : List A} {tokens : List Tok} {total : Option (List A × List Tok)}
    → end ≤ i → Goes p (end - i) found tokens total → total ≡ Some (found, tokens)
unfolding more
goes_out p {end = end} {i = i} {found = found} {tokens = tokens} le goes =
    let k : end - i ≡ 0 = omega arith in
    let one : more p (end - i) found tokens ≡ Some (found, tokens) = rw k refl in
    sym goes.is ∙ one

pub goes_no_more : {A : Type 0} (p : Reader A) {end i : ℕ} {found : List A} {tokens : List Tok} {total : Option (List A × List Tok)}
    → i < end → after_if (is_sign Comma) tokens ≡ None → Goes p (end - i) found tokens total → total ≡ Some (found, tokens)
unfolding more
goes_no_more p {end = end} {i = i} {found = found} {tokens = tokens} lt none goes =
    let k : end - i ≡ suc (end - (i + 1)) = omega arith in
    let one : more p (end - i) found tokens ≡ Some (found, tokens) = rw (k, none) refl in
    sym goes.is ∙ one
