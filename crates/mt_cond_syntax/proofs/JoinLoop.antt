-- Phrases behind a keyword, as a loop joins them.
use Rattle.std.proofs.Common.{◌≡◌, ℕ, suc, ◌+◌, ◌-◌, ◌<◌, ◌≤◌, Bool, List, Option, Some, None, refl, sym, ◌∙◌, arith}
use Rattle.mt_tokens.specs.Tokens.{Tok}
use Rattle.mt_tokens.specs.Splits.{after_if}
use Rattle.mt_phrases.specs.declared.error.SyntaxError.{SyntaxError}
use Rattle.mt_phrases.specs.declared.error.SyntaxError.TheVariants as error
use Rattle.mt_phrases.specs.Answers.{Fails}
use Rattle.mt_phrases.specs.Readers.{Reader}
use Rattle.mt_cond_syntax.specs.Joins.{joins}

-- what is left to read gives the whole
pub record GoesJoining {A : Type 0} (word : Tok → Bool) (join : A → A → A) (p : Reader A) (left : ℕ) (found : A) (tokens : List Tok) (total : Option (A × List Tok)) : Type 0 where
  pub is : joins word join p left found tokens ≡ total

module _ {A : Type 0} (word : Tok → Bool) (join : A → A → A) (p : Reader A) {end i : ℕ} {found : A} {tokens : List Tok} {total : Option (A × List Tok)} where
  pub joins_on : {after : List Tok} (x : A × List Tok) → i < end → after_if word tokens ≡ Some after → p after ≡ Some x
      → GoesJoining word join p (end - i) found tokens total → GoesJoining word join p (end - (i + 1)) (join found x.0) x.1 total
  unfolding joins
  joins_on x lt here item goes =
      let k : end - i ≡ suc (end - (i + 1)) = omega arith in
      let one : joins word join p (end - i) found tokens ≡ joins word join p (end - (i + 1)) (join found x.0) x.1 = rw (k, here, item) refl in
      record { is = sym one ∙ goes.is }

  pub joins_wrong : {after : List Tok} (error : SyntaxError) → i < end → after_if word tokens ≡ Some after → Fails error (p after)
      → GoesJoining word join p (end - i) found tokens total → Fails error total
  unfolding joins
  joins_wrong error.NoMemory lt here item goes = tt
  joins_wrong error.Bad lt here item goes =
      let k : end - i ≡ suc (end - (i + 1)) = omega arith in
      let one : joins word join p (end - i) found tokens ≡ None = rw (k, here, item) refl in
      sym goes.is ∙ one

  pub joins_out : end ≤ i → GoesJoining word join p (end - i) found tokens total → total ≡ Some (found, tokens)
  unfolding joins
  joins_out le goes =
      let k : end - i ≡ 0 = omega arith in
      let one : joins word join p (end - i) found tokens ≡ Some (found, tokens) = rw k refl in
      sym goes.is ∙ one

  pub joins_no_more : i < end → after_if word tokens ≡ None → GoesJoining word join p (end - i) found tokens total → total ≡ Some (found, tokens)
  unfolding joins
  joins_no_more lt none goes =
      let k : end - i ≡ suc (end - (i + 1)) = omega arith in
      let one : joins word join p (end - i) found tokens ≡ Some (found, tokens) = rw (k, none) refl in
      sym goes.is ∙ one
