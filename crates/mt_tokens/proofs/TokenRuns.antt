-- The tokens of a text, one after the other.
use Rattle.std.proofs.Common.{◌≡◌, ℕ, ◌+◌, ◌<◌, ◌≤◌, Bool, true, List, [], ◌∷◌, ◌++◌, length, take, drop, eqb, Option, Some, None, option_map, refl, sym, ap, subst, ◌∙◌, append_assoc, length-drop, arith}
use Rattle.std.specs.List.{prefix_len}
use Rattle.std.specs.Char.{is_ascii_digit}
use Rattle.std.proofs.lemmas.Bool.{cond_both, or_left}
use Rattle.std.proofs.lemmas.List.{append-nil}
use Rattle.std.specs.Prelude.{position, ◌==◌}
use Rattle.mt_tokens.specs.declared.ascii.TheConstants.{QUOTE, BACKQUOTE}
use Rattle.mt_tokens.specs.declared.sign.Sign.{Sign}
use Rattle.mt_types.specs.Words.{is_word_start, is_word_byte, is_name}
use Rattle.mt_tokens.specs.Bytes.{is_blank}
use Rattle.mt_tokens.specs.Tokens.{Tok, Word, Quoted, Digits, OfSign}
use Rattle.mt_tokens.specs.Texts.{text_len}
use Rattle.mt_tokens.specs.Signs.{double_sign, single_sign, sign_or, sign_at}
use Rattle.mt_tokens.specs.Lexis.{run_of, text_of_len, name_of_len, token_at, skip_blanks, AreTokens, IsTokens}

-- what was read of a text, and what is left of it: any tokens of the rest complete it, and any
-- tokens of the text go on from it
pub record Reads (text : List ℕ) (front : List Tok) (rest : List ℕ) : Type 0 where
  pub completes : (more : List Tok) → AreTokens rest more → IsTokens text (front ++ more)
  pub goes_on : (tokens : List Tok) → IsTokens text tokens → (more : List Tok) × (tokens ≡ front ++ more) × AreTokens rest more

pub no_token_of_none : (rest : List ℕ) (token : Tok) (after : List ℕ) → rest ≡ [] → token_at rest ≡ Some (token, after) → ⊥
unfolding token_at
no_token_of_none rest token after none e = let k = sym (ap token_at none) ∙ e in cc

module _ (text rest : List ℕ) (front : List Tok) (token : Tok) (after : List ℕ) (here : token_at rest ≡ Some (token, after)) where
  next : (tokens more : List Tok) → tokens ≡ front ++ more → AreTokens rest more → (later : List Tok) × (tokens ≡ (front ++ token ∷ []) ++ later) × AreTokens (skip_blanks after) later
  next tokens [] e h = absurd (no_token_of_none rest token after h here)
  next tokens (other ∷ later) e h =
      let both : (let o : Option (Tok × List ℕ) = Some (other, h.0) in o) ≡ Some (token, after) = sym h.1 ∙ here in
      let same : (let p : Tok × List ℕ = (other, h.0) in p) ≡ (token, after) = cc in
      let made_is = ap (λ (p : Tok × List ℕ). p.0) same in
      let after_is = ap (λ (p : Tok × List ℕ). p.1) same in
      (later, e ∙ ap (λ (t : Tok). front ++ (t ∷ later)) made_is ∙ sym (append_assoc front (token ∷ []) later), subst (λ (r : List ℕ). AreTokens (skip_blanks r) later) after_is h.2)

  pub reads_more : Reads text front rest → Reads text (front ++ token ∷ []) (skip_blanks after)
  reads_more r = record {
    completes = λ more h. subst (λ (tokens : List Tok). IsTokens text tokens) (sym (append_assoc front (token ∷ []) more)) (r.completes (token ∷ more) (after, here, h));
    goes_on = λ tokens h. let g = r.goes_on tokens h in next tokens g.0 g.1 g.2;
  }

pub reads_end : (text : List ℕ) (front : List Tok) → Reads text front [] → IsTokens text front
reads_end text front r = subst (λ (tokens : List Tok). IsTokens text tokens) (append-nil front) (r.completes [] refl)

none_are_left : (front tokens more : List Tok) → tokens ≡ front ++ more → AreTokens [] more → tokens ≡ front
unfolding token_at
none_are_left front tokens [] e h = e ∙ append-nil front
none_are_left front tokens (token ∷ more) e h = absurd (let k = h.1 in cc)

pub reads_only : (text : List ℕ) (front tokens : List Tok) → Reads text front [] → IsTokens text tokens → tokens ≡ front
reads_only text front tokens r h = let g = r.goes_on tokens h in none_are_left front tokens g.0 g.1 g.2

stuck : (rest : List ℕ) (more : List Tok) → (length rest ≡ 0 → ⊥) → token_at rest ≡ None → AreTokens rest more → ⊥
stuck rest [] some e h = some (ap length h)
stuck rest (token ∷ more) some e h = let k = sym e ∙ h.1 in cc

pub reads_stuck : (text rest : List ℕ) (front tokens : List Tok) → (length rest ≡ 0 → ⊥) → token_at rest ≡ None → Reads text front rest → IsTokens text tokens → ⊥
reads_stuck text rest front tokens some e r h = let g = r.goes_on tokens h in stuck rest g.0 some e g.2

-- ---- a token takes at least a byte

abbrev AtMost : {X : Type 0} → ℕ → Option (X × List ℕ) → Type 0
AtMost most None = Unit {0}
AtMost most (Some x) = length x.1 ≤ most

sign_or_at_most : (most : ℕ) (o : Option Sign) (rest : List ℕ) (other : Option (Sign × List ℕ)) → length rest ≤ most → AtMost most other → AtMost most (sign_or o rest other)
sign_or_at_most most None rest other below h = h
sign_or_at_most most (Some sign) rest other below h = below

sign_shorter : (c : ℕ) (rest : List ℕ) → AtMost (length rest) (sign_at (c ∷ rest))
sign_shorter c [] = sign_or_at_most (length (let none : List ℕ = [] in none)) (single_sign c) [] None (omega arith) tt
sign_shorter c (d ∷ rest) =
    sign_or_at_most (length (d ∷ rest)) (double_sign c d) rest (sign_or (single_sign c) (d ∷ rest) None) (omega arith)
    (sign_or_at_most (length (d ∷ rest)) (single_sign c) (d ∷ rest) None (omega arith) tt)

of_sign_shorter : (most : ℕ) (o : Option (Sign × List ℕ)) → AtMost most o → AtMost most (option_map (λ x. (let t : Tok = OfSign x.0 in t, x.1)) o)
of_sign_shorter most None h = tt
of_sign_shorter most (Some x) h = h

text_shorter : (rest : List ℕ) (count : Option ℕ) → AtMost (length rest) (text_of_len rest count)
text_shorter rest None = tt
text_shorter rest (Some count) = omega (arith, length-drop 1 (drop count rest), length-drop count rest)

name_shorter : (rest : List ℕ) (count : Option ℕ) → AtMost (length rest) (name_of_len rest count)
name_shorter rest None = tt
name_shorter rest (Some count) =
    let P : Option (Tok × List ℕ) → Type 0 = λ o. AtMost (length rest) o in
    cond_both (is_name (take count rest)) (Some (Quoted (take count rest), drop 1 (drop count rest))) None P (λ h. omega (arith, length-drop 1 (drop count rest), length-drop count rest)) (λ h. tt)

run_shorter : (make : List ℕ → Tok) (test : ℕ → Bool) (c : ℕ) (rest : List ℕ) → test c ≡ true → AtMost (length rest) (run_of make test (c ∷ rest))
run_shorter make test c rest passes =
    let k : prefix_len test (c ∷ rest) ≡ 1 + prefix_len test rest = rw passes refl in
    omega (arith, k, length-drop (prefix_len test (c ∷ rest)) (c ∷ rest))

token_shorter : (c : ℕ) (rest : List ℕ) → AtMost (length rest) (token_at (c ∷ rest))
unfolding token_at
token_shorter c rest =
    let P : Option (Tok × List ℕ) → Type 0 = λ o. AtMost (length rest) o in
    cond_both (is_word_start c) _ _ P (λ h. run_shorter Word is_word_byte c rest (or_left (is_word_start c) (is_ascii_digit c) h)) (λ h.
    cond_both (is_ascii_digit c) _ _ P (λ h. run_shorter Digits is_ascii_digit c rest h) (λ h.
    cond_both (eqb c QUOTE) _ _ P (λ h. text_shorter rest (text_len rest)) (λ h.
    cond_both (eqb c BACKQUOTE) _ _ P (λ h. name_shorter rest (position (λ d. d == BACKQUOTE) rest)) (λ h.
    of_sign_shorter (length rest) (sign_at (c ∷ rest)) (sign_shorter c rest)))))

pub shorter : (text : List ℕ) (token : Tok) (after : List ℕ) → token_at text ≡ Some (token, after) → length (skip_blanks after) < length text
unfolding token_at
shorter [] token after e = absurd cc
shorter (c ∷ rest) token after e =
    let P : Option (Tok × List ℕ) → Type 0 = λ o. AtMost (length rest) o in
    let k : length after ≤ length rest = subst P e (token_shorter c rest) in
    omega (arith, k, length-drop (prefix_len is_blank after) after)
