-- What a test that passes, or what was taken off the front, tells of tokens.
use Rattle.std.proofs.Common.{◌≡◌, ℕ, Bool, true, List, [], ◌∷◌, Option, Some, None, option_map, refl, sym, ap, ◌∙◌, if◌then◌else◌, inl, inr}
use Rattle.std.specs.Prelude.{◌==◌}
use Rattle.std.proofs.lemmas.Bool.{cases_Bool, eqb-true}
use Rattle.mt_tokens.specs.declared.sign.Sign.{Sign}
use Rattle.mt_tokens.specs.declared.sign.Sign.TheVariants.{Open, Close, Comma, Dot, Semicolon, Star, Minus, Equal, NotEqual, Less, LessEqual, Greater, GreaterEqual}
use Rattle.mt_tokens.specs.Tokens.{Tok, Word, Quoted, Text, Digits, OfSign}
use Rattle.mt_tokens.specs.Words.{sign_rank, is_sign, name_of}
use Rattle.mt_tokens.specs.Numbers.{number_of}
use Rattle.mt_tokens.specs.Splits.{after_if, after_sign, split_name, split_number}

-- ---- signs

sign_at_rank : ℕ → Sign
sign_at_rank n =
    if n == 0 then Open else if n == 1 then Close else if n == 2 then Comma else if n == 3 then Dot
    else if n == 4 then Semicolon else if n == 5 then Star else if n == 6 then Minus
    else if n == 7 then Equal else if n == 8 then NotEqual else if n == 9 then Less
    else if n == 10 then LessEqual else if n == 11 then Greater else GreaterEqual

sign_at_its_rank : (sign : Sign) → sign_at_rank (sign_rank sign) ≡ sign
unfolding sign_at_rank
sign_at_its_rank Open = refl
sign_at_its_rank Close = refl
sign_at_its_rank Comma = refl
sign_at_its_rank Dot = refl
sign_at_its_rank Semicolon = refl
sign_at_its_rank Star = refl
sign_at_its_rank Minus = refl
sign_at_its_rank Equal = refl
sign_at_its_rank NotEqual = refl
sign_at_its_rank Less = refl
sign_at_its_rank LessEqual = refl
sign_at_its_rank Greater = refl
sign_at_its_rank GreaterEqual = refl

pub same_rank_same_sign : (a b : Sign) → sign_rank a ≡ sign_rank b → a ≡ b
same_rank_same_sign a b e = sym (sign_at_its_rank a) ∙ ap sign_at_rank e ∙ sign_at_its_rank b

-- a token that passes the test for a sign is that sign
pub is_sign_true : (sign : Sign) (token : Tok) → is_sign sign token ≡ true → token ≡ OfSign sign
is_sign_true sign (OfSign found) e = ap (λ (s : Sign). let t : Tok = OfSign s in t) (same_rank_same_sign found sign (eqb-true (sign_rank found) (sign_rank sign) e))
is_sign_true sign (Word w) e = absurd cc
is_sign_true sign (Quoted w) e = absurd cc
is_sign_true sign (Text w) e = absurd cc
is_sign_true sign (Digits w) e = absurd cc

pub is_sign_of_sign : (sign : Sign) → is_sign sign (OfSign sign) ≡ true
is_sign_of_sign Open = refl
is_sign_of_sign Close = refl
is_sign_of_sign Comma = refl
is_sign_of_sign Dot = refl
is_sign_of_sign Semicolon = refl
is_sign_of_sign Star = refl
is_sign_of_sign Minus = refl
is_sign_of_sign Equal = refl
is_sign_of_sign NotEqual = refl
is_sign_of_sign Less = refl
is_sign_of_sign LessEqual = refl
is_sign_of_sign Greater = refl
is_sign_of_sign GreaterEqual = refl

-- ---- taken off the front

-- what was taken off passes the test: for after_keyword, after_word and after_sign
pub after_if_some : (test : Tok → Bool) (tokens rest : List Tok) → after_if test tokens ≡ Some rest → (token : Tok) × (tokens ≡ token ∷ rest) × (test token ≡ true)
after_if_some test [] rest e = absurd cc
after_if_some test (token ∷ others) rest e =
    elim (cases_Bool (test token)) [
      | inl passes ↦
          let one : (let o : Option (List Tok) = Some others in o) ≡ Some rest = rw passes at e in
          let same : others ≡ rest = cc in
          (token, ap (λ (ts : List Tok). token ∷ ts) same, passes)
      | inr fails ↦ absurd (let one : (let o : Option (List Tok) = None in o) ≡ Some rest = rw fails at e in cc)
    ]

pub after_if_passes : (test : Tok → Bool) (token : Tok) (rest : List Tok) → test token ≡ true → after_if test (token ∷ rest) ≡ Some rest
after_if_passes test token rest passes = rw passes refl

pub after_sign_some : (sign : Sign) (tokens rest : List Tok) → after_sign sign tokens ≡ Some rest → tokens ≡ OfSign sign ∷ rest
after_sign_some sign tokens rest e =
    let found = after_if_some (is_sign sign) tokens rest e in
    found.1 ∙ ap (λ (t : Tok). t ∷ rest) (is_sign_true sign found.0 found.2)

pub after_sign_of_sign : (sign : Sign) (rest : List Tok) → after_sign sign (OfSign sign ∷ rest) ≡ Some rest
after_sign_of_sign sign rest = after_if_passes (is_sign sign) (OfSign sign) rest (is_sign_of_sign sign)

named : (o : Option (List ℕ)) (others : List Tok) (name : List ℕ) (rest : List Tok) → option_map {U = List ℕ × List Tok} (λ n. (n, others)) o ≡ Some (name, rest) → (o ≡ Some name) × (others ≡ rest)
named None others name rest e = absurd cc
named (Some found) others name rest e =
    let same : (let p : List ℕ × List Tok = (found, others) in p) ≡ (name, rest) = cc in
    (ap (λ (p : List ℕ × List Tok). let o : Option (List ℕ) = Some p.0 in o) same, ap (λ (p : List ℕ × List Tok). p.1) same)

pub split_name_some : (tokens : List Tok) (name : List ℕ) (rest : List Tok) → split_name tokens ≡ Some (name, rest) → (token : Tok) × (tokens ≡ token ∷ rest) × (name_of token ≡ Some name)
split_name_some [] name rest e = absurd cc
split_name_some (token ∷ others) name rest e =
    let found = named (name_of token) others name rest e in
    (token, ap (λ (ts : List Tok). token ∷ ts) found.1, found.0)

pub split_name_of_name : (token : Tok) (name : List ℕ) (rest : List Tok) → name_of token ≡ Some name → split_name (token ∷ rest) ≡ Some (name, rest)
split_name_of_name token name rest is = rw is refl

numbered : (o : Option ℕ) (others : List Tok) (number : ℕ) (rest : List Tok) → option_map {U = ℕ × List Tok} (λ n. (n, others)) o ≡ Some (number, rest) → (o ≡ Some number) × (others ≡ rest)
numbered None others number rest e = absurd cc
numbered (Some found) others number rest e =
    let same : (let p : ℕ × List Tok = (found, others) in p) ≡ (number, rest) = cc in
    (ap (λ (p : ℕ × List Tok). let o : Option ℕ = Some p.0 in o) same, ap (λ (p : ℕ × List Tok). p.1) same)

pub split_number_some : (tokens : List Tok) (number : ℕ) (rest : List Tok) → split_number tokens ≡ Some (number, rest) → (digits : List ℕ) × (tokens ≡ Digits digits ∷ rest) × (number_of digits ≡ Some number)
split_number_some [] number rest e = absurd cc
split_number_some (Word w ∷ others) number rest e = absurd cc
split_number_some (Quoted w ∷ others) number rest e = absurd cc
split_number_some (Text w ∷ others) number rest e = absurd cc
split_number_some (OfSign s ∷ others) number rest e = absurd cc
split_number_some (Digits digits ∷ others) number rest e =
    let found = numbered (number_of digits) others number rest e in
    (digits, ap (λ (ts : List Tok). Digits digits ∷ ts) found.1, found.0)

pub split_number_of_digits : (digits : List ℕ) (number : ℕ) (rest : List Tok) → number_of digits ≡ Some number → split_number (Digits digits ∷ rest) ≡ Some (number, rest)
split_number_of_digits digits number rest is = rw is refl
