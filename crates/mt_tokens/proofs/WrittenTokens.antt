-- A token as it is written is read, whatever follows it, or a longer one.
use Rattle.std.proofs.Common.{◌≡◌, ℕ, suc, ◌+◌, ◌<◌, ◌≤◌, Bool, true, false, not, eqb, List, [], ◌∷◌, ◌++◌, length, take, drop, Option, Some, None, option_map, refl, sym, ap, ◌∙◌, append_assoc, length-drop, arith, inl, inr}
use Rattle.std.specs.Prelude.{position, ◌==◌, nat_le}
use Rattle.std.specs.List.{prefix_len, list_all}
use Rattle.std.specs.Char.{is_ascii_digit}
use Rattle.std.proofs.lemmas.Bool.{cases_Bool, or_left, and_parts, lt-ltb}
use Rattle.std.proofs.lemmas.Bool.Decides.{nat_tests}
use Rattle.std.proofs.lemmas.List.{append-nil, length-append}
use Rattle.mt_tokens.specs.declared.ascii.TheConstants.{QUOTE, BACKQUOTE, BACKSLASH}
use Rattle.mt_tokens.specs.declared.sign.Sign.{Sign}
use Rattle.mt_tokens.specs.declared.sign.Sign.TheVariants.{Open, Close, Comma, Dot, Semicolon, Star, Minus, Equal, NotEqual, Less, LessEqual, Greater, GreaterEqual}
use Rattle.mt_types.specs.Words.{is_word_start, is_word_byte, is_word_text, is_name}
use Rattle.mt_tokens.specs.Tokens.{Tok, Word, Quoted, Text, Digits, OfSign}
use Rattle.mt_tokens.specs.Texts.{is_escape, plus, text_len, escape_len}
use Rattle.mt_tokens.specs.Signs.{double_sign, single_sign, sign_or, sign_at}
use Rattle.mt_tokens.specs.Lexis.{run_of, token_at}
use Rattle.mt_tokens.specs.Writing.{is_digit_text, is_quotable, is_quotable_escape, IsSign, IsWritten}

-- ---- runs

take_front : (front rest : List ℕ) (more : ℕ) → take (length front + more) (front ++ rest) ≡ front ++ take more rest
take_front [] rest more = let k : 0 + more ≡ more = omega arith in rw k refl
take_front (c ∷ front) rest more =
    let k : suc (length front) + more ≡ suc (length front + more) = omega arith in
    rw k (ap (λ (t : List ℕ). c ∷ t) (take_front front rest more))

drop_front : (front rest : List ℕ) (more : ℕ) → drop (length front + more) (front ++ rest) ≡ drop more rest
drop_front [] rest more = let k : 0 + more ≡ more = omega arith in rw k refl
drop_front (c ∷ front) rest more =
    let k : suc (length front) + more ≡ suc (length front + more) = omega arith in
    rw k (drop_front front rest more)

run_front : (test : ℕ → Bool) (front rest : List ℕ) → list_all test front ≡ true → prefix_len test (front ++ rest) ≡ length front + prefix_len test rest
run_front test [] rest all = omega arith
run_front test (c ∷ front) rest all =
    let both = and_parts (test c) (list_all test front) all in
    let k : 1 + (length front + prefix_len test rest) ≡ suc (length front) + prefix_len test rest = omega arith in
    rw both.0 (ap (λ (n : ℕ). 1 + n) (run_front test front rest both.1) ∙ k)

-- a run that such bytes begin goes on as far as it can
run_of_front : (make : List ℕ → Tok) (test : ℕ → Bool) (front rest : List ℕ) → list_all test front ≡ true
    → run_of make test (front ++ rest) ≡ Some (make (front ++ take (prefix_len test rest) rest), drop (prefix_len test rest) rest)
run_of_front make test front rest all =
    rw (run_front test front rest all, take_front front rest (prefix_len test rest), drop_front front rest (prefix_len test rest)) refl

word_begins : (c : ℕ) (rest : List ℕ) → is_word_start c ≡ true → token_at (c ∷ rest) ≡ run_of Word is_word_byte (c ∷ rest)
unfolding token_at
word_begins c rest start = rw start refl

digits_begin : (c : ℕ) (rest : List ℕ) → is_word_start c ≡ false → is_ascii_digit c ≡ true → token_at (c ∷ rest) ≡ run_of Digits is_ascii_digit (c ∷ rest)
unfolding token_at
digits_begin c rest no_word digit = rw (no_word, digit) refl

word_at : (word rest : List ℕ) → is_word_text word ≡ true → token_at (word ++ rest) ≡ Some (Word (word ++ take (prefix_len is_word_byte rest) rest), drop (prefix_len is_word_byte rest) rest)
word_at [] rest is = absurd cc
word_at (c ∷ word) rest is =
    let both = and_parts (is_word_start c) (list_all is_word_byte word) is in
    let first : is_word_byte c ≡ true = or_left (is_word_start c) (is_ascii_digit c) both.0 in
    let all : list_all is_word_byte (c ∷ word) ≡ true = rw (first, both.1) refl in
    word_begins c (word ++ rest) both.0 ∙ (run_of_front Word is_word_byte (c ∷ word) rest all)

digit_is_no_word_start : (c : ℕ) → is_ascii_digit c ≡ true → is_word_start c ≡ false
digit_is_no_word_start c is = grind (arith, nat_tests)

digits_at : (digits rest : List ℕ) → is_digit_text digits ≡ true → token_at (digits ++ rest) ≡ Some (Digits (digits ++ take (prefix_len is_ascii_digit rest) rest), drop (prefix_len is_ascii_digit rest) rest)
digits_at [] rest is = absurd cc
digits_at (c ∷ digits) rest is =
    let both = and_parts (is_ascii_digit c) (list_all is_ascii_digit digits) is in
    let all : list_all is_ascii_digit (c ∷ digits) ≡ true = rw (both.0, both.1) refl in
    digits_begin c (digits ++ rest) (digit_is_no_word_start c both.0) both.0 ∙ (run_of_front Digits is_ascii_digit (c ∷ digits) rest all)

-- ---- texts

plus_one : (n : ℕ) → plus 1 (Some n) ≡ Some (suc n)
plus_one n = ap (λ (k : ℕ). let o : Option ℕ = Some k in o) (omega arith)

plus_two : (n : ℕ) → plus 2 (Some n) ≡ Some (suc (suc n))
plus_two n = ap (λ (k : ℕ). let o : Option ℕ = Some k in o) (omega arith)

false_is_not_true : {P : Type 0} → false ≡ true → P
false_is_not_true e = absurd cc

mutual
  unfolding is_quotable is_quotable_escape text_len escape_len

  text_to_quote : (text rest : List ℕ) → is_quotable text ≡ true → text_len (text ++ QUOTE ∷ rest) ≡ Some (length text)
  text_to_quote [] rest is = refl
  text_to_quote (c ∷ text) rest is =
      elim (cases_Bool (eqb c QUOTE)) [
        | inl quote ↦ false_is_not_true (rw quote at is)
        | inr other ↦
            elim (cases_Bool (eqb c BACKSLASH)) [
              | inl backslash ↦ rw (other, backslash) (escape_to_quote text rest (rw (other, backslash) at is))
              | inr plain ↦ rw (other, plain) (ap (plus 1) (text_to_quote text rest (rw (other, plain) at is)) ∙ plus_one (length text))
            ]
      ]

  escape_to_quote : (text rest : List ℕ) → is_quotable_escape text ≡ true → escape_len (text ++ QUOTE ∷ rest) ≡ Some (suc (length text))
  escape_to_quote [] rest is = absurd cc
  escape_to_quote (letter ∷ text) rest is =
      elim (cases_Bool (is_escape letter)) [
        | inl good ↦ rw good (ap (plus 2) (text_to_quote text rest (rw good at is)) ∙ plus_two (length text))
        | inr bad ↦ false_is_not_true (rw bad at is)
      ]

pub take_all_front : (front rest : List ℕ) → take (length front) (front ++ rest) ≡ front
take_all_front [] rest = refl
take_all_front (c ∷ front) rest = ap (λ (t : List ℕ). c ∷ t) (take_all_front front rest)

pub drop_all_front : (front rest : List ℕ) → drop (length front) (front ++ rest) ≡ rest
drop_all_front [] rest = refl
drop_all_front (c ∷ front) rest = drop_all_front front rest

text_is_read : (text rest : List ℕ) → is_quotable text ≡ true → token_at (QUOTE ∷ (text ++ QUOTE ∷ rest)) ≡ Some (Text text, rest)
unfolding token_at
text_is_read text rest is =
    rw (text_to_quote text rest is, take_all_front text (QUOTE ∷ rest), drop_all_front text (QUOTE ∷ rest)) refl

-- ---- names in backquotes

word_byte_is_no_backquote : (c : ℕ) → is_word_byte c ≡ true → not (eqb c BACKQUOTE) ≡ true
word_byte_is_no_backquote c is = grind (arith, nat_tests)

abbrev is_no_backquote : ℕ → Bool
is_no_backquote c = not (c == BACKQUOTE)

no_backquotes : (text : List ℕ) → list_all is_word_byte text ≡ true → list_all is_no_backquote text ≡ true
no_backquotes [] all = refl
no_backquotes (c ∷ text) all =
    let both = and_parts (is_word_byte c) (list_all is_word_byte text) all in
    rw (word_byte_is_no_backquote c both.0) (no_backquotes text both.1)

word_bytes : (word : List ℕ) → is_word_text word ≡ true → list_all is_word_byte word ≡ true
word_bytes [] is = absurd cc
word_bytes (c ∷ word) is =
    let both = and_parts (is_word_start c) (list_all is_word_byte word) is in
    let first : is_word_byte c ≡ true = or_left (is_word_start c) (is_ascii_digit c) both.0 in
    rw (first, both.1) refl

to_backquote : (name rest : List ℕ) → is_name name ≡ true → position (λ c. c == BACKQUOTE) (name ++ BACKQUOTE ∷ rest) ≡ Some (length name)
to_backquote name rest is =
    let all = no_backquotes name (word_bytes name (and_parts (is_word_text name) (nat_le (length name) 64) is).0) in
    let far : prefix_len is_no_backquote (name ++ BACKQUOTE ∷ rest) ≡ length name + 0 = run_front is_no_backquote name (BACKQUOTE ∷ rest) all in
    let k : length name + 0 ≡ length name = omega arith in
    let within : length name < length (name ++ BACKQUOTE ∷ rest) = omega (arith, length-append name (BACKQUOTE ∷ rest)) in
    rw (far, k, lt-ltb _ _ within) refl

name_is_read : (name rest : List ℕ) → is_name name ≡ true → token_at (BACKQUOTE ∷ (name ++ BACKQUOTE ∷ rest)) ≡ Some (Quoted name, rest)
unfolding token_at
name_is_read name rest is =
    rw (to_backquote name rest is, take_all_front name (BACKQUOTE ∷ rest), is, drop_all_front name (BACKQUOTE ∷ rest)) refl

-- ---- signs

-- what was read leaves at most so many bytes
abbrev pub Leaves : {X : Type 0} → ℕ → Option (X × List ℕ) → Type 0
Leaves most None = ⊥
Leaves most (Some x) = length x.1 ≤ most

leaves_sign_or : (most : ℕ) (o : Option Sign) (rest : List ℕ) (other : Option (Sign × List ℕ)) → length rest ≤ most → Leaves most other → Leaves most (sign_or o rest other)
leaves_sign_or most None rest other below h = h
leaves_sign_or most (Some sign) rest other below h = below

single_leaves : (c : ℕ) (sign : Sign) (rest : List ℕ) → single_sign c ≡ Some sign → Leaves (length rest) (sign_at (c ∷ rest))
single_leaves c sign [] is = rw is (omega arith)
single_leaves c sign (d ∷ rest) is =
    leaves_sign_or (length (d ∷ rest)) (double_sign c d) rest (sign_or (single_sign c) (d ∷ rest) None) (omega arith) (rw is (omega arith))

leaves_of_sign : (most : ℕ) (o : Option (Sign × List ℕ)) → Leaves most o → Leaves most (option_map (λ x. (let t : Tok = OfSign x.0 in t, x.1)) o)
leaves_of_sign most None h = h
leaves_of_sign most (Some x) h = h

-- a byte that begins a sign
sign_leaves : (c : ℕ) (sign : Sign) (rest : List ℕ) → is_word_start c ≡ false → is_ascii_digit c ≡ false → eqb c QUOTE ≡ false → eqb c BACKQUOTE ≡ false
    → single_sign c ≡ Some sign → Leaves (length rest) (token_at (c ∷ rest))
unfolding token_at
sign_leaves c sign rest no_word no_digit no_quote no_backquote is =
    rw (no_word, no_digit, no_quote, no_backquote) (leaves_of_sign (length rest) (sign_at (c ∷ rest)) (single_leaves c sign rest is))

double_leaves : (c d : ℕ) (sign : Sign) (rest : List ℕ) → is_word_start c ≡ false → is_ascii_digit c ≡ false → eqb c QUOTE ≡ false → eqb c BACKQUOTE ≡ false
    → double_sign c d ≡ Some sign → Leaves (length rest) (token_at (c ∷ d ∷ rest))
unfolding token_at
double_leaves c d sign rest no_word no_digit no_quote no_backquote is =
    rw (no_word, no_digit, no_quote, no_backquote, is) (omega arith)

written_sign_leaves : (sign : Sign) (bytes rest : List ℕ) → IsSign sign bytes → Leaves (length rest) (token_at (bytes ++ rest))
written_sign_leaves Open bytes rest is = rw is (sign_leaves 40 Open rest refl refl refl refl refl)
written_sign_leaves Close bytes rest is = rw is (sign_leaves 41 Close rest refl refl refl refl refl)
written_sign_leaves Comma bytes rest is = rw is (sign_leaves 44 Comma rest refl refl refl refl refl)
written_sign_leaves Dot bytes rest is = rw is (sign_leaves 46 Dot rest refl refl refl refl refl)
written_sign_leaves Semicolon bytes rest is = rw is (sign_leaves 59 Semicolon rest refl refl refl refl refl)
written_sign_leaves Star bytes rest is = rw is (sign_leaves 42 Star rest refl refl refl refl refl)
written_sign_leaves Minus bytes rest is = rw is (sign_leaves 45 Minus rest refl refl refl refl refl)
written_sign_leaves Equal bytes rest is = rw is (sign_leaves 61 Equal rest refl refl refl refl refl)
written_sign_leaves Less bytes rest is = rw is (sign_leaves 60 Less rest refl refl refl refl refl)
written_sign_leaves Greater bytes rest is = rw is (sign_leaves 62 Greater rest refl refl refl refl refl)
written_sign_leaves NotEqual bytes rest (inl is) = rw is (double_leaves 60 62 NotEqual rest refl refl refl refl refl)
written_sign_leaves NotEqual bytes rest (inr is) = rw is (double_leaves 33 61 NotEqual rest refl refl refl refl refl)
written_sign_leaves LessEqual bytes rest is = rw is (double_leaves 60 61 LessEqual rest refl refl refl refl refl)
written_sign_leaves GreaterEqual bytes rest is = rw is (double_leaves 62 61 GreaterEqual rest refl refl refl refl refl)

sign_is_read : (sign : Sign) (bytes : List ℕ) → IsSign sign bytes → token_at bytes ≡ Some (OfSign sign, [])
unfolding token_at
sign_is_read Open bytes is = rw is refl
sign_is_read Close bytes is = rw is refl
sign_is_read Comma bytes is = rw is refl
sign_is_read Dot bytes is = rw is refl
sign_is_read Semicolon bytes is = rw is refl
sign_is_read Star bytes is = rw is refl
sign_is_read Minus bytes is = rw is refl
sign_is_read Equal bytes is = rw is refl
sign_is_read Less bytes is = rw is refl
sign_is_read Greater bytes is = rw is refl
sign_is_read NotEqual bytes (inl is) = rw is refl
sign_is_read NotEqual bytes (inr is) = rw is refl
sign_is_read LessEqual bytes is = rw is refl
sign_is_read GreaterEqual bytes is = rw is refl

-- ---- all of them

quoted_whole : (q : ℕ) (inside rest : List ℕ) → (q ∷ (inside ++ q ∷ [])) ++ rest ≡ q ∷ (inside ++ q ∷ rest)
quoted_whole q inside rest = ap (λ (t : List ℕ). q ∷ t) (append_assoc inside (q ∷ []) rest)

-- a token that a text begins with is read, or a longer one
pub written_leaves : (token : Tok) (bytes rest : List ℕ) → IsWritten token bytes → Leaves (length rest) (token_at (bytes ++ rest))
written_leaves (Word word) bytes rest is =
    rw (is.1, word_at word rest is.0) (omega (arith, length-drop (prefix_len is_word_byte rest) rest))
written_leaves (Digits digits) bytes rest is =
    rw (is.1, digits_at digits rest is.0) (omega (arith, length-drop (prefix_len is_ascii_digit rest) rest))
written_leaves (Quoted name) bytes rest is = rw (is.1, quoted_whole BACKQUOTE name rest, name_is_read name rest is.0) (omega arith)
written_leaves (Text text) bytes rest is = rw (is.1, quoted_whole QUOTE text rest, text_is_read text rest is.0) (omega arith)
written_leaves (OfSign sign) bytes rest is = written_sign_leaves sign bytes rest is

-- a token that stands alone is read
pub written_is_read : (token : Tok) (bytes : List ℕ) → IsWritten token bytes → token_at bytes ≡ Some (token, [])
written_is_read (Word word) bytes is =
    rw is.1 (ap token_at (sym (append-nil word)) ∙ word_at word [] is.0 ∙ ap (λ (w : List ℕ). let o : Option (Tok × List ℕ) = Some (Word w, []) in o) (append-nil word))
written_is_read (Digits digits) bytes is =
    rw is.1 (ap token_at (sym (append-nil digits)) ∙ digits_at digits [] is.0 ∙ ap (λ (w : List ℕ). let o : Option (Tok × List ℕ) = Some (Digits w, []) in o) (append-nil digits))
written_is_read (Quoted name) bytes is = rw is.1 (name_is_read name [] is.0)
written_is_read (Text text) bytes is = rw is.1 (text_is_read text [] is.0)
written_is_read (OfSign sign) bytes is = sign_is_read sign bytes is
