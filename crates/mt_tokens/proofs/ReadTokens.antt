-- What is read at a place is a token that is written there.
use Rattle.std.proofs.Common.{◌≡◌, ℕ, suc, ◌+◌, Bool, true, false, eqb, cond, List, [], ◌∷◌, ◌++◌, get_or, take, drop, drop-cons, Option, Some, None, option_map, refl, sym, ap, ◌∙◌, append_assoc, arith, inl, inr}
use Rattle.std.specs.Prelude.{position, ◌==◌, ◌&&◌}
use Rattle.std.specs.List.{prefix_len, list_all}
use Rattle.std.specs.Char.{is_ascii_digit}
use Rattle.std.proofs.lemmas.Bool.{cases_Bool, cond_both, or_left, and_parts, eqb-true}
use Rattle.std.proofs.lemmas.List.{take-append-drop}
use Rattle.std.proofs.lemmas.List.Quantifiers.{position-Some}
use Rattle.mt_tokens.specs.declared.ascii.TheConstants.{QUOTE, BACKQUOTE, BACKSLASH}
use Rattle.mt_tokens.specs.declared.sign.Sign.{Sign}
use Rattle.mt_types.specs.Words.{is_word_start, is_word_byte, is_word_text, is_name}
use Rattle.mt_tokens.specs.Tokens.{Tok, Word, Quoted, Digits, OfSign}
use Rattle.mt_tokens.specs.Texts.{is_escape, plus, text_len, escape_len}
use Rattle.mt_tokens.specs.Signs.{double_sign, single_sign, sign_or, sign_at}
use Rattle.mt_tokens.specs.Lexis.{run_of, text_of_len, text_after_quote, name_of_len, quoted_at, token_at}
use Rattle.mt_tokens.specs.Writing.{is_digit_text, is_quotable, is_quotable_escape, IsSign, IsWritten}

-- what was read of a text is a token that it begins with
abbrev pub IsRead : List ℕ → Option (Tok × List ℕ) → Type 0
IsRead text None = Unit {0}
IsRead text (Some x) = (bytes : List ℕ) × (IsWritten x.0 bytes) × (text ≡ bytes ++ x.1)

-- ---- runs

run_passes : (test : ℕ → Bool) (text : List ℕ) → list_all test (take (prefix_len test text) text) ≡ true
run_passes test [] = refl
run_passes test (c ∷ text) =
    let k : 1 + prefix_len test text ≡ suc (prefix_len test text) = omega arith in
    elim (cases_Bool (test c)) [
      | inl passes ↦ rw (passes, k, passes) (run_passes test text)
      | inr fails ↦ rw fails refl
    ]

run_takes : (test : ℕ → Bool) (c : ℕ) (rest : List ℕ) → test c ≡ true → take (prefix_len test (c ∷ rest)) (c ∷ rest) ≡ c ∷ take (prefix_len test rest) rest
run_takes test c rest passes =
    let k : 1 + prefix_len test rest ≡ suc (prefix_len test rest) = omega arith in
    rw (passes, k) refl

word_is_read : (c : ℕ) (rest : List ℕ) → is_word_start c ≡ true → IsRead (c ∷ rest) (run_of Word is_word_byte (c ∷ rest))
word_is_read c rest start =
    let first : is_word_byte c ≡ true = or_left (is_word_start c) (is_ascii_digit c) start in
    let is : is_word_text (take (prefix_len is_word_byte (c ∷ rest)) (c ∷ rest)) ≡ true = ap is_word_text (run_takes is_word_byte c rest first) ∙ rw start (run_passes is_word_byte rest) in
    (take (prefix_len is_word_byte (c ∷ rest)) (c ∷ rest), (is, refl), sym (take-append-drop (prefix_len is_word_byte (c ∷ rest)) (c ∷ rest)))

digits_are_read : (c : ℕ) (rest : List ℕ) → is_ascii_digit c ≡ true → IsRead (c ∷ rest) (run_of Digits is_ascii_digit (c ∷ rest))
digits_are_read c rest digit =
    let is : is_digit_text (take (prefix_len is_ascii_digit (c ∷ rest)) (c ∷ rest)) ≡ true = ap is_digit_text (run_takes is_ascii_digit c rest digit) ∙ rw digit (run_passes is_ascii_digit rest) in
    (take (prefix_len is_ascii_digit (c ∷ rest)) (c ∷ rest), (is, refl), sym (take-append-drop (prefix_len is_ascii_digit (c ∷ rest)) (c ∷ rest)))

-- ---- what stands between two quotes of a kind

-- so many bytes on stands a quote of this kind
abbrev EndsWith : (quote : ℕ) → List ℕ → ℕ → Type 0
EndsWith quote text count = drop count text ≡ quote ∷ drop 1 (drop count text)

whole : (quote : ℕ) (text : List ℕ) (count : ℕ) → EndsWith quote text count → quote ∷ text ≡ (quote ∷ (take count text ++ quote ∷ [])) ++ drop 1 (drop count text)
whole quote text count ends =
    ap (λ (t : List ℕ). quote ∷ t)
    (sym (take-append-drop count text) ∙ ap (λ (t : List ℕ). take count text ++ t) ends ∙ sym (append_assoc (take count text) (quote ∷ []) (drop 1 (drop count text))))

-- a text of so many bytes ends at a quote
abbrev IsTextOf : List ℕ → Option ℕ → Type 0
IsTextOf text None = Unit {0}
IsTextOf text (Some count) = (is_quotable (take count text) ≡ true) × EndsWith QUOTE text count

text_with_byte : (c : ℕ) (text : List ℕ) (o : Option ℕ) → eqb c QUOTE ≡ false → eqb c BACKSLASH ≡ false → IsTextOf text o → IsTextOf (c ∷ text) (plus 1 o)
unfolding is_quotable
text_with_byte c text None no_quote no_backslash h = tt
text_with_byte c text (Some n) no_quote no_backslash h =
    let k : 1 + n ≡ suc n = omega arith in
    let is : is_quotable (c ∷ take n text) ≡ true = rw (no_quote, no_backslash) h.0 in
    rw k (is, h.1)

text_with_escape : (c letter : ℕ) (text : List ℕ) (o : Option ℕ) → eqb c QUOTE ≡ false → eqb c BACKSLASH ≡ true → is_escape letter ≡ true → IsTextOf text o → IsTextOf (c ∷ letter ∷ text) (plus 2 o)
unfolding is_quotable is_quotable_escape
text_with_escape c letter text None no_quote backslash good h = tt
text_with_escape c letter text (Some n) no_quote backslash good h =
    let k : 2 + n ≡ suc (suc n) = omega arith in
    let is : is_quotable (c ∷ letter ∷ take n text) ≡ true = rw (no_quote, backslash, good) h.0 in
    rw k (is, h.1)

text_at_quote : (c : ℕ) (rest : List ℕ) → eqb c QUOTE ≡ true → IsTextOf (c ∷ rest) (Some 0)
unfolding is_quotable
text_at_quote c rest quote = (refl, ap (λ (d : ℕ). d ∷ rest) (eqb-true c QUOTE quote))

mutual
  unfolding text_len escape_len

  text_ends_so : (text : List ℕ) → IsTextOf text (text_len text)
  text_ends_so [] = tt
  text_ends_so (c ∷ rest) =
      let P : Option ℕ → Type 0 = λ o. IsTextOf (c ∷ rest) o in
      cond_both (eqb c QUOTE) (Some 0) (cond (eqb c BACKSLASH) (escape_len rest) (plus 1 (text_len rest))) P (λ h. text_at_quote c rest h) (λ no_quote.
      cond_both (eqb c BACKSLASH) (escape_len rest) (plus 1 (text_len rest)) P (λ h. escape_ends_so c rest no_quote h) (λ no_backslash. text_with_byte c rest (text_len rest) no_quote no_backslash (text_ends_so rest)))

  escape_ends_so : (c : ℕ) (rest : List ℕ) → eqb c QUOTE ≡ false → eqb c BACKSLASH ≡ true → IsTextOf (c ∷ rest) (escape_len rest)
  escape_ends_so c [] no_quote backslash = tt
  escape_ends_so c (letter ∷ rest) no_quote backslash =
      let P : Option ℕ → Type 0 = λ o. IsTextOf (c ∷ letter ∷ rest) o in
      cond_both (is_escape letter) (plus 2 (text_len rest)) None P (λ good. text_with_escape c letter rest (text_len rest) no_quote backslash good (text_ends_so rest)) (λ bad. tt)

text_is_read : (rest : List ℕ) (o : Option ℕ) → IsTextOf rest o → IsRead (QUOTE ∷ rest) (text_of_len rest o)
text_is_read rest None h = tt
text_is_read rest (Some count) h =
    (QUOTE ∷ (take count rest ++ QUOTE ∷ []), (h.0, refl), whole QUOTE rest count h.1)

ends_at_backquote : (rest : List ℕ) (count : ℕ) → position (λ c. c == BACKQUOTE) rest ≡ Some count → EndsWith BACKQUOTE rest count
ends_at_backquote rest count e =
    let found = position-Some (λ c. c == BACKQUOTE) rest count 0 e in
    let here : drop count rest ≡ get_or rest count 0 ∷ drop (suc count) rest = drop-cons rest count 0 found.0 in
    let next : drop 1 (drop count rest) ≡ drop (suc count) rest = ap (drop 1) here in
    here ∙ ap (λ (d : ℕ). d ∷ drop (suc count) rest) (eqb-true (get_or rest count 0) BACKQUOTE found.1) ∙ ap (λ (t : List ℕ). BACKQUOTE ∷ t) (sym next)

name_is_read : (rest : List ℕ) (o : Option ℕ) → position (λ c. c == BACKQUOTE) rest ≡ o → IsRead (BACKQUOTE ∷ rest) (name_of_len rest o)
name_is_read rest None e = tt
name_is_read rest (Some count) e =
    let P : Option (Tok × List ℕ) → Type 0 = λ o. IsRead (BACKQUOTE ∷ rest) o in
    cond_both (is_name (take count rest)) (Some (Quoted (take count rest), drop 1 (drop count rest))) None P
    (λ is. (BACKQUOTE ∷ (take count rest ++ BACKQUOTE ∷ []), (is, refl), whole BACKQUOTE rest count (ends_at_backquote rest count e))) (λ other. tt)

-- ---- signs

-- what was read of a text is a sign that it begins with
abbrev IsSignRead : List ℕ → Option (Sign × List ℕ) → Type 0
IsSignRead text None = Unit {0}
IsSignRead text (Some x) = (bytes : List ℕ) × (IsSign x.0 bytes) × (text ≡ bytes ++ x.1)

single_is_read : (c : ℕ) (rest : List ℕ) → IsSignRead (c ∷ rest) (sign_or (single_sign c) rest None)
single_is_read c rest =
    let P : Option Sign → Type 0 = λ o. IsSignRead (c ∷ rest) (sign_or o rest None) in
    let at : (d : ℕ) → eqb c d ≡ true → c ∷ rest ≡ (d ∷ []) ++ rest = λ d h. ap (λ (b : ℕ). b ∷ rest) (eqb-true c d h) in
    cond_both (eqb c 40) _ _ P (λ h. (40 ∷ [], refl, at 40 h)) (λ h.
    cond_both (eqb c 41) _ _ P (λ h. (41 ∷ [], refl, at 41 h)) (λ h.
    cond_both (eqb c 44) _ _ P (λ h. (44 ∷ [], refl, at 44 h)) (λ h.
    cond_both (eqb c 46) _ _ P (λ h. (46 ∷ [], refl, at 46 h)) (λ h.
    cond_both (eqb c 59) _ _ P (λ h. (59 ∷ [], refl, at 59 h)) (λ h.
    cond_both (eqb c 42) _ _ P (λ h. (42 ∷ [], refl, at 42 h)) (λ h.
    cond_both (eqb c 45) _ _ P (λ h. (45 ∷ [], refl, at 45 h)) (λ h.
    cond_both (eqb c 61) _ _ P (λ h. (61 ∷ [], refl, at 61 h)) (λ h.
    cond_both (eqb c 60) _ _ P (λ h. (60 ∷ [], refl, at 60 h)) (λ h.
    cond_both (eqb c 62) _ _ P (λ h. (62 ∷ [], refl, at 62 h)) (λ h. tt))))))))))

double_is_read : (c d : ℕ) (rest : List ℕ) (other : Option (Sign × List ℕ)) → IsSignRead (c ∷ d ∷ rest) other → IsSignRead (c ∷ d ∷ rest) (sign_or (double_sign c d) rest other)
double_is_read c d rest other so =
    let P : Option Sign → Type 0 = λ o. IsSignRead (c ∷ d ∷ rest) (sign_or o rest other) in
    let at : (a b : ℕ) → (eqb c a && eqb d b) ≡ true → c ∷ d ∷ rest ≡ (a ∷ b ∷ []) ++ rest = λ a b h. let both = and_parts (eqb c a) (eqb d b) h in rw (eqb-true c a both.0, eqb-true d b both.1) refl in
    cond_both (eqb c 60 && eqb d 62) _ _ P (λ h. (60 ∷ 62 ∷ [], inl refl, at 60 62 h)) (λ h.
    cond_both (eqb c 33 && eqb d 61) _ _ P (λ h. (33 ∷ 61 ∷ [], inr refl, at 33 61 h)) (λ h.
    cond_both (eqb c 60 && eqb d 61) _ _ P (λ h. (60 ∷ 61 ∷ [], refl, at 60 61 h)) (λ h.
    cond_both (eqb c 62 && eqb d 61) _ _ P (λ h. (62 ∷ 61 ∷ [], refl, at 62 61 h)) (λ h. so))))

sign_is_read : (c : ℕ) (rest : List ℕ) → IsSignRead (c ∷ rest) (sign_at (c ∷ rest))
sign_is_read c [] = single_is_read c []
sign_is_read c (d ∷ rest) = double_is_read c d rest (sign_or (single_sign c) (d ∷ rest) None) (single_is_read c (d ∷ rest))

of_sign_is_read : (text : List ℕ) (o : Option (Sign × List ℕ)) → IsSignRead text o → IsRead text (option_map (λ x. (let t : Tok = OfSign x.0 in t, x.1)) o)
of_sign_is_read text None h = tt
of_sign_is_read text (Some x) h = h

-- ---- all of them

at_quote : (quote c : ℕ) (rest : List ℕ) (o : Option (Tok × List ℕ)) → eqb c quote ≡ true → IsRead (quote ∷ rest) o → IsRead (c ∷ rest) o
at_quote quote c rest o is h = rw (eqb-true c quote is) h

pub token_is_read : (text : List ℕ) → IsRead text (token_at text)
unfolding token_at
token_is_read [] = tt
token_is_read (c ∷ rest) =
    let P : Option (Tok × List ℕ) → Type 0 = λ o. IsRead (c ∷ rest) o in
    cond_both (is_word_start c) _ _ P (λ h. word_is_read c rest h) (λ h.
    cond_both (is_ascii_digit c) _ _ P (λ h. digits_are_read c rest h) (λ h.
    cond_both (eqb c QUOTE) _ _ P (λ h. at_quote QUOTE c rest (text_after_quote rest) h (text_is_read rest (text_len rest) (text_ends_so rest))) (λ h.
    cond_both (eqb c BACKQUOTE) _ _ P (λ h. at_quote BACKQUOTE c rest (quoted_at rest) h (name_is_read rest (position (λ d. d == BACKQUOTE) rest) refl)) (λ h.
    of_sign_is_read (c ∷ rest) (sign_at (c ∷ rest)) (sign_is_read c rest)))))
