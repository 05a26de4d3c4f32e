-- Plain names: bytes of ASCII, neither zero nor a slash.
use Rattle.std.proofs.Common.{◌≡◌, ℕ, ◌+◌, ◌/◌, ◌%◌, ◌<◌, ◌≤◌, Bool, true, false, not, ◌&&◌, ◌||◌, List, [], ◌∷◌, ◌++◌, refl, ap, ◌∙◌, arith, lit<, inl, inr, ◌⊎◌, eqb, ltb, leb}
use Rattle.std.proofs.Math.Nat.{mod-lt}
use Rattle.std.specs.Prelude.{codes, nat_lt, if◌then◌else◌}
use Rattle.std.specs.List.{list_all}
use Rattle.std.proofs.lemmas.Bool.{and_parts, and_from, ne_eqb, lt-ltb, leb-true, eqb-true}
use Rattle.std.proofs.lemmas.List.Elements.{All-nil, All-cons, All-head, All-tail}
use Rattle.std.proofs.lemmas.List.Folds.{list_all-append}
use Rattle.mt_types.specs.Words.{is_word_byte as is_name_byte}
use Rattle.mt_defs.specs.Lists.{AreBytes}
use Rattle.mt_defs.specs.FileNames.{file_name_byte, file_name, hex_digit, is_word_byte}
use Rattle.mt_law_written.proofs.NameLemmas.{digit_high}

-- a byte of ASCII, neither zero nor a slash
abbrev pub is_plain_byte : ℕ → Bool
is_plain_byte c = ltb c 128 && (not (eqb c 0) && not (eqb c 47))

abbrev pub is_plain : List ℕ → Bool
is_plain = list_all is_plain_byte

pub plain_byte : (c : ℕ) → 48 ≤ c → c ≤ 122 → is_plain_byte c ≡ true
plain_byte c low high =
    and_from (ltb c 128) _ (lt-ltb c 128 (omega (arith, high)))
    (and_from (not (eqb c 0)) (not (eqb c 47)) (ap not (ne_eqb c 0 (λ is. omega (arith, is, low)))) (ap not (ne_eqb c 47 (λ is. omega (arith, is, low)))))

pub plain_appended : (a b : List ℕ) → is_plain a ≡ true → is_plain b ≡ true → is_plain (a ++ b) ≡ true
plain_appended a b one two = list_all-append is_plain_byte a b ∙ and_from (is_plain a) (is_plain b) one two

-- ---- bytes of words

-- one of four tests that passes
one_of_four : (a b c d : Bool) → (((a || b) || c) || d) ≡ true → (a ≡ true) ⊎ ((b ≡ true) ⊎ ((c ≡ true) ⊎ (d ≡ true)))
one_of_four true b c d e = inl refl
one_of_four false true c d e = inr (inl refl)
one_of_four false false true d e = inr (inr (inl refl))
one_of_four false false false d e = inr (inr (inr e))

record InRange (c : ℕ) : Type 0 where
  low : 48 ≤ c
  high : c ≤ 122

between : (first last c : ℕ) → 48 ≤ first → last ≤ 122 → (leb first c && leb c last) ≡ true → InRange c
between first last c low high e =
    let both = and_parts (leb first c) (leb c last) e in
    let above : first ≤ c = leb-true first c both.0 in
    let below : c ≤ last = leb-true c last both.1 in
    record { low = omega (arith, low, above); high = omega (arith, high, below) }

line : (c : ℕ) → eqb c 95 ≡ true → InRange c
line c e = let is = eqb-true c 95 e in record { low = omega (arith, is); high = omega (arith, is) }

-- a letter, a digit or _
word_range : (c : ℕ) → is_word_byte c ≡ true → InRange c
word_range c e =
    elim (one_of_four (leb 48 c && leb c 57) (leb 65 c && leb c 90) (eqb c 95) (leb 97 c && leb c 122) e) [
      | inl digit ↦ between 48 57 c (omega arith) (omega arith) digit
      | inr (inl upper) ↦ between 65 90 c (omega arith) (omega arith) upper
      | inr (inr (inl is_line)) ↦ line c is_line
      | inr (inr (inr lower)) ↦ between 97 122 c (omega arith) (omega arith) lower
    ]

name_range : (c : ℕ) → is_name_byte c ≡ true → InRange c
name_range c e =
    elim (one_of_four (leb 65 c && leb c 90) (leb 97 c && leb c 122) (eqb c 95) (leb 48 c && leb c 57) e) [
      | inl upper ↦ between 65 90 c (omega arith) (omega arith) upper
      | inr (inl lower) ↦ between 97 122 c (omega arith) (omega arith) lower
      | inr (inr (inl is_line)) ↦ line c is_line
      | inr (inr (inr digit)) ↦ between 48 57 c (omega arith) (omega arith) digit
    ]

-- a name of such bytes
pub word_bytes : (name : List ℕ) → list_all is_name_byte name ≡ true → AreBytes name
word_bytes [] e = All-nil (λ byte. byte < 256)
word_bytes (c ∷ name) e =
    let both = and_parts (is_name_byte c) (list_all is_name_byte name) e in
    All-cons (λ byte. byte < 256) c name (omega (arith, (name_range c both.0).high)) (word_bytes name both.1)

pub word_plain : (name : List ℕ) → list_all is_name_byte name ≡ true → is_plain name ≡ true
word_plain [] e = refl
word_plain (c ∷ name) e =
    let both = and_parts (is_name_byte c) (list_all is_name_byte name) e in
    let range = name_range c both.0 in
    and_from (is_plain_byte c) (is_plain name) (plain_byte c range.low range.high) (word_plain name both.1)

-- ---- escaped names

digit_by : (n : ℕ) (b : Bool) → n < 16 → nat_lt n 10 ≡ b → (if b then 48 + n else 55 + n) ≤ 122
digit_by n true small e = omega (arith, small)
digit_by n false small e = omega (arith, small)

digit_plain : (n : ℕ) → n < 16 → is_plain_byte (hex_digit n) ≡ true
digit_plain n small = plain_byte (hex_digit n) (digit_high n) (digit_by n (nat_lt n 10) small refl)

escaped_by : (c : ℕ) (b : Bool) → c < 256 → is_word_byte c ≡ b → is_plain (if b then c ∷ [] else codes "%" ++ hex_digit (c / 16) ∷ hex_digit (c % 16) ∷ []) ≡ true
escaped_by c true small e = let range = word_range c e in and_from (is_plain_byte c) true (plain_byte c range.low range.high) refl
escaped_by c false small e =
    let high : c / 16 < 16 = omega (arith, small) in
    let low : c % 16 < 16 = mod-lt c (lit< tt) in
    and_from (is_plain_byte (hex_digit (c / 16))) _ (digit_plain (c / 16) high) (and_from (is_plain_byte (hex_digit (c % 16))) true (digit_plain (c % 16) low) refl)

pub file_name_plain : (name : List ℕ) → AreBytes name → is_plain (file_name name) ≡ true
file_name_plain [] bytes = refl
file_name_plain (c ∷ name) bytes =
    let P : ℕ → Type 0 = λ byte. byte < 256 in
    plain_appended (file_name_byte c) (file_name name) (escaped_by c (is_word_byte c) (All-head P c name bytes) refl) (file_name_plain name (All-tail P c name bytes))
