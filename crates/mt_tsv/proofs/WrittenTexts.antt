-- Written numbers and texts are read again.
use Rattle.std.proofs.Common.{◌≡◌, ◌≢◌, ℕ, suc, ◌-◌, ◌^◌, ◌<◌, ◌≤◌, Bool, true, false, eqb, List, [], ◌∷◌, ◌++◌, length, Option, Some, None, Result, Ok, refl, sym, ap, ◌∙◌, append_assoc, arith, ℤ, pos, negsuc}
use Rattle.std.specs.Prelude.{decimal}
use Rattle.std.specs.Option.{MatchOption}
use Rattle.std.specs.List.{AllByRecursion}
use Rattle.std.specs.Char.{is_ascii_digit}
use Rattle.std.specs.Str.{all_ascii_digits}
use Rattle.std.specs.Str.Parse.{digits_value}
use Rattle.std.specs.Fmt.{signed_decimal}
use Rattle.std.proofs.lemmas.Bool.{cond_both, eqb-true, eqb-false, ne_eqb, ltb-true, le-leb, lt-ltb, and_parts, and_right}
use Rattle.std.proofs.lemmas.List.{append-nil}
use Rattle.std.proofs.lemmas.Fmt.{decimal_is_IsNumeral_wide}
use Rattle.mt_facts.proofs.Digits.{decimal_model, digit_here}
use Rattle.mt_types.specs.declared.ty.Width.{Width}
use Rattle.mt_types.specs.declared.ty.Width.TheVariants.{W8, W16, W32, W64, W128}
use Rattle.mt_types.specs.Fits.{bits, is_unsigned, is_signed}
use Rattle.mt_tsv.specs.declared.fault.RowWhy.{RowWhy}
use Rattle.mt_tsv.specs.declared.nesting.Nesting.TheVariants.{Outside, InQuotes, Escaped}
use Rattle.mt_types.specs.Steps.{onto}
use Rattle.mt_tsv.specs.Texts.{escaped_byte, text_of, text_after_backslash, bounded_text, padded_text}
use Rattle.mt_tsv.specs.Scalars.{magnitude_after, magnitude_of, integer_of, whole_number_of}
use Rattle.mt_tsv.specs.Nesting.{nesting_after, is_comma, closes_last}
use Rattle.mt_tsv.specs.Printing.{letter_of, with_letter, byte_text, escaped_text}
use Rattle.mt_tsv.specs.Fields.{is_null_field}
use Rattle.mt_calendar.proofs.WrittenDates.{ArePlain}
use Rattle.mt_tsv.proofs.Narrow.{signed_below}
use Rattle.mt_tsv.proofs.Walks.{IsWalk, walk_byte, walk_nil, walk_append, walk_all, other_no_comma}

-- neither a tab nor a line end is in it
abbrev pub IsClean : List ℕ → Type 0
IsClean bytes = AllByRecursion (λ b. (b ≢ 9) × (b ≢ 10)) bytes

pub clean_append : (xs ys : List ℕ) → IsClean xs → IsClean ys → IsClean (xs ++ ys)
clean_append [] ys h k = k
clean_append (x ∷ xs) ys h k = (h.0, clean_append xs ys h.1 k)

-- ---- texts

-- what stands for a byte
abbrev Stands : ℕ → Option ℕ → Type 0
Stands b o = MatchOption o ((b ≢ 92) × (b ≢ 9) × (b ≢ 10) × (b ≢ 39)) (λ c. (escaped_byte c ≡ Some b) × (c ≢ 9) × (c ≢ 10) × (c ≢ 78))

some_byte : (a b : ℕ) → eqb b a ≡ true → (let o : Option ℕ = Some a in o) ≡ Some b
some_byte a b e = ap (λ (k : ℕ). let o : Option ℕ = Some k in o) (sym (eqb-true b a e))

letter_stands : (b : ℕ) → Stands b (letter_of b)
letter_stands b =
    let P : Option ℕ → Type 0 = Stands b in
    cond_both (eqb b 8) _ _ P (λ h. (some_byte 8 b h, omega arith, omega arith, omega arith)) (λ h8.
    cond_both (eqb b 12) _ _ P (λ h. (some_byte 12 b h, omega arith, omega arith, omega arith)) (λ h12.
    cond_both (eqb b 13) _ _ P (λ h. (some_byte 13 b h, omega arith, omega arith, omega arith)) (λ h13.
    cond_both (eqb b 10) _ _ P (λ h. (some_byte 10 b h, omega arith, omega arith, omega arith)) (λ h10.
    cond_both (eqb b 9) _ _ P (λ h. (some_byte 9 b h, omega arith, omega arith, omega arith)) (λ h9.
    cond_both (eqb b 0) _ _ P (λ h. (some_byte 0 b h, omega arith, omega arith, omega arith)) (λ h0.
    cond_both (eqb b 39) _ _ P (λ h. (some_byte 39 b h, omega arith, omega arith, omega arith)) (λ h39.
    cond_both (eqb b 92) _ _ P (λ h. (some_byte 92 b h, omega arith, omega arith, omega arith)) (λ h92.
    (eqb-false b 92 h92, eqb-false b 9 h9, eqb-false b 10 h10, eqb-false b 39 h39)))))))))

byte_again : (b : ℕ) (o : Option ℕ) (rest : List ℕ) → Stands b o → text_of (with_letter b o ++ rest) ≡ onto b (text_of rest)
unfolding text_of text_after_backslash
byte_again b None rest h = rw (ne_eqb b 92 h.0) refl
byte_again b (Some c) rest h = rw h.0 refl

pub text_again : (text : List ℕ) → text_of (escaped_text text) ≡ Ok text
unfolding text_of
text_again [] = refl
text_again (b ∷ text) = byte_again b (letter_of b) (escaped_text text) (letter_stands b) ∙ ap (onto b) (text_again text)

byte_clean : (b : ℕ) (o : Option ℕ) → Stands b o → IsClean (with_letter b o)
byte_clean b None h = ((h.1, h.2), tt)
byte_clean b (Some c) h = ((omega arith, omega arith), ((h.1, h.2), tt))

pub text_clean : (text : List ℕ) → IsClean (escaped_text text)
text_clean [] = tt
text_clean (b ∷ text) = clean_append (byte_text b) (escaped_text text) (byte_clean b (letter_of b) (letter_stands b)) (text_clean text)

byte_walk : (depth b : ℕ) (o : Option ℕ) → Stands b o → IsWalk (InQuotes depth) (with_letter b o) (InQuotes depth)
byte_walk depth b None h = walk_byte (InQuotes depth) (InQuotes depth) b (rw (ne_eqb b 39 h.3, ne_eqb b 92 h.0) refl) refl
byte_walk depth b (Some c) h =
    walk_append (InQuotes depth) (Escaped depth) (InQuotes depth) (92 ∷ []) (c ∷ []) (walk_byte (InQuotes depth) (Escaped depth) 92 refl refl) (walk_byte (Escaped depth) (InQuotes depth) c refl refl)

pub text_walk : (depth : ℕ) (text : List ℕ) → IsWalk (InQuotes depth) (escaped_text text) (InQuotes depth)
text_walk depth [] = walk_nil (InQuotes depth)
text_walk depth (b ∷ text) = walk_append (InQuotes depth) (InQuotes depth) (InQuotes depth) (byte_text b) (escaped_text text) (byte_walk depth b (letter_of b) (letter_stands b)) (text_walk depth text)

-- no byte of it closes the quotes
abbrev pub StaysInQuotes : List ℕ → Type 0
StaysInQuotes bytes = (rest : List ℕ) → closes_last (InQuotes 0) (bytes ++ rest) ≡ closes_last (InQuotes 0) rest

byte_stays : (b : ℕ) (o : Option ℕ) → Stands b o → StaysInQuotes (with_letter b o)
unfolding closes_last
byte_stays b None h = λ rest. rw (ne_eqb b 39 h.3, ne_eqb b 92 h.0) refl
byte_stays b (Some c) h = λ rest. refl

stays_append : (xs ys : List ℕ) → StaysInQuotes xs → StaysInQuotes ys → StaysInQuotes (xs ++ ys)
stays_append xs ys h k = λ rest. ap (closes_last (InQuotes 0)) (append_assoc xs ys rest) ∙ h (ys ++ rest) ∙ k rest

pub text_stays : (text : List ℕ) → StaysInQuotes (escaped_text text)
text_stays [] = λ rest. refl
text_stays (b ∷ text) = stays_append (byte_text b) (escaped_text text) (byte_stays b (letter_of b) (letter_stands b)) (text_stays text)

-- ---- dates and moments: none of their bytes ends a field or quotes

pub plain_clean : (bytes : List ℕ) → ArePlain bytes → IsClean bytes
plain_clean [] h = tt
plain_clean (b ∷ bytes) h = ((omega (arith, h.0), omega (arith, h.0)), plain_clean bytes h.1)

plain_bytes_inside : (depth : ℕ) (bytes : List ℕ) → ArePlain bytes
    → AllByRecursion (λ b. (nesting_after (InQuotes depth) b ≡ InQuotes depth) × (is_comma (InQuotes depth) b ≡ false)) bytes
plain_bytes_inside depth [] h = tt
plain_bytes_inside depth (b ∷ bytes) h = ((rw (ne_eqb b 39 h.0.2, ne_eqb b 92 (omega (arith, h.0))) refl, refl), plain_bytes_inside depth bytes h.1)

pub plain_walk : (depth : ℕ) (bytes : List ℕ) → ArePlain bytes → IsWalk (InQuotes depth) bytes (InQuotes depth)
plain_walk depth bytes h = walk_all (InQuotes depth) bytes (plain_bytes_inside depth bytes h)

pub plain_stays : (bytes : List ℕ) → ArePlain bytes → StaysInQuotes bytes
unfolding closes_last
plain_stays [] h = λ rest. refl
plain_stays (b ∷ bytes) h = λ rest. rw (ne_eqb b 39 h.0.2, ne_eqb b 92 (omega (arith, h.0))) (plain_stays bytes h.1 rest)

-- ---- numbers: their bytes are digits and minus signs

abbrev pub AreNumberBytes : List ℕ → Type 0
AreNumberBytes bytes = AllByRecursion (λ b. (45 ≤ b) × (b ≤ 57)) bytes

pub number_plain : (bytes : List ℕ) → AreNumberBytes bytes → ArePlain bytes
number_plain [] h = tt
number_plain (b ∷ bytes) h = ((omega (arith, h.0), omega (arith, h.0), omega (arith, h.0)), number_plain bytes h.1)

outside_number : (depth b : ℕ) → (45 ≤ b) × (b ≤ 57) → (nesting_after (Outside depth) b ≡ Outside depth) × (is_comma (Outside depth) b ≡ false)
outside_number depth b h = (rw (ne_eqb b 39 (omega (arith, h)), ne_eqb b 91 (omega (arith, h)), ne_eqb b 93 (omega (arith, h))) refl, other_no_comma depth b (omega (arith, h)))

number_bytes_outside : (depth : ℕ) (bytes : List ℕ) → AreNumberBytes bytes → AllByRecursion (λ b. (nesting_after (Outside depth) b ≡ Outside depth) × (is_comma (Outside depth) b ≡ false)) bytes
number_bytes_outside depth [] h = tt
number_bytes_outside depth (b ∷ bytes) h = (outside_number depth b h.0, number_bytes_outside depth bytes h.1)

pub number_walk : (depth : ℕ) (bytes : List ℕ) → AreNumberBytes bytes → IsWalk (Outside depth) bytes (Outside depth)
number_walk depth bytes h = walk_all (Outside depth) bytes (number_bytes_outside depth bytes h)

digit_bytes : (ds : List ℕ) → all_ascii_digits ds ≡ true → AreNumberBytes ds
digit_bytes [] h = tt
digit_bytes (c ∷ ds) h = let a = and_parts (is_ascii_digit c) (all_ascii_digits ds) h in let d = digit_here (c ∷ ds) 0 h (omega arith) in ((omega (arith, d), omega (arith, d)), digit_bytes ds a.1)

small : (width : Width) (n : ℕ) → is_unsigned (bits width) (pos n) ≡ true → n < 2 ^ 128
small W8 n h = omega (arith, ltb-true n (2 ^ 8) h)
small W16 n h = omega (arith, ltb-true n (2 ^ 16) h)
small W32 n h = omega (arith, ltb-true n (2 ^ 32) h)
small W64 n h = omega (arith, ltb-true n (2 ^ 64) h)
small W128 n h = ltb-true n (2 ^ 128) h

-- a number whose digits are read
abbrev IsSmall : ℤ → Type 0
IsSmall (pos n) = n < 2 ^ 128
IsSmall (negsuc n) = suc n < 2 ^ 128

unsigned_small : (width : Width) (n : ℤ) → is_unsigned (bits width) n ≡ true → IsSmall n
unsigned_small width (pos n) h = small width n h
unsigned_small width (negsuc n) h = absurd cc

signed_small : (width : Width) (n : ℤ) → is_signed (bits width) n ≡ true → IsSmall n
signed_small width (pos n) h = omega (arith, signed_below width n h)
signed_small width (negsuc n) h = omega (arith, signed_below width n h)

-- the digits of a number
record IsDecimal (n : ℕ) (ds : List ℕ) : Type 0 where
  digits : all_ascii_digits ds ≡ true
  value : digits_value 10 ds ≡ n
  some : 0 < length ds

decimal_of : (n : ℕ) → n < 2 ^ 128 → IsDecimal n (decimal n)
decimal_of n h =
    let wide = decimal_is_IsNumeral_wide n (omega arith) in
    record {
      digits = decimal_model.from (decimal n) wide.0.1;
      value = wide.1;
      some = wide.0.0;
    }

number_bytes : (n : ℤ) → IsSmall n → AreNumberBytes (signed_decimal n)
number_bytes (pos n) h = digit_bytes (decimal n) (decimal_of n h).digits
number_bytes (negsuc n) h = ((omega arith, omega arith), digit_bytes (decimal (suc n)) (decimal_of (suc n) h).digits)

number_nonempty : (n : ℤ) → IsSmall n → 0 < length (signed_decimal n)
number_nonempty (pos n) h = (decimal_of n h).some
number_nonempty (negsuc n) h = omega arith

magnitude_again : (ds : List ℕ) (n : ℕ) → IsDecimal n ds → n < 2 ^ 128 → magnitude_of ds ≡ Ok n
unfolding magnitude_of magnitude_after
magnitude_again ds n is h = rw (lt-ltb 0 (length ds) is.some, is.digits, is.value, lt-ltb n (2 ^ 128) h) refl

plain_again : (ds : List ℕ) (n : ℕ) → IsDecimal n ds → n < 2 ^ 128 → integer_of ds ≡ Ok (pos n)
unfolding integer_of
plain_again [] n is h = absurd (omega (arith, is.some))
plain_again (c ∷ ds) n is h =
    let d = digit_here (c ∷ ds) 0 is.digits is.some in
    rw (ne_eqb c 45 (omega (arith, d)), magnitude_again (c ∷ ds) n is h) refl

integer_again : (n : ℤ) → IsSmall n → integer_of (signed_decimal n) ≡ Ok n
unfolding integer_of
integer_again (pos n) h = plain_again (decimal n) n (decimal_of n h) h
integer_again (negsuc n) h = rw (magnitude_again (decimal (suc n)) (suc n) (decimal_of (suc n) h) h) refl

-- a number of a type, written
pub record IsNumber (is_in_type : ℤ → Bool) (n : ℤ) : Type 0 where
  pub value : whole_number_of is_in_type (signed_decimal n) ≡ Ok n
  pub bytes : AreNumberBytes (signed_decimal n)
  pub nonempty : 0 < length (signed_decimal n)

number_again : (is_in_type : ℤ → Bool) (n : ℤ) → IsSmall n → is_in_type n ≡ true → IsNumber is_in_type n
unfolding whole_number_of
number_again is_in_type n s h = record { value = rw (integer_again n s, h) refl; bytes = number_bytes n s; nonempty = number_nonempty n s }

pub unsigned_again : (width : Width) (n : ℤ) → is_unsigned (bits width) n ≡ true → IsNumber (is_unsigned (bits width)) n
unsigned_again width n h = number_again (is_unsigned (bits width)) n (unsigned_small width n h) h

pub signed_again : (width : Width) (n : ℤ) → is_signed (bits width) n ≡ true → IsNumber (is_signed (bits width)) n
signed_again width n h = number_again (is_signed (bits width)) n (signed_small width n h) h

-- ---- bounded and padded texts

pub bounded_again : (most : ℕ) (text : List ℕ) → length text ≤ most → bounded_text most (escaped_text text) ≡ Ok text
unfolding bounded_text
bounded_again most text h = rw (text_again text, le-leb (length text) most h) refl

pub padded_again : (size : ℕ) (text : List ℕ) → length text ≡ size → padded_text size (escaped_text text) ≡ Ok text
unfolding padded_text
padded_again size text h =
    let none : size - length text ≡ 0 = omega arith in
    rw (bounded_again size text (omega arith), none) (ap (λ (t : List ℕ). let r : Result (List ℕ) RowWhy = Ok t in r) (append-nil text))

-- ---- nothing but NULL is written as NULL

other_first : (b : ℕ) (rest : List ℕ) → b ≢ 92 → is_null_field (b ∷ rest) ≡ false
other_first b [] h = refl
other_first b (c ∷ []) h = rw (ne_eqb b 92 h) refl
other_first b (c ∷ d ∷ rest) h = refl

other_second : (b c : ℕ) (rest : List ℕ) → c ≢ 78 → is_null_field (b ∷ c ∷ rest) ≡ false
other_second b c [] h = and_right (eqb b 92) (eqb c 78) (ne_eqb c 78 h)
other_second b c (d ∷ rest) h = refl

pub plain_not_null : (bytes : List ℕ) → ArePlain bytes → is_null_field bytes ≡ false
plain_not_null [] h = refl
plain_not_null (b ∷ bytes) h = other_first b bytes (omega (arith, h.0))

byte_not_null : (b : ℕ) (o : Option ℕ) (rest : List ℕ) → Stands b o → is_null_field (with_letter b o ++ rest) ≡ false
byte_not_null b None rest h = other_first b rest h.0
byte_not_null b (Some c) rest h = other_second 92 c rest h.3

pub text_not_null : (text : List ℕ) → is_null_field (escaped_text text) ≡ false
text_not_null [] = refl
text_not_null (b ∷ text) = byte_not_null b (letter_of b) (escaped_text text) (letter_stands b)
