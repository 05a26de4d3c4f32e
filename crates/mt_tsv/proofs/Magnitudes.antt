-- The number of a text of digits that is read in parts.
use Rattle.std.proofs.Common.{◌≡◌, ℕ, ◌+◌, ◌*◌, ◌^◌, ◌<◌, ◌≤◌, Bool, true, false, eqb, List, [], ◌∷◌, ◌++◌, length, take, drop, Option, Some, None, if◌then◌else◌, ◌&&◌, Ok, Err, refl, sym, ap, ◌∙◌, arith, inl, inr}
use Rattle.std.specs.Char.{digit_value, is_ascii_digit}
use Rattle.std.specs.Str.{all_ascii_digits}
use Rattle.std.specs.Str.Parse.{digits_value, digits_value_after}
use Rattle.std.proofs.lemmas.Bool.{cases_Bool, lt-ltb, le-ltb, eqb-true, eqb-false}
use Rattle.std.proofs.lemmas.List.{take-append-drop}
use Rattle.std.proofs.lemmas.Nat.{rows}
use Rattle.std.proofs.Math.Nat.{pow-suc}
use Rattle.mt_tsv.specs.declared.fault.RowWhy.TheVariants.{Number, Range}
use Rattle.mt_tsv.specs.Scalars.{magnitude_after, magnitude_of}

pub some_digits : (b : Bool) (n value : ℕ) → (let o : Option ℕ = Some n in o) ≡ (if b then Some value else None) → (b ≡ true) × (n ≡ value)
some_digits true n value is = (refl, cc)
some_digits false n value is = absurd cc

pub no_digits : (b : Bool) (value : ℕ) → (let o : Option ℕ = None in o) ≡ (if b then Some value else None) → b ≡ false
no_digits true value is = absurd cc
no_digits false value is = refl

digits_of_parts : (first rest : List ℕ) → all_ascii_digits (first ++ rest) ≡ (all_ascii_digits first && all_ascii_digits rest)
digits_of_parts [] rest = refl
digits_of_parts (c ∷ first) rest =
    elim (cases_Bool (is_ascii_digit c)) [
      | inl digit ↦ rw digit (digits_of_parts first rest)
      | inr other ↦ rw other refl
    ]

value_of_parts : (number : ℕ) (first rest : List ℕ) → digits_value_after 10 number (first ++ rest) ≡ digits_value_after 10 (digits_value_after 10 number first) rest
value_of_parts number [] rest = refl
value_of_parts number (c ∷ first) rest = value_of_parts (number * 10 + digit_value c) first rest

other_bytes : (first : ℕ) (text : List ℕ) → all_ascii_digits text ≡ false → magnitude_after first text ≡ Err Number
unfolding magnitude_after
other_bytes first text other = rw other refl

pub empty : (text : List ℕ) → eqb (length text) 0 ≡ true → magnitude_of text ≡ Err Number
unfolding magnitude_of
empty [] is = refl
empty (c ∷ text) is = absurd (omega (arith, eqb-true (length (c ∷ text)) 0 is))

pub some_text : (text : List ℕ) → eqb (length text) 0 ≡ false → magnitude_of text ≡ magnitude_after 0 text
unfolding magnitude_of
some_text text some = rw (lt-ltb 0 (length text) (omega (arith, eqb-false (length text) 0 some))) refl

joined_step : (value digits number digit power next rest : ℕ) → next ≡ power * 10 → value ≡ (number * 10 + digit) * power + rest → digits ≡ (0 * 10 + digit) * power + rest
    → value ≡ number * next + digits
joined_step value digits number digit power next rest up is also =
    let shifted : (number * 10 + digit) * power ≡ number * (power * 10) + digit * power = grind (arith, rows) in
    rw up (omega (arith, is, also, shifted))

joined_value : (number : ℕ) (text : List ℕ) → digits_value_after 10 number text ≡ number * 10 ^ length text + digits_value 10 text
joined_value number [] = omega arith
joined_value number (c ∷ text) =
    joined_step _ _ number (digit_value c) (10 ^ length text) (10 ^ length (c ∷ text)) (digits_value 10 text) (pow-suc 10 (length text))
    (joined_value (number * 10 + digit_value c) text) (joined_value (0 * 10 + digit_value c) text)

-- digits that are read alone, joined with those before them
pub joined_is : (whole first count number : ℕ) (text : List ℕ) → whole ≡ first * 10 ^ count + number → count ≡ length text → number ≡ digits_value 10 text
    → whole ≡ digits_value_after 10 first text
joined_is whole first count number text is as_many digits = rw (is, as_many, digits) (sym (joined_value first text))

module _ (number : ℕ) (text first rest : List ℕ) (count : ℕ) (is_first : first ≡ take count text) (is_rest : rest ≡ drop count text) where
  whole : first ++ rest ≡ text
  whole = rw (is_first, is_rest) (take-append-drop count text)

  digits : all_ascii_digits text ≡ (all_ascii_digits first && all_ascii_digits rest)
  digits = ap all_ascii_digits (sym whole) ∙ digits_of_parts first rest

  value : digits_value_after 10 number text ≡ digits_value_after 10 (digits_value_after 10 number first) rest
  value = ap (digits_value_after 10 number) (sym whole) ∙ value_of_parts number first rest

  pub first_is_other : all_ascii_digits first ≡ false → magnitude_after number text ≡ Err Number
  first_is_other other = other_bytes number text (digits ∙ rw other refl)

  pub rest_is_other : all_ascii_digits first ≡ true → all_ascii_digits rest ≡ false → magnitude_after number text ≡ Err Number
  rest_is_other digit other = other_bytes number text (digits ∙ rw (digit, other) refl)

  -- the first digits are read
  pub rest_decides : (next : ℕ) → next ≡ digits_value_after 10 number first → all_ascii_digits first ≡ true → magnitude_after number text ≡ magnitude_after next rest
  unfolding magnitude_after
  rest_decides next is digit = rw (digits, digit, value, is) refl

pub is_number : (number : ℕ) (text : List ℕ) (n : ℕ) → all_ascii_digits text ≡ true → n ≡ digits_value_after 10 number text → digits_value_after 10 number text < 2 ^ 128
    → magnitude_after number text ≡ Ok n
unfolding magnitude_after
is_number number text n digit is below = rw (digit, lt-ltb _ (2 ^ 128) below, is) refl

pub is_large : (number : ℕ) (text : List ℕ) → all_ascii_digits text ≡ true → 2 ^ 128 ≤ digits_value_after 10 number text → magnitude_after number text ≡ Err Range
unfolding magnitude_after
is_large number text digit large = rw (digit, le-ltb _ (2 ^ 128) large) refl

pub none_left : (number : ℕ) (text : List ℕ) → eqb (length text) 0 ≡ true → number < 2 ^ 128 → magnitude_after number text ≡ Ok number
unfolding magnitude_after
none_left number [] is below = rw (lt-ltb number (2 ^ 128) below) refl
none_left number (c ∷ text) is below = absurd (omega (arith, eqb-true (length (c ∷ text)) 0 is))
