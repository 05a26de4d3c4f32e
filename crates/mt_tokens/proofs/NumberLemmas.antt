-- The number that digits stand for, digit by digit.
use Rattle.std.proofs.Common.{◌≡◌, ℕ, Bool, inl, inr, ◌-◌, ◌^◌, ◌<◌, ◌≤◌, true, false, eqb, List, [], ◌∷◌, length, Option, Some, None, refl, arith}
use Rattle.std.specs.Option.{SomeIff}
use Rattle.std.specs.Str.{all_ascii_digits}
use Rattle.std.specs.Str.Parse.{digits_value}
use Rattle.std.specs.Prelude.{◌&&◌, nat_lt, if◌then◌else◌, option_and_then}
use Rattle.std.proofs.lemmas.Bool.{cases_Bool, lt-ltb, ltb-false, le-ltb, eqb-true, eqb-false}
use Rattle.mt_tokens.specs.Numbers.{number_of, wide_number_of}

pub no_number_of_none : (digits : List ℕ) → eqb (length digits) 0 ≡ true → None ≡ wide_number_of digits
unfolding wide_number_of
no_number_of_none [] is = refl
no_number_of_none (c ∷ digits) is = absurd (omega (arith, eqb-true (length (c ∷ digits)) 0 is))

module _ (digits : List ℕ) (some : eqb (length digits) 0 ≡ false) where
  pub no_number_of_others : all_ascii_digits digits ≡ false → None ≡ wide_number_of digits
  unfolding wide_number_of
  no_number_of_others other = rw (lt-ltb 0 (length digits) (omega (arith, eqb-false (length digits) 0 some)), other) refl

  pub number_of_digits : all_ascii_digits digits ≡ true → (o : Option ℕ) → SomeIff o (digits_value 10 digits < 2 ^ 128) (digits_value 10 digits) → o ≡ wide_number_of digits
  unfolding wide_number_of
  number_of_digits all None h = rw (lt-ltb 0 (length digits) (omega (arith, eqb-false (length digits) 0 some)), all, le-ltb (digits_value 10 digits) (2 ^ 128) (omega (arith, h))) refl
  number_of_digits all (Some n) h = rw (lt-ltb 0 (length digits) (omega (arith, eqb-false (length digits) 0 some)), all, lt-ltb (digits_value 10 digits) (2 ^ 128) h.0, h.1) refl

-- a number of digits, below one limit and then below a lower one
narrowed_is : (passes : Bool) (number low high : ℕ) → low ≤ high → (wide : Option ℕ) → wide ≡ (if passes && nat_lt number high then Some number else None)
    → (if passes && nat_lt number low then Some number else None) ≡ option_and_then (λ n. if nat_lt n low then Some n else None) wide
narrowed_is false number low high le wide e = rw e refl
narrowed_is true number low high le wide e = elim (cases_Bool (nat_lt number high)) [
  | inl below ↦ rw (e, below) refl
  | inr above ↦
      let large : nat_lt number low ≡ false = le-ltb number low (omega (arith, ltb-false number high above, le)) in
      rw (e, above, large) refl
]

pub number_is_narrow : (digits : List ℕ) → number_of digits ≡ option_and_then (λ n. if nat_lt n (2 ^ 64) then Some n else None) (wide_number_of digits)
unfolding number_of wide_number_of
number_is_narrow digits = narrowed_is (nat_lt 0 (length digits) && all_ascii_digits digits) (digits_value 10 digits) (2 ^ 64) (2 ^ 128) (omega arith) _ refl
