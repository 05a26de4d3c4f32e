-- The sizes of FixedString, and their decimals.
use Rattle.std.proofs.Common.{◌≡◌, ℕ, ◌+◌, ◌/◌, ◌%◌, ◌<◌, ◌≤◌, Bool, true, false, List, [], ◌∷◌, ◌++◌, Some, None, refl, ap, sym, ◌∙◌, arith, append_assoc, append-nil}
use Rattle.std.specs.Prelude.{option_and_then, if◌then◌else◌}
use Rattle.std.specs.Fmt.{decimal}
use Rattle.std.proofs.lemmas.Fmt.{decimal_by_steps, decimal_step, decimal_digit}
use Rattle.std.proofs.lemmas.Bool.{le-leb, leb-true}
use Rattle.mt_types.specs.declared.limits.TheConstants.{MAX_FIXED_STRING}
use Rattle.mt_types.proofs.OptionLemmas.{both_true, then_is}
use Rattle.mt_types.specs.NameReading.{with_digit, is_next_digit, next_size, size_from, size_named}

-- a digit that extends a size
next_of : (size digit : ℕ) → 48 ≤ digit → digit ≤ 57 → 1 ≤ with_digit size digit → with_digit size digit ≤ MAX_FIXED_STRING
    → next_size size digit ≡ Some (with_digit size digit)
next_of size digit low high some small =
    rw (le-leb 48 digit low, le-leb digit 57 high, le-leb 1 (with_digit size digit) some, le-leb (with_digit size digit) MAX_FIXED_STRING small) refl

-- a choice without another
chosen_only : (test : Bool) (size next : ℕ) → (if test then Some size else None) ≡ Some next → (test ≡ true) × (next ≡ size)
chosen_only true size next e = (refl, cc)
chosen_only false size next e = cc

-- what a size with one digit more is
next_is : (size digit next : ℕ) → next_size size digit ≡ Some next
    → (48 ≤ digit) × (digit ≤ 57) × (1 ≤ next) × (next ≤ MAX_FIXED_STRING) × (next ≡ with_digit size digit)
next_is size digit next e =
    let chosen = chosen_only (is_next_digit size digit) (with_digit size digit) next e in
    let one = both_true _ _ chosen.0 in
    let two = both_true _ _ one.0 in
    let three = both_true _ _ two.0 in
    let some : 1 ≤ with_digit size digit = leb-true 1 (with_digit size digit) two.1 in
    let small : with_digit size digit ≤ MAX_FIXED_STRING = leb-true (with_digit size digit) MAX_FIXED_STRING one.1 in
    (leb-true 48 digit three.0, leb-true digit 57 three.1, omega (arith, chosen.1), omega (arith, chosen.1), chosen.1)

-- reading a decimal leads from 0 to its number
abbrev LeadsTo : ℕ → List ℕ → Type 0
LeadsTo n digits = 1 ≤ n → n ≤ MAX_FIXED_STRING → (rest : List ℕ) → size_from 0 (digits ++ rest) ≡ size_from n rest

-- one digit
leads_one : (n : ℕ) → n < 10 → LeadsTo n ((48 + n) ∷ [])
leads_one n small some within rest =
    let is : with_digit 0 (48 + n) ≡ n = omega arith in
    ap (option_and_then (λ next. size_from next rest)) (next_of 0 (48 + n) (omega arith) (omega arith) (omega (arith, is)) (omega (arith, is)) ∙ ap Some is)

-- one digit more
leads_more : (n : ℕ) (digits : List ℕ) → 10 ≤ n → LeadsTo (n / 10) digits → LeadsTo n (digits ++ ((48 + n % 10) ∷ []))
leads_more n digits large leads some within rest =
    let is : with_digit (n / 10) (48 + n % 10) ≡ n = omega arith in
    ap (size_from 0) (append_assoc digits ((48 + n % 10) ∷ []) rest)
    ∙ leads (omega arith) (omega arith) ((48 + n % 10) ∷ rest)
    ∙ ap (option_and_then (λ next. size_from next rest)) (next_of (n / 10) (48 + n % 10) (omega arith) (omega arith) (omega (arith, is)) (omega (arith, is)) ∙ ap Some is)

-- a size is read from 0 on
named_from : (digits : List ℕ) (n : ℕ) → size_from 0 digits ≡ Some n → 1 ≤ n → size_named digits ≡ Some n
named_from [] n e some = let zero_is : 0 ≡ n = cc in absurd (omega arith)
named_from (digit ∷ digits) n e some = e

-- a decimal names its number
pub size_of_decimal : (n : ℕ) → 1 ≤ n → n ≤ MAX_FIXED_STRING → size_named (decimal n) ≡ Some n
size_of_decimal n some within =
    named_from (decimal n) n (ap (size_from 0) (sym (append-nil (decimal n))) ∙ decimal_by_steps LeadsTo leads_one leads_more n (omega arith) some within []) some

-- digits more than a size's decimal are the decimal of the size that they lead to
more_digits : (size n : ℕ) (digits : List ℕ) → 1 ≤ size → size ≤ MAX_FIXED_STRING → size_from size digits ≡ Some n → (n ≤ MAX_FIXED_STRING) × (1 ≤ n) × (decimal n ≡ decimal size ++ digits)
more_digits size n [] some small e = let is : size ≡ n = cc in (omega arith, omega arith, ap decimal (sym is) ∙ sym (append-nil (decimal size)))
more_digits size n (digit ∷ digits) some small e =
    let step = then_is (λ next. size_from next digits) (next_size size digit) n e in
    let known = next_is size digit step.0 step.1 in
    let rest = more_digits step.0 n digits (known.2) (known.3) step.2 in
    let ten : step.0 / 10 ≡ size = omega (arith, known.0, known.1, known.4) in
    let last : 48 + step.0 % 10 ≡ digit = omega (arith, known.0, known.1, known.4) in
    (rest.0, rest.1, rest.2 ∙ ap (λ ds. ds ++ digits) (decimal_step step.0 (omega (arith, known.0, known.4)) (omega (arith, known.3)) ∙ ap (λ m. decimal m ++ (48 + step.0 % 10) ∷ []) ten ∙ ap (λ d. decimal size ++ d ∷ []) last) ∙ append_assoc (decimal size) (digit ∷ []) digits)

-- what is named is the decimal of a size
pub size_is : (digits : List ℕ) (n : ℕ) → size_named digits ≡ Some n → (n ≤ MAX_FIXED_STRING) × (1 ≤ n) × (decimal n ≡ digits)
size_is [] n e = cc
size_is (digit ∷ digits) n e =
    let step = then_is (λ next. size_from next digits) (next_size 0 digit) n e in
    let known = next_is 0 digit step.0 step.1 in
    let rest = more_digits step.0 n digits (known.2) (known.3) step.2 in
    let less : step.0 < 10 = omega (arith, known.1, known.4) in
    let last : 48 + step.0 ≡ digit = omega (arith, known.0, known.4) in
    (rest.0, rest.1, rest.2 ∙ ap (λ ds. ds ++ digits) (decimal_digit step.0 less ∙ ap (λ d. d ∷ []) last))
