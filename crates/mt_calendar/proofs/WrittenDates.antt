-- Written dates are read again.
use Rattle.std.proofs.Common.{◌≡◌, ◌≢◌, ℕ, ◌+◌, ◌-◌, ◌*◌, ◌/◌, ◌%◌, ◌^◌, ◌<◌, ◌≤◌, true, leb, List, ◌∷◌, ◌++◌, Some, refl, arith, pos}
use Rattle.std.specs.Char.{is_ascii_digit}
use Rattle.std.specs.List.{AllByRecursion}
use Rattle.std.proofs.lemmas.Bool.{le-leb, lt-ltb, and_from}
use Rattle.std.proofs.lemmas.Int.{ints}
use Rattle.jiff_core.specs.Calendar.{IsDate}
use Rattle.jiff_core.proofs.CalendarLemmas.{days_in_month_bounds}
use Rattle.mt_calendar.specs.Dates.{two_digits_at, two_digits, day_number, date_of, date_text, civil_of, civil_text}
use Rattle.mt_calendar.proofs.Days.{test_from}
use Rattle.mt_calendar.proofs.Walk.{IsDay, walked}

digit : (n : ℕ) → n ≤ 9 → is_ascii_digit (48 + n) ≡ true
digit n h = and_from (leb 48 (48 + n)) (leb (48 + n) 57) (le-leb 48 (48 + n) (omega arith)) (le-leb (48 + n) 57 (omega arith))

pub two_again : (n : ℕ) → n < 100 → two_digits_at (48 + n / 10) (48 + n % 10) ≡ Some n
two_again n h =
    let tens : n / 10 ≤ 9 = omega arith in
    let ones : n % 10 ≤ 9 = omega arith in
    let value : (48 + n / 10 - 48) * 10 + (48 + n % 10 - 48) ≡ n = omega arith in
    rw (digit (n / 10) tens, digit (n % 10) ones, value) refl

read_again : (y m d day : ℕ) → y < 10000 → m < 100 → d < 100 → day_number y m d ≡ Some day → date_of (civil_text (y, (m, d))) ≡ Some day
unfolding date_of
read_again y m d day hy hm hd e =
    let whole : 100 * (y / 100) + y % 100 ≡ y = omega arith in
    rw (two_again (y / 100) (omega arith), two_again (y % 100) (omega arith), two_again m hm, two_again d hd) (rw whole e)

number_again : (day y m d : ℕ) → day < 65536 → IsDay day y m d → day_number y m d ≡ Some day
unfolding day_number
number_again day y m d lt h =
    let c = h.civil in
    let is : IsDate (pos y) (pos m) (pos d) = (c.0, (omega (arith, ints, c.1), omega (arith, ints, c.1)), (omega (arith, ints, c.2), omega (arith, ints, c.2))) in
    rw (test_from y m d is, h.number, lt-ltb day (2 ^ 16) lt) refl

pub date_again : (day : ℕ) → day < 65536 → date_of (date_text day) ≡ Some day
unfolding date_text
date_again day lt =
    let w = walked day lt in
    let bounds = days_in_month_bounds (pos (civil_of day).0) (civil_of day).1.0 in
    read_again (civil_of day).0 (civil_of day).1.0 (civil_of day).1.1 day (omega (arith, w.year)) (omega (arith, w.civil.1)) (omega (arith, w.civil.2, bounds)) (number_again day _ _ _ lt w)

-- digits, dashes, colons and spaces: no byte that a line or a text in quotes takes for another
abbrev pub ArePlain : List ℕ → Type 0
ArePlain bytes = AllByRecursion (λ b. (32 ≤ b) × (b ≤ 58) × (b ≢ 39)) bytes

pub digits_bytes : (n : ℕ) → n < 100 → (rest : List ℕ) → ArePlain rest → ArePlain (two_digits n ++ rest)
digits_bytes n h rest more = ((omega arith, omega arith, omega arith), ((omega arith, omega arith, omega arith), more))

civil_bytes : (y m d : ℕ) → y < 10000 → m < 100 → d < 100 → ArePlain (civil_text (y, (m, d)))
civil_bytes y m d hy hm hd =
    let day : ArePlain (45 ∷ two_digits d) = ((omega arith, omega arith, omega arith), ((omega arith, omega arith, omega arith), ((omega arith, omega arith, omega arith), tt))) in
    let month : ArePlain (45 ∷ (two_digits m ++ (45 ∷ two_digits d))) = ((omega arith, omega arith, omega arith), digits_bytes m hm (45 ∷ two_digits d) day) in
    let rest : ArePlain (two_digits (y % 100) ++ (45 ∷ (two_digits m ++ (45 ∷ two_digits d)))) = digits_bytes (y % 100) (omega arith) (45 ∷ (two_digits m ++ (45 ∷ two_digits d))) month in
    digits_bytes (y / 100) (omega arith) (two_digits (y % 100) ++ (45 ∷ (two_digits m ++ (45 ∷ two_digits d)))) rest

pub date_bytes : (day : ℕ) → day < 65536 → ArePlain (date_text day)
unfolding date_text
date_bytes day lt =
    let w = walked day lt in
    let bounds = days_in_month_bounds (pos (civil_of day).0) (civil_of day).1.0 in
    civil_bytes (civil_of day).0 (civil_of day).1.0 (civil_of day).1.1 (omega (arith, w.year)) (omega (arith, w.civil.1)) (omega (arith, w.civil.2, bounds))
