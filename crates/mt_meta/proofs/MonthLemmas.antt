-- The month of a day is that of its civil date.
use Rattle.std.proofs.Common.{◌≡◌, ℕ, suc, ◌+◌, ◌-◌, ◌*◌, ◌/◌, ◌<◌, ◌≤◌, inl, inr, cond, nat_lt, true, false, refl, ◌∙◌, arith, ℤ, pos, negsuc, ◌+ℤ◌}
use Rattle.std.proofs.lemmas.Bool.{cases_lt, lt-ltb}
use Rattle.std.proofs.lemmas.Bool.Decides.{nat_tests}
use Rattle.std.proofs.lemmas.Int.{ints}
use Rattle.jiff_core.specs.Calendar.{days_in_month, day_count, days_from_civil, IsCivilDate}
use Rattle.jiff_core.specs.March.{march_days, march_months}
use Rattle.jiff_core.proofs.CalendarLemmas.{days_from_civil-day_count, days_in_month_bounds, days_of_months_more}
use Rattle.jiff_core.proofs.MarchLemmas.{day_count-late, day_count-early, days_of_months-late}
use Rattle.mt_defs.specs.Partition.{month_of}

-- the year that begins in March, of a day of its era
year_of_era : (w r doe : ℕ) → w < 400 → march_days w + r < march_days (w + 1) → doe ≡ 365 * w + w / 4 - w / 100 + r
    → (doe - doe / 1460 + doe / 36524 - doe / 146096) / 365 ≡ w
year_of_era w r doe lt inside e = omega (arith, inside)

-- the parts that the month is computed by
parts : (day era doe w r mp : ℕ) → (day + 719468) / 146097 ≡ era → day + 719468 - era * 146097 ≡ doe → (doe - doe / 1460 + doe / 36524 - doe / 146096) / 365 ≡ w
    → doe - (365 * w + w / 4 - w / 100) ≡ r → (5 * r + 2) / 153 ≡ mp
    → month_of day ≡ (w + era * 400 + cond (nat_lt (cond (nat_lt mp 10) (mp + 3) (mp - 9)) 3) 1 0) * 100 + cond (nat_lt mp 10) (mp + 3) (mp - 9)
parts day era doe w r mp e1 e2 e3 e4 e5 = rw (e1, e2, e3, e4, e5) refl

-- the day r, from 0, of the year y that begins in March
month_in : (day y r mp : ℕ) → y < 2400 → march_days (y + 10000) + r < march_days (y + 10001) → day + 4371953 ≡ march_days (y + 10000) + r + 60 → (5 * r + 2) / 153 ≡ mp
    → month_of day ≡ (y + cond (nat_lt (cond (nat_lt mp 10) (mp + 3) (mp - 9)) 3) 1 0) * 100 + cond (nat_lt mp 10) (mp + 3) (mp - 9)
month_in day y r mp lt inside e em =
    let w = y - y / 400 * 400 in
    let doe = 365 * w + w / 4 - w / 100 + r in
    let within : march_days w + r < march_days (w + 1) = omega (arith, inside) in
    let e1 : (day + 719468) / 146097 ≡ y / 400 = omega (arith, inside, e) in
    let e2 : day + 719468 - y / 400 * 146097 ≡ doe = omega (arith, inside, e) in
    let e4 : doe - (365 * w + w / 4 - w / 100) ≡ r = omega arith in
    let year : w + y / 400 * 400 ≡ y = omega arith in
    parts day (y / 400) doe w r mp e1 e2 (year_of_era w r doe (omega arith) within refl) e4 em ∙ rw year refl

-- a date from March on
late : (day y m d : ℕ) → y < 2400 → 3 ≤ m → m ≤ 12 → 1 ≤ d → d ≤ days_in_month (pos y) m → day + 4371953 ≡ day_count (pos y) m d → month_of day ≡ y * 100 + m
late day y m d lt low high first last e =
    let count = day_count-late (pos y) (y + 10000) m d (omega (arith, ints)) low high first in
    let this = days_of_months-late (pos y) m low (omega arith) in
    let next = days_of_months-late (pos y) (m + 1) (omega arith) (omega arith) in
    let back : m + 1 - 1 ≡ m = omega arith in
    let more = days_of_months_more (pos y) m (omega arith) in
    let r = march_months m + d - 1 in
    let length : d + march_months m ≤ march_months (m + 1) = omega (arith, this, rw back at next, more) in
    let mp : (5 * r + 2) / 153 ≡ m - 3 = omega (arith, length) in
    let small : nat_lt (m - 3) 10 ≡ true = lt-ltb (m - 3) 10 (omega arith) in
    let is : m - 3 + 3 ≡ m = omega arith in
    let not_less : nat_lt m 3 ≡ false = grind (arith, nat_tests) in
    month_in day y r (m - 3) lt (omega (arith, length)) (omega (arith, count)) mp ∙ rw (small, is, not_less) (omega arith)

-- a date before March
early : (day y m d : ℕ) → y < 2400 → 1 ≤ y → 1 ≤ m → m ≤ 2 → 1 ≤ d → d ≤ days_in_month (pos y) m → day + 4371953 ≡ day_count (pos y) m d → month_of day ≡ y * 100 + m
early day y m d lt some low high first last e =
    let count = day_count-early (pos y) (y + 9999) m d (omega (arith, ints)) low high first in
    let r = march_months (m + 12) + d - 1 in
    let inside : march_days (y - 1 + 10000) + r < march_days (y - 1 + 10001) = grind (arith, nat_tests) in
    let back : y - 1 + 10000 ≡ y + 9999 = omega arith in
    let short : d ≤ 31 = grind (arith, nat_tests) in
    let mp : (5 * r + 2) / 153 ≡ m + 9 = omega (arith, short) in
    let large : nat_lt (m + 9) 10 ≡ false = grind (arith, nat_tests) in
    let is : m + 9 - 9 ≡ m = omega arith in
    let less : nat_lt m 3 ≡ true = lt-ltb m 3 (omega arith) in
    month_in day (y - 1) r (m + 9) (omega arith) inside (omega (arith, count)) mp ∙ rw (large, is, less) (omega arith)

-- the month of a day of the civil calendar
pub month_is : (day y m d : ℕ) → day < 65536 → IsCivilDate (pos y) m d → days_from_civil (pos y) m d ≡ pos day → month_of day ≡ y * 100 + m
month_is day y m d lt civil e =
    let count : day + 4371953 ≡ day_count (pos y) m d = omega (arith, ints, days_from_civil-day_count (pos y) m d, e) in
    elim (cases_lt m 3) [
      | inl before ↦
          let closed = day_count-early (pos y) (y + 9999) m d (omega (arith, ints)) civil.1.0 (omega (arith, before)) civil.2.0 in
          let bounds = days_in_month_bounds (pos y) m in
          early day y m d (omega (arith, closed, count)) (omega (arith, closed, count, before, civil.2, bounds)) civil.1.0 (omega (arith, before)) civil.2.0 civil.2.1 count
      | inr after ↦
          let closed = day_count-late (pos y) (y + 10000) m d (omega (arith, ints)) after civil.1.1 civil.2.0 in
          late day y m d (omega (arith, closed, count)) after civil.1.1 civil.2.0 civil.2.1 count
    ]

-- how far the calendar's days reach back and forth from 1970-01-01
year_below : (z : ℤ) (n m d day : ℕ) → day < 65536 → z +ℤ pos 10000 ≡ pos (suc n) → 1 ≤ m → m ≤ 12 → 1 ≤ d → d ≤ 31 → day + 4371953 ≡ day_count z m d → (11900 < n) × (n < 12200)
year_below z n m d day lt shift low high first last count =
    elim (cases_lt m 3) [
      | inl before ↦
          let closed = day_count-early z n m d shift low (omega (arith, before)) first in
          (omega (arith, closed, count, before), omega (arith, closed, count, before))
      | inr after ↦
          let closed = day_count-late z (suc n) m d shift after high first in
          (omega (arith, closed, count), omega (arith, closed, count))
    ]

-- the year of a day from 1970-01-01 on
pub year_from : (z : ℤ) (m d day : ℕ) → day < 65536 → IsCivilDate z m d → days_from_civil z m d ≡ pos day → (y : ℕ) × (z ≡ pos y) × (y < 2201)
year_from (pos y) m d day lt civil e =
    let count : day + 4371953 ≡ day_count (pos y) m d = omega (arith, ints, days_from_civil-day_count (pos y) m d, e) in
    let bounds = days_in_month_bounds (pos y) m in
    let r = year_below (pos y) (y + 9999) m d day lt (omega (arith, ints)) civil.1.0 civil.1.1 civil.2.0 (omega (arith, civil.2, bounds)) count in
    (y, refl, omega (arith, r))
year_from (negsuc a) m d day lt civil e =
    let count : day + 4371953 ≡ day_count (negsuc a) m d = omega (arith, ints, days_from_civil-day_count (negsuc a) m d, e) in
    let bounds = days_in_month_bounds (negsuc a) m in
    let small : a < 9999 = omega (arith, ints, civil.0) in
    let r = year_below (negsuc a) (9998 - a) m d day lt (omega (arith, ints)) civil.1.0 civil.1.1 civil.2.0 (omega (arith, civil.2, bounds)) count in
    absurd (omega (arith, r))
