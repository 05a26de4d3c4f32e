-- The walk from 1970-01-01 over years and months ends at the day of that number.
use Rattle.std.proofs.Common.{◌≡◌, ℕ, zero, suc, ◌+◌, ◌-◌, ◌*◌, ◌<◌, ◌≤◌, ltb, inl, inr, refl, sym, ◌∙◌, arith, pos}
use Rattle.std.proofs.lemmas.Bool.{cases_Bool, ltb-true, ltb-false}
use Rattle.std.proofs.lemmas.Int.{ints}
use Rattle.jiff_core.specs.declared.civil.date.Date.{Date}
use Rattle.jiff_core.specs.Calendar.{days_in_year, days_in_month, days_of_months, day_count, days_from_civil, IsCivilDate}
use Rattle.jiff_core.specs.Date.{epoch_day}
use Rattle.jiff_core.proofs.CalendarLemmas.{day_count-next_year, day_count-next_month, day_count-day, days_in_year_bounds, days_of_months_more, days_of_months_all, days_of_months-zero}
use Rattle.jiff_core.proofs.DateLemmas.{epoch_day_injective}
use Rattle.mt_calendar.specs.Dates.{year_of_days, month_of_days, civil_of}

-- the day is in this year
record IsInYear (year days y d : ℕ) : Type 0 where
  same : day_count (pos y) 1 1 + d ≡ day_count (pos year) 1 1 + days
  inside : d < days_in_year (pos y)
  later : year ≤ y

year_walk : (years year days : ℕ) → days < 365 * years → (let r = year_of_days years year days in IsInYear year days r.0 r.1 × (r.0 < year + years))
unfolding year_of_days
year_walk zero year days lt = absurd (omega arith)
year_walk (suc years) year days lt =
    elim (cases_Bool (ltb days (days_in_year (pos year)))) [
      | inl inside ↦ rw inside (record { same = refl; inside = ltb-true _ _ inside; later = omega arith }, omega arith)
      | inr outside ↦
          let le = ltb-false _ _ outside in
          let bounds = days_in_year_bounds (pos year) in
          let r = year_walk years (year + 1) (days - days_in_year (pos year)) (omega (arith, le, bounds)) in
          let next = day_count-next_year (pos year) (pos (year + 1)) (omega (arith, ints)) (omega (arith, ints)) in
          rw outside (record { same = omega (arith, r.0.same, next, le); inside = r.0.inside; later = omega (arith, r.0.later) }, omega (arith, r.1))
    ]

-- the day is in this month
record IsInMonth (year month days m d : ℕ) : Type 0 where
  same : day_count (pos year) m 1 + d ≡ day_count (pos year) month 1 + days
  inside : d < days_in_month (pos year) m
  first : 1 ≤ m
  last : m ≤ 12

month_walk : (months year month days : ℕ) → 1 ≤ month → month + months ≡ 13 → days + days_of_months (pos year) (month - 1) < days_in_year (pos year)
    → (let r = month_of_days months year month days in IsInMonth year month days r.0 r.1)
unfolding month_of_days
month_walk zero year month days one sum lt =
    let m : month - 1 ≡ 12 = omega arith in
    absurd (let l = rw m at lt in omega (arith, l, days_of_months_all (pos year)))
month_walk (suc months) year month days one sum lt =
    elim (cases_Bool (ltb days (days_in_month (pos year) month))) [
      | inl inside ↦ rw inside (record { same = refl; inside = ltb-true _ _ inside; first = one; last = omega arith })
      | inr outside ↦
          let le = ltb-false _ _ outside in
          let more = days_of_months_more (pos year) month one in
          let here : month + 1 - 1 ≡ month = omega arith in
          let r = month_walk months year (month + 1) (days - days_in_month (pos year) month) (omega arith) (omega arith) (rw here (omega (arith, lt, more, le))) in
          let next = day_count-next_month (pos year) month one in
          rw outside (record { same = omega (arith, r.same, next, le); inside = r.inside; first = r.first; last = r.last })
    ]

-- a day of the calendar by its parts, and its number
pub record IsDay (day y m d : ℕ) : Type 0 where
  pub year : y < 2150
  pub civil : IsCivilDate (pos y) m d
  pub number : days_from_civil (pos y) m d ≡ pos day

pub walked : (day : ℕ) → day < 65536 → (let r = civil_of day in IsDay day r.0 r.1.0 r.1.1)
unfolding civil_of days_from_civil
walked day lt =
    let r = year_walk 180 1970 day (omega arith) in
    let y = (year_of_days 180 1970 day).0 in
    let d = (year_of_days 180 1970 day).1 in
    let none = days_of_months-zero (pos y) in
    let m = month_walk 12 y 1 d (omega arith) (omega arith) (omega (arith, none, r.0.inside)) in
    let same = day_count-day (pos y) (month_of_days 12 y 1 d).0 1 ((month_of_days 12 y 1 d).1 + 1) (omega arith) (omega arith) in
    record {
      year = omega (arith, r.1);
      civil = ((omega (arith, ints), omega (arith, ints, r.1)), (m.first, m.last), (omega arith, omega (arith, m.inside)));
      number = omega (arith, ints, same, m.same, r.0.same);
    }

-- the date of a day number has the parts of the walk
pub civil_is : (date : Date) (day : ℕ) → day < 65536 → epoch_day date ≡ pos day → (date.year ≡ pos (civil_of day).0) × (date.month ≡ (civil_of day).1.0) × (date.day ≡ (civil_of day).1.1) × ((civil_of day).0 < 2150)
civil_is date day lt is =
    let w = walked day lt in
    let other : Date = record { year = pos (civil_of day).0; month = (civil_of day).1.0; day = (civil_of day).1.1; year_in = w.civil.0; month_in = w.civil.1; day_in = w.civil.2 } in
    let e = epoch_day_injective date other (is ∙ sym w.number) in
    (e.0, e.1, e.2, w.year)
