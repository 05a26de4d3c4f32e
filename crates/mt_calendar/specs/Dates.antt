-- Dates as text: docs/LANGUAGE.md, "Lines".
use Rattle.std.specs.Prelude.{ℕ, zero, suc, ◌+◌, ◌-◌, ◌*◌, ◌/◌, ◌%◌, ◌^◌, List, [], ◌∷◌, ◌++◌, Option, Some, None, Bool, nat_le, nat_lt, ◌&&◌, ◌==◌, if◌then◌else◌, ℤ, pos, negsuc, option_and_then}
use Rattle.std.specs.Char.{is_ascii_digit}
use Rattle.jiff_core.specs.Calendar.{days_in_year, days_in_month, days_from_civil}
use Rattle.mt_calendar.specs.declared.ascii.TheConstants.{DASH}

infixl 10 ◌>>=◌
-- the next step, if there is a value
abbrev pub ◌>>=◌ : {A B : Type 0} → Option A → (A → Option B) → Option B
o >>= f = option_and_then f o

-- the number of two digits
abbrev pub two_digits_at : ℕ → ℕ → Option ℕ
two_digits_at a b = if is_ascii_digit a && is_ascii_digit b then Some ((a - 48) * 10 + (b - 48)) else None

-- the calendar has this day
abbrev pub is_date : ℕ → ℕ → ℕ → Bool
is_date year month day = nat_le 1 month && (nat_le month 12 && (nat_le 1 day && nat_le day (days_in_month (pos year) month)))

-- days since 1970-01-01, if the type has so many
abbrev pub day_in_type : ℤ → Option ℕ
day_in_type (pos n) = if nat_lt n (2 ^ 16) then Some n else None
day_in_type (negsuc n) = None

-- the day of a date in days since 1970-01-01
unfoldable pub day_number : ℕ → ℕ → ℕ → Option ℕ
day_number year month day = if is_date year month day then day_in_type (days_from_civil (pos year) month day) else None

-- the day of a text YYYY-MM-DD
unfoldable pub date_of : List ℕ → Option ℕ
date_of (a ∷ b ∷ c ∷ d ∷ dash ∷ e ∷ f ∷ second_dash ∷ g ∷ h ∷ []) = if (dash == DASH) && (second_dash == DASH) then (do
  century ← two_digits_at a b
  year ← two_digits_at c d
  month ← two_digits_at e f
  day ← two_digits_at g h
  day_number (100 * century + year) month day) else None
date_of _ = None

-- the year and the days since its beginning, of so many days since the beginning of a year
unfoldable pub year_of_days : ℕ → ℕ → ℕ → ℕ × ℕ
year_of_days zero year days = (year, days)
year_of_days (suc years) year days =
    if nat_lt days (days_in_year (pos year)) then (year, days) else year_of_days years (year + 1) (days - days_in_year (pos year))

-- the month and the days since its beginning, of so many days since the beginning of a month
unfoldable pub month_of_days : ℕ → ℕ → ℕ → ℕ → ℕ × ℕ
month_of_days zero year month days = (month, days)
month_of_days (suc months) year month days =
    if nat_lt days (days_in_month (pos year) month) then (month, days) else month_of_days months year (month + 1) (days - days_in_month (pos year) month)

-- the year, month and day of a year and the days since its beginning
abbrev pub date_in_year : ℕ × ℕ → ℕ × (ℕ × ℕ)
date_in_year (year, days) = let month = month_of_days 12 year 1 days in (year, (month.0, month.1 + 1))

-- the year, month and day of a day since 1970-01-01, until 2149
unfoldable pub civil_of : ℕ → ℕ × (ℕ × ℕ)
civil_of day = date_in_year (year_of_days 180 1970 day)

-- a number below 100 as two digits
abbrev pub two_digits : ℕ → List ℕ
two_digits n = (48 + n / 10) ∷ (48 + n % 10) ∷ []

-- YYYY-MM-DD
abbrev pub civil_text : ℕ × (ℕ × ℕ) → List ℕ
civil_text (year, (month, day)) = two_digits (year / 100) ++ (two_digits (year % 100) ++ (DASH ∷ (two_digits month ++ (DASH ∷ two_digits day))))

-- the date of a day since 1970-01-01
unfoldable pub date_text : ℕ → List ℕ
date_text day = civil_text (civil_of day)
