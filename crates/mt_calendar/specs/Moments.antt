-- Moments as text, and the seconds of DateTime('UTC'): docs/LANGUAGE.md, "Lines".
use Rattle.std.specs.Prelude.{ℕ, ◌+◌, ◌*◌, ◌/◌, ◌%◌, ◌^◌, List, [], ◌∷◌, ◌++◌, length, take, drop, Option, Some, None, nat_lt, ◌&&◌, ◌==◌, if◌then◌else◌, slice_index}
use Rattle.mt_calendar.specs.declared.ascii.TheConstants.{COLON, SPACE}
use Rattle.mt_calendar.specs.declared.moment.TheConstants.{SECONDS_OF_DAY, DATE_BYTES}
use Rattle.mt_calendar.specs.Dates.{◌>>=◌, two_digits_at, two_digits, date_of, date_text}

-- the second of the day at a time from 00:00:00 to 23:59:59
abbrev pub time_number : ℕ → ℕ → ℕ → Option ℕ
time_number hour minute second =
    if nat_lt hour 24 && (nat_lt minute 60 && nat_lt second 60) then Some ((hour * 60 + minute) * 60 + second) else None

-- the second of the day of a text hh:mm:ss
unfoldable pub time_of : List ℕ → Option ℕ
time_of (a ∷ b ∷ colon ∷ c ∷ d ∷ second_colon ∷ e ∷ f ∷ []) = if (colon == COLON) && (second_colon == COLON) then (do
  hour ← two_digits_at a b
  minute ← two_digits_at c d
  second ← two_digits_at e f
  time_number hour minute second) else None
time_of _ = None

-- seconds since 1970-01-01 00:00:00, if the type has so many
abbrev pub second_in_type : ℕ → Option ℕ
second_in_type n = if nat_lt n (2 ^ 32) then Some n else None

-- the second of a text YYYY-MM-DD hh:mm:ss; all days of the type are days of a Date
unfoldable pub moment_of : List ℕ → Option ℕ
moment_of text =
    if nat_lt DATE_BYTES (length text) && (slice_index text DATE_BYTES == SPACE) then (do
      day ← date_of (take DATE_BYTES text)
      second ← time_of (drop (DATE_BYTES + 1) text)
      second_in_type (day * SECONDS_OF_DAY + second)) else None

-- hh:mm:ss
abbrev pub time_text : ℕ → List ℕ
time_text second = two_digits (second / 3600) ++ (COLON ∷ (two_digits (second / 60 % 60) ++ (COLON ∷ two_digits (second % 60))))

-- the date and time of a second since 1970-01-01 00:00:00
abbrev pub moment_text : ℕ → List ℕ
moment_text second = date_text (second / SECONDS_OF_DAY) ++ (SPACE ∷ time_text (second % SECONDS_OF_DAY))
