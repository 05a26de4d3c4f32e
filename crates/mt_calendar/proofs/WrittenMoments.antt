-- Written moments are read again.
use Rattle.std.proofs.Common.{◌≡◌, ℕ, ◌+◌, ◌*◌, ◌/◌, ◌%◌, ◌^◌, ◌<◌, true, ltb, List, [], ◌∷◌, ◌++◌, length, Some, refl, arith, ◌∙◌}
use Rattle.std.proofs.lemmas.Bool.{lt-ltb}
use Rattle.mt_calendar.specs.Dates.{two_digits, date_of, date_text, civil_of, civil_text}
use Rattle.mt_calendar.specs.Moments.{time_number, time_of, time_text, second_in_type, moment_of, moment_text}
use Rattle.mt_calendar.proofs.WrittenDates.{two_again, date_again, ArePlain, digits_bytes, date_bytes}

number_again : (h m s : ℕ) → h < 24 → m < 60 → s < 60 → time_number h m s ≡ Some ((h * 60 + m) * 60 + s)
number_again h m s hh hm hs = rw (lt-ltb h 24 hh, lt-ltb m 60 hm, lt-ltb s 60 hs) refl

pub time_again : (second : ℕ) → second < 86400 → time_of (time_text second) ≡ Some second
unfolding time_of
time_again second lt =
    let h : second / 3600 < 24 = omega arith in
    let m : second / 60 % 60 < 60 = omega arith in
    let s : second % 60 < 60 = omega arith in
    let whole : (second / 3600 * 60 + second / 60 % 60) * 60 + second % 60 ≡ second = omega arith in
    rw (two_again (second / 3600) (omega (arith, h)), two_again (second / 60 % 60) (omega (arith, m)), two_again (second % 60) (omega (arith, s)))
    (number_again _ _ _ h m s ∙ rw whole refl)

parts_again : (date : ℕ × (ℕ × ℕ)) (day second : ℕ) (time : List ℕ) → date_of (civil_text date) ≡ Some day → time_of time ≡ Some second
    → moment_of (civil_text date ++ (32 ∷ time)) ≡ second_in_type (day * 86400 + second)
unfolding moment_of
parts_again (y, (m, d)) day second time is_date is_time =
    let long : ltb 10 (length (civil_text (y, (m, d)) ++ (32 ∷ time))) ≡ true = lt-ltb 10 _ (omega arith) in
    rw (long, is_date, is_time) refl

pub moment_again : (second : ℕ) → second < 2 ^ 32 → moment_of (moment_text second) ≡ Some second
unfolding date_text
moment_again second lt =
    let day : second / 86400 < 65536 = omega arith in
    let rest : second % 86400 < 86400 = omega arith in
    let whole : second / 86400 * 86400 + second % 86400 ≡ second = omega arith in
    parts_again (civil_of (second / 86400)) _ _ _ (date_again (second / 86400) day) (time_again (second % 86400) rest)
    ∙ rw (whole, lt-ltb second (2 ^ 32) lt) refl

last_digits : (n : ℕ) → n < 100 → ArePlain (two_digits n)
last_digits n lt = digits_bytes n lt [] tt

time_bytes : (second : ℕ) → second < 86400 → ArePlain (time_text second)
time_bytes second lt =
    let seconds : ArePlain (58 ∷ two_digits (second % 60)) = ((omega arith, omega arith, omega arith), last_digits (second % 60) (omega arith)) in
    let minutes : ArePlain (58 ∷ (two_digits (second / 60 % 60) ++ (58 ∷ two_digits (second % 60)))) =
    ((omega arith, omega arith, omega arith), digits_bytes (second / 60 % 60) (omega arith) (58 ∷ two_digits (second % 60)) seconds) in
    digits_bytes (second / 3600) (omega arith) (58 ∷ (two_digits (second / 60 % 60) ++ (58 ∷ two_digits (second % 60)))) minutes

plain_append : (xs ys : List ℕ) → ArePlain xs → ArePlain ys → ArePlain (xs ++ ys)
plain_append [] ys h k = k
plain_append (x ∷ xs) ys h k = (h.0, plain_append xs ys h.1 k)

pub moment_bytes : (second : ℕ) → second < 2 ^ 32 → ArePlain (moment_text second)
moment_bytes second lt =
    plain_append (date_text (second / 86400)) _ (date_bytes (second / 86400) (omega arith))
    ((omega arith, omega arith, omega arith), time_bytes (second % 86400) (omega arith))
