-- What is read is a day or a second of the type.
use Rattle.std.proofs.Common.{◌≡◌, ℕ, ◌+◌, ◌*◌, ◌^◌, ℤ, pos, negsuc, Bool, true, false, ltb, List, [], ◌∷◌, take, drop, Option, Some, None, refl, subst}
use Rattle.std.specs.Prelude.{option_and_then, if◌then◌else◌}
use Rattle.jiff_core.specs.Calendar.{days_from_civil}
use Rattle.mt_calendar.specs.Dates.{two_digits_at, is_date, day_in_type, day_number, date_of}
use Rattle.mt_calendar.specs.Moments.{time_of, moment_of}

chosen : {A : Type 0} (test : Bool) (o : Option A) (a : A) → (if test then o else None) ≡ Some a → (test ≡ true) × (o ≡ Some a)
chosen true o a e = (refl, e)
chosen false o a e = cc

next_is : {A B : Type 0} (o : Option A) (f : A → Option B) (b : B) → option_and_then f o ≡ Some b → (a : A) × (f a ≡ Some b)
next_is None f b e = cc
next_is (Some a) f b e = (a, e)

below : (n limit count : ℕ) → (if ltb n limit then Some n else None) ≡ Some count → ltb count limit ≡ true
below n limit count e =
    let inside = chosen (ltb n limit) (Some n) count e in
    let is : n ≡ count = cc in
    subst (λ n. ltb n limit ≡ true) is inside.0

day_below : (n : ℤ) (day : ℕ) → day_in_type n ≡ Some day → ltb day (2 ^ 16) ≡ true
day_below (pos n) day e = below n (2 ^ 16) day e
day_below (negsuc n) day e = cc

number_in_type : (year month day n : ℕ) → day_number year month day ≡ Some n → ltb n (2 ^ 16) ≡ true
unfolding day_number
number_in_type year month day n e = day_below (days_from_civil (pos year) month day) n (chosen (is_date year month day) _ n e).1

pub date_in_type : (text : List ℕ) (day : ℕ) → date_of text ≡ Some day → ltb day (2 ^ 16) ≡ true
unfolding date_of
date_in_type (a ∷ b ∷ c ∷ d ∷ dash ∷ e ∷ f ∷ second_dash ∷ g ∷ h ∷ []) day is =
    let century = next_is (two_digits_at a b) _ day (chosen _ _ day is).1 in
    let year = next_is (two_digits_at c d) _ day century.1 in
    let month = next_is (two_digits_at e f) _ day year.1 in
    let last = next_is (two_digits_at g h) _ day month.1 in
    number_in_type _ month.0 last.0 day last.1
date_in_type _ day is = cc

pub moment_in_type : (text : List ℕ) (second : ℕ) → moment_of text ≡ Some second → ltb second (2 ^ 32) ≡ true
unfolding moment_of
moment_in_type text second is =
    let date = next_is (date_of (take 10 text)) _ second (chosen _ _ second is).1 in
    let time = next_is (time_of (drop 11 text)) _ second date.1 in
    below (date.0 * 86400 + time.0) (2 ^ 32) second time.1
