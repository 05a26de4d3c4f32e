-- The test of a date is the calendar's, and so is its day number.
use Rattle.std.proofs.Common.{◌≡◌, ℕ, ◌<◌, ◌≤◌, true, false, leb, None, refl, ◌∙◌, arith, ℤ, pos}
use Rattle.std.proofs.lemmas.Bool.{le-leb, leb-true, and_from, and_parts, false_from_ne_true}
use Rattle.std.proofs.lemmas.Int.{ints}
use Rattle.jiff_core.specs.Calendar.{IsDate, days_in_month, days_from_civil}
use Rattle.mt_calendar.specs.Dates.{is_date, day_in_type, day_number}

pub test_from : (y m d : ℕ) → IsDate (pos y) (pos m) (pos d) → is_date y m d ≡ true
test_from y m d h =
    let m1 : 1 ≤ m = omega (arith, ints, h.1.0) in
    let m12 : m ≤ 12 = omega (arith, ints, h.1.1) in
    let d1 : 1 ≤ d = omega (arith, ints, h.2.0) in
    let dn : d ≤ days_in_month (pos y) m = omega (arith, ints, h.2.1) in
    and_from (leb 1 m) _ (le-leb 1 m m1) (and_from (leb m 12) _ (le-leb m 12 m12) (and_from (leb 1 d) _ (le-leb 1 d d1) (le-leb d (days_in_month (pos y) m) dn)))

test_to : (y m d : ℕ) → y < 10000 → is_date y m d ≡ true → IsDate (pos y) (pos m) (pos d)
test_to y m d small e =
    let a = and_parts (leb 1 m) _ e in
    let b = and_parts (leb m 12) _ a.1 in
    let c = and_parts (leb 1 d) _ b.1 in
    let m1 = leb-true 1 m a.0 in
    let m12 = leb-true m 12 b.0 in
    let d1 = leb-true 1 d c.0 in
    let dn = leb-true d (days_in_month (pos y) m) c.1 in
    ((omega (arith, ints), omega (arith, ints)), (omega (arith, ints, m1), omega (arith, ints, m12)), (omega (arith, ints, d1), omega (arith, ints, dn)))

pub no_date : (y m d : ℕ) (yz mz dz : ℤ) → y < 10000 → yz ≡ pos y → mz ≡ pos m → dz ≡ pos d → (IsDate yz mz dz → ⊥) → None ≡ day_number y m d
unfolding day_number
no_date y m d yz mz dz small ey em ed none =
    let fails : is_date y m d ≡ false = false_from_ne_true (is_date y m d) (λ e. none (rw (ey, em, ed) (test_to y m d small e))) in
    rw fails refl

pos_is : (a b : ℕ) → pos a ≡ pos b → a ≡ b
pos_is a b e = cc

pub a_date : (y m d : ℕ) (yz mz dz : ℤ) (dy : ℤ) (dm dd : ℕ) → yz ≡ pos y → mz ≡ pos m → dz ≡ pos d → IsDate yz mz dz → dy ≡ yz → pos dm ≡ mz → pos dd ≡ dz → day_in_type (days_from_civil dy dm dd) ≡ day_number y m d
unfolding day_number
a_date y m d yz mz dz dy dm dd ey em ed is ty tm td =
    let passes : is_date y m d ≡ true = test_from y m d (rw (ey, em, ed) at is) in
    let my = ty ∙ ey in
    let mm = pos_is dm m (tm ∙ em) in
    let md = pos_is dd d (td ∙ ed) in
    rw (passes, my, mm, md) refl
