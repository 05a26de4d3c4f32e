-- Small signed numbers as unsigned ones.
use Rattle.std.proofs.Common.{◌≡◌, ℕ, ◌<◌, ℤ, pos, arith, rules, refl, FitsSigned}
use Rattle.std.proofs.lemmas.Int.{ints, to_z-of_z}
use lib.Dec.{T}
use lib.Signed.{non_neg}
use lib.IntN.{nat_abs}
use mir.Val.{to_z, of_z, Fits}
use mir.Syntax.{w8, w16}

year_fits : (y : ℕ) → y < 2150 → FitsSigned w16 (pos y)
year_fits y lt = search (rules, ints)

part_fits : (n : ℕ) → n < 100 → FitsSigned w8 (pos n)
part_fits n lt = search (rules, ints)

pub cast_year : (z : ℤ) (y : ℕ) → z ≡ pos y → y < 2150 → T (non_neg (to_z w16 (of_z w16 z))) × Fits w16 (nat_abs (to_z w16 (of_z w16 z)))
cast_year z y e lt = rw (e, to_z-of_z w16 (pos y) (year_fits y lt)) (tt, omega arith)

pub year_is : (z : ℤ) (y : ℕ) → z ≡ pos y → y < 2150 → nat_abs (to_z w16 (of_z w16 z)) ≡ y
year_is z y e lt = rw (e, to_z-of_z w16 (pos y) (year_fits y lt)) refl

pub part_is : (z : ℤ) (n : ℕ) → z ≡ pos n → n < 100 → nat_abs (to_z w8 (of_z w8 z)) ≡ n
part_is z n e lt = rw (e, to_z-of_z w8 (pos n) (part_fits n lt)) refl
