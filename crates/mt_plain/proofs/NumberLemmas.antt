-- 64-bit numbers: which values fit, and their items.
use Rattle.std.proofs.Common.{◌≡◌, ℕ, ℤ, pos, negsuc, ◌<◌, ◌^◌, true, refl, ap, sym, ◌∙◌}
use Rattle.std.proofs.lemmas.Bool.{ltb-true}
use Rattle.std.specs.Int.{w64, to_le_bytes}
use Rattle.mt_types.specs.declared.ty.Ty.TheVariants.{UInt}
use Rattle.mt_types.specs.declared.ty.Width.TheVariants.{W64}
use Rattle.mt_types.specs.declared.value.Value.{Value, out-Value}
use Rattle.mt_types.specs.declared.value.Value.TheVariants.{Num, outs-Num}
use Rattle.mt_types.specs.Fits.{fits_of, num_at, is_unsigned}
use Rattle.mt_types.specs.Items.{item_bytes, whole_at}
use Rattle.mt_defs.proofs.NaturalLemmas.{fits_u64}
use Rattle.mt_defs.proofs.Examples.{item_u64}

-- a number of the type, as a natural number
pub record IsNatural (n : ℤ) : Type 0 where
  pub natural : ℕ
  pub is : n ≡ pos natural
  pub small : natural < 2 ^ 64

natural_of : (n : ℤ) → is_unsigned 64 n ≡ true → IsNatural n
natural_of (pos m) h = record { natural = m; is = refl; small = ltb-true m (2 ^ 64) h }
natural_of (negsuc m) h = cc

pub number_fits : (v : Value) (n : ℤ) → v ≡ Num n → fits_of (UInt W64) v ≡ true → IsNatural n
number_fits v n is h = natural_of n (sym (ap (num_at (is_unsigned 64)) (ap out-Value is ∙ outs-Num n)) ∙ sym (fits_u64 v) ∙ h)

-- the item of a number
pub number_item : (v : Value) (m : ℕ) → v ≡ Num (pos m) → item_bytes (UInt W64) v ≡ to_le_bytes w64 m
number_item v m is = item_u64 v ∙ ap (whole_at w64) (ap out-Value is ∙ outs-Num (pos m))
