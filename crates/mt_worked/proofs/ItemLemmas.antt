-- Items of unsigned integers: which values fit, and their bytes.
use Rattle.std.proofs.Common.{◌≡◌, ℕ, ℤ, pos, negsuc, ◌<◌, ◌^◌, Bool, true, List, refl, ap, sym, ◌∙◌}
use borrow.Author.Tests.{ltb-true}
use Rattle.std.specs.Int.{to_le_bytes}
use Rattle.mt_types.specs.declared.ty.Ty.{Ty, map-Ty}
use Rattle.mt_types.specs.declared.ty.Ty.TheVariants.{UInt, outs-UInt}
use Rattle.mt_types.specs.declared.ty.Ty.TheFolds.{fold_out-Ty}
use Rattle.mt_types.specs.declared.ty.Width.{Width}
use Rattle.mt_types.specs.declared.ty.Width.TheVariants.{W64}
use Rattle.mt_types.specs.declared.value.Value.{Value, out-Value}
use Rattle.mt_types.specs.declared.value.Value.TheVariants.{Num, outs-Num}
use Rattle.mt_types.specs.Fits.{fits_of, fits_step, natural_at, num_at, is_unsigned}
use Rattle.mt_types.specs.Items.{item_bytes, item_step, whole_at, width}

pub fits_UInt : (w : Width) (v : Value) → fits_of (UInt w) v ≡ natural_at w (out-Value v)
fits_UInt w v =
    ap (λ (f : Value → Bool). f v) (fold_out-Ty (Value → Bool) fits_step (UInt w) ∙ ap (λ l. fits_step (map-Ty Ty (Value → Bool) fits_of l)) (outs-UInt w))

pub item_bytes_UInt : (w : Width) (v : Value) → item_bytes (UInt w) v ≡ whole_at (width w) (out-Value v)
item_bytes_UInt w v =
    ap (λ (f : Value → List ℕ). f v) (fold_out-Ty (Value → List ℕ) item_step (UInt w) ∙ ap (λ l. item_step (map-Ty Ty (Value → List ℕ) item_bytes l)) (outs-UInt w))

-- a number of 64 bits, as a natural number
pub record IsNatural (n : ℤ) : Type 0 where
  pub natural : ℕ
  pub is : n ≡ pos natural
  pub fits_u64 : natural < 2 ^ 64

natural_of : (n : ℤ) → is_unsigned 64 n ≡ true → IsNatural n
natural_of (pos m) h = record { natural = m; is = refl; fits_u64 = ltb-true m (2 ^ 64) h }
natural_of (negsuc m) h = cc

pub number_fits : (v : Value) (n : ℤ) → v ≡ Num n → fits_of (UInt W64) v ≡ true → IsNatural n
number_fits v n is h = natural_of n (sym (ap (num_at (is_unsigned 64)) (ap out-Value is ∙ outs-Num n)) ∙ sym (fits_UInt W64 v) ∙ h)

-- the item of a number
pub number_item : (w : Width) (v : Value) (m : ℕ) → v ≡ Num (pos m) → item_bytes (UInt w) v ≡ to_le_bytes (width w) m
number_item w v m is = item_bytes_UInt w v ∙ ap (whole_at (width w)) (ap out-Value is ∙ outs-Num (pos m))
