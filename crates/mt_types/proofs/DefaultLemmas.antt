-- A type's default is one of its values.
use Rattle.std.proofs.Common.{◌≡◌, ℕ, zero, suc, pos, Bool, true, [], refl, ap, ◌∙◌}
use Rattle.std.specs.Prelude.{replicate, length}
use Rattle.std.specs.List.{list_all}
use Rattle.std.proofs.lemmas.Bool.{and_from, eq-eqb}
use Rattle.std.proofs.lemmas.List.{length-replicate}
use Rattle.mt_types.specs.declared.ty.Width.{Width}
use Rattle.mt_types.specs.declared.ty.Width.TheVariants.{W8, W16, W32, W64, W128}
use Rattle.mt_types.specs.declared.ty.Agg.TheVariants.{Sum, Min, Max}
use Rattle.mt_types.specs.declared.ty.Ty.{Ty, map-Ty, out-Ty}
use Rattle.mt_types.specs.declared.ty.Ty.TheOpen.{Ty-F}
use Rattle.mt_types.specs.declared.ty.Ty.TheFolds.{fold_out-Ty}
use Rattle.mt_types.specs.declared.value.Value.{Value}
use Rattle.mt_types.specs.declared.value.Value.TheOpen.{Value-F}
use Rattle.mt_types.specs.declared.value.Value.TheVariants.{outs-Num, outs-Text, outs-Null, outs-List, outs-State}
use Rattle.mt_types.specs.Bytes.{is_byte}
use Rattle.mt_types.specs.Defaults.{default_of, default_at}
use Rattle.mt_types.specs.Fits.{fits_of, fits_step, bits, natural_at, is_signed}

-- 0 is a number of each width
zero_natural : (w : Width) → natural_at w (Value-F.Num (pos 0)) ≡ true
zero_natural W8 = refl
zero_natural W16 = refl
zero_natural W32 = refl
zero_natural W64 = refl
zero_natural W128 = refl

-- and of each with a sign
zero_signed : (w : Width) → is_signed (bits w) (pos 0) ≡ true
zero_signed W8 = refl
zero_signed W16 = refl
zero_signed W32 = refl
zero_signed W64 = refl
zero_signed W128 = refl

-- zeros are bytes
zeros_are_bytes : (n : ℕ) → list_all is_byte (replicate n 0) ≡ true
zeros_are_bytes zero = refl
zeros_are_bytes (suc n) = zeros_are_bytes n

-- at one level
default_fits_step : (l : Ty-F Ty) → fits_step (map-Ty Ty (Value → Bool) (λ t. fits_of t) l) (default_at l) ≡ true
default_fits_step (Ty-F.UInt w) = rw (outs-Num (pos 0)) (zero_natural w)
default_fits_step (Ty-F.Int w) = rw (outs-Num (pos 0)) (zero_signed w)
default_fits_step (Ty-F.FixedString n) = rw (outs-Text (replicate n 0)) (and_from _ _ (eq-eqb (length (replicate n 0)) n (length-replicate n 0)) (zeros_are_bytes n))
default_fits_step Ty-F.Str = rw (outs-Text []) refl
default_fits_step Ty-F.Date = rw (outs-Num (pos 0)) refl
default_fits_step Ty-F.Moment = rw (outs-Num (pos 0)) refl
default_fits_step (Ty-F.Nullable t) = rw outs-Null refl
default_fits_step (Ty-F.Array t) = rw (outs-List []) refl
default_fits_step (Ty-F.State Sum t) = simp outs-State refl
default_fits_step (Ty-F.State Min t) = simp outs-State refl
default_fits_step (Ty-F.State Max t) = simp outs-State refl
default_fits_step Ty-F.CountState = simp outs-State refl

-- the law
pub default_fits : (t : Ty) → fits_of t (default_of t) ≡ true
default_fits t = ap (λ f. f (default_of t)) (fold_out-Ty (Value → Bool) fits_step t) ∙ default_fits_step (out-Ty t)
