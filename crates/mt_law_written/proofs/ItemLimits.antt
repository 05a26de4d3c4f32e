-- The item of a value that fits has at most the bytes of a text and of its length.
use Rattle.std.proofs.Common.{◌≡◌, ℕ, ℤ, ◌≤◌, Bool, true, false, List, [], length, refl, ap, sym, ◌∙◌, arith, lit≤}
use Rattle.std.specs.Prelude.{nat_le, ◌&&◌, if◌then◌else◌}
use Rattle.std.proofs.lemmas.Bool.{and_parts, leb-true}
use Rattle.mt_types.specs.declared.limits.TheConstants.{MAX_FIXED_STRING}
use Rattle.mt_types.specs.declared.ty.Width.TheVariants.{W16, W32}
use Rattle.mt_types.specs.declared.ty.Ty.{Ty, map-Ty, out-Ty}
use Rattle.mt_types.specs.declared.ty.Ty.TheOpen.{Ty-F}
use Rattle.mt_types.specs.declared.value.Value.{Value, out-Value}
use Rattle.mt_types.specs.declared.value.Value.TheVariants.{Num, outs-Num}
use Rattle.mt_types.specs.Fits.{fits_of, fits_step, is_count, is_state_of}
use Rattle.mt_types.specs.Items.{fixed_at, item_bytes, item_step, state_at, text_at}
use Rattle.mt_types.specs.Profile.{Plain, Unknown, is_known, is_profile}
use Rattle.mt_types.proofs.Levels.{kind_at}
use Rattle.mt_types.proofs.NumberLemmas.{fits_at, item_at}
use Rattle.mt_law_written.proofs.LevelLimits.{count_small, fixed_size, item_limit, state_size, state_small, text_size, whole_size}

-- ---- numbers

-- the items of types of this level
abbrev items_at : Ty-F Ty → Value → List ℕ
items_at level = item_step (map-Ty Ty (Value → List ℕ) item_bytes level)

-- no type has more for a number
number_at : (level : Ty-F Ty) (n : ℤ) → length (items_at level (Num n)) ≤ 16
number_at (Ty-F.UInt w) n = whole_size w (out-Value (Num n))
number_at (Ty-F.Int w) n = whole_size w (out-Value (Num n))
number_at (Ty-F.FixedString size) n = omega (arith, ap (λ l. length (fixed_at l)) (outs-Num n))
number_at Ty-F.Str n = omega (arith, ap (λ l. length (text_at l)) (outs-Num n))
number_at Ty-F.Date n = whole_size W16 (out-Value (Num n))
number_at Ty-F.Moment n = whole_size W32 (out-Value (Num n))
number_at (Ty-F.Nullable u) n = lit≤ tt
number_at (Ty-F.Array u) n = lit≤ tt
number_at (Ty-F.State a u) n = omega (arith, ap (λ l. length (state_at (item_bytes u) l)) (outs-Num n))
number_at Ty-F.CountState n = omega (arith, ap (λ l. length (state_at (λ _. []) l)) (outs-Num n))

number_item : (t : Ty) (n : ℤ) → length (item_bytes t (Num n)) ≤ 16
number_item t n = omega (arith, number_at (out-Ty t) n, ap (λ f. length (f (Num n))) (item_at t (out-Ty t) refl))

-- ---- items

-- a FixedString is not longer than they may be
abbrev IsOfSize : Ty-F Ty → Type 0
IsOfSize (Ty-F.FixedString size) = size ≤ MAX_FIXED_STRING
IsOfSize _ = Unit {0}

item_size : (level : Ty-F Ty) → IsOfSize level → (v : Value) → fits_step (map-Ty Ty (Value → Bool) fits_of level) v ≡ true → length (items_at level v) ≤ item_limit
item_size (Ty-F.UInt w) sized v fits = omega (arith, whole_size w (out-Value v))
item_size (Ty-F.Int w) sized v fits = omega (arith, whole_size w (out-Value v))
item_size (Ty-F.FixedString size) sized v fits = fixed_size size sized (out-Value v) fits
item_size Ty-F.Str sized v fits = text_size (out-Value v) fits
item_size Ty-F.Date sized v fits = omega (arith, whole_size W16 (out-Value v))
item_size Ty-F.Moment sized v fits = omega (arith, whole_size W32 (out-Value v))
item_size (Ty-F.Nullable u) sized v fits = lit≤ tt
item_size (Ty-F.Array u) sized v fits = lit≤ tt
item_size (Ty-F.State a u) sized v fits = omega (arith, state_size (item_bytes u) (number_item u) (is_state_of a (fits_of u)) (state_small a (fits_of u)) (out-Value v) fits)
item_size Ty-F.CountState sized v fits = omega (arith, state_size (λ _. []) (λ n. lit≤ tt) is_count count_small (out-Value v) fits)

fixed_known : (size : ℕ) (test : Bool) → (nat_le 1 size && nat_le size MAX_FIXED_STRING) ≡ test → is_known (if test then Plain else Unknown) ≡ true → size ≤ MAX_FIXED_STRING
fixed_known size true is known = leb-true size MAX_FIXED_STRING (and_parts (nat_le 1 size) (nat_le size MAX_FIXED_STRING) is).1
fixed_known size false is known = cc

-- so it is in a type of the profile
profile_size : (t : Ty) (level : Ty-F Ty) → out-Ty t ≡ level → is_profile t ≡ true → IsOfSize level
profile_size t (Ty-F.FixedString size) is profile = fixed_known size (nat_le 1 size && nat_le size MAX_FIXED_STRING) refl (ap is_known (sym (kind_at t (Ty-F.FixedString size) is)) ∙ profile)
profile_size t (Ty-F.UInt w) is profile = tt
profile_size t (Ty-F.Int w) is profile = tt
profile_size t Ty-F.Str is profile = tt
profile_size t Ty-F.Date is profile = tt
profile_size t Ty-F.Moment is profile = tt
profile_size t (Ty-F.Nullable u) is profile = tt
profile_size t (Ty-F.Array u) is profile = tt
profile_size t (Ty-F.State a u) is profile = tt
profile_size t Ty-F.CountState is profile = tt

pub item_within : (t : Ty) (v : Value) → is_profile t ≡ true → fits_of t v ≡ true → length (item_bytes t v) ≤ item_limit
item_within t v profile fits =
    let size = item_size (out-Ty t) (profile_size t (out-Ty t) refl profile) v (ap (λ f. f v) (sym (fits_at t (out-Ty t) refl)) ∙ fits) in
    omega (arith, size, ap (λ f. length (f v)) (item_at t (out-Ty t) refl))
