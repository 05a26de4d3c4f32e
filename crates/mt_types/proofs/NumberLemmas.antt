-- Values that are numbers, and their items.
use Rattle.std.proofs.Common.{◌≡◌, ℕ, suc, ◌-◌, ◌/◌, ◌%◌, ◌^◌, ◌<◌, ◌≤◌, ◌⊎◌, inl, inr, ℤ, pos, negsuc, Bool, true, false, List, [], ◌∷◌, take, refl, ap, sym, ◌∙◌, subst, arith}
use Rattle.std.specs.Prelude.{nat_le, nat_lt, ◌&&◌, if◌then◌else◌}
use Rattle.std.specs.Int.{w64, w128, to_le_bytes, cast_unsigned}
use Rattle.std.proofs.lemmas.Bool.{and_from, ltb-true, lt-ltb, leb-true, le-leb, le-ltb, ltb-false}
use Rattle.mt_types.specs.declared.ty.Width.{Width}
use Rattle.mt_types.specs.declared.ty.Width.TheVariants.{W8, W16, W32, W64, W128}
use Rattle.mt_types.specs.declared.ty.Ty.{Ty, map-Ty, out-Ty}
use Rattle.mt_types.specs.declared.ty.Ty.TheOpen.{Ty-F}
use Rattle.mt_types.specs.declared.ty.Ty.TheVariants.{outs-UInt, outs-Int, outs-Date}
use Rattle.mt_types.specs.declared.ty.Ty.TheFolds.{fold_out-Ty}
use Rattle.mt_types.specs.declared.value.Value.{Value, out-Value, roll-Value}
use Rattle.mt_types.specs.declared.value.Value.TheOpen.{Value-F}
use Rattle.mt_types.specs.declared.value.Value.TheVariants.{Num, Huge, outs-Num, outs-Huge}
use Rattle.mt_types.specs.declared.value.Value.TheViews.{roll-out-Value}
use Rattle.mt_types.specs.Fits.{Level, bits, fits_of, fits_step, is_signed, is_unsigned, natural_at, num_at, number_value}
use Rattle.mt_types.specs.Items.{item_bytes, item_step, whole_at, width}
use Rattle.mt_types.specs.Numbers.{bits_in, is_argument_at, is_argument_type, is_narrow, is_number_at, is_number_type, number_size, number_size_at, width_size}
use Rattle.mt_types.specs.Profile.{kind_of, width_kind}
use Rattle.mt_types.proofs.KindLemmas.{IsNumber, Known, unsigned, signed, day, moment, text, fixed, optional, nested, stored, counted, outside}
use Rattle.mt_types.proofs.OptionLemmas.{both_true}

-- ---- each number is one value

-- a number up to 2 ^ 127 - 1 is Num
pub number_num : (n : ℤ) → is_signed 128 n ≡ true → number_value n ≡ Num n
number_num (pos n) small = ap (λ b. if b then Num (pos n) else Huge n) small
number_num (negsuc n) small = refl

-- and a greater one is Huge
pub number_huge : (n : ℕ) → 2 ^ 127 ≤ n → number_value (pos n) ≡ Huge n
number_huge n large = ap (λ b. if b then Num (pos n) else Huge n) (le-ltb n (2 ^ 127) large)

-- values of one level are the same
level_is : (v u : Value) → out-Value v ≡ out-Value u → v ≡ u
level_is v u e = sym (roll-out-Value v) ∙ ap roll-Value e ∙ roll-out-Value u

-- a number that passes a test
num_level : (test : ℤ → Bool) (v : Value) (l : Level) → out-Value v ≡ l → num_at test l ≡ true → (n : ℤ) × (v ≡ Num n) × (test n ≡ true)
num_level test v (Value-F.Num n) is h = (n, level_is v (Num n) (is ∙ sym (outs-Num n)), h)
num_level test v _ is h = cc

pub num_is : (test : ℤ → Bool) (v : Value) → num_at test (out-Value v) ≡ true → (n : ℤ) × (v ≡ Num n) × (test n ≡ true)
num_is test v h = num_level test v (out-Value v) refl h

-- a number from 0 on, by its test
natural_num : (size : ℕ) (n : ℤ) → is_unsigned size n ≡ true → (m : ℕ) × (n ≡ pos m) × (m < 2 ^ size)
natural_num size (pos m) h = (m, refl, ltb-true m (2 ^ size) h)
natural_num size (negsuc m) h = cc

-- a number that has no sign and is Num
small_is : (w : Width) (size : ℕ) (v : Value) → 2 ^ size ≤ 2 ^ 127 → 2 ^ size ≤ 2 ^ bits w → num_at (is_unsigned size) (out-Value v) ≡ true → (m : ℕ) × (v ≡ number_value (pos m)) × (m < 2 ^ bits w)
small_is w size v low high h =
    let l = num_is (is_unsigned size) v h in
    let n = natural_num size l.0 l.2 in
    (n.0, l.1 ∙ ap Num n.1 ∙ sym (number_num (pos n.0) (lt-ltb n.0 (2 ^ 127) (omega (arith, n.2, low)))), omega (arith, n.2, high))

-- a number of 128 bits without a sign
wide_level : (v : Value) (l : Level) → out-Value v ≡ l → natural_at W128 l ≡ true → (m : ℕ) × (v ≡ number_value (pos m)) × (m < 2 ^ 128)
wide_level v (Value-F.Huge n) is h =
    let both = both_true (nat_le (2 ^ 127) n) (nat_lt n (2 ^ 128)) h in
    (n, level_is v (Huge n) (is ∙ sym (outs-Huge n)) ∙ sym (number_huge n (leb-true (2 ^ 127) n both.0)), ltb-true n (2 ^ 128) both.1)
wide_level v (Value-F.Num n) is h = small_is W128 127 v (omega arith) (omega arith) (ap (num_at (is_unsigned 127)) is ∙ h)
wide_level v _ is h = cc

-- a value of a type without a sign is that of a number
pub natural_is : (w : Width) (v : Value) → natural_at w (out-Value v) ≡ true → (m : ℕ) × (v ≡ number_value (pos m)) × (m < 2 ^ bits w)
natural_is W8 v h = small_is W8 8 v (omega arith) (omega arith) h
natural_is W16 v h = small_is W16 16 v (omega arith) (omega arith) h
natural_is W32 v h = small_is W32 32 v (omega arith) (omega arith) h
natural_is W64 v h = small_is W64 64 v (omega arith) (omega arith) h
natural_is W128 v h = wide_level v (out-Value v) refl h

-- numbers of at most 64 bits are Num
small_level : (w : Width) (m : ℕ) → natural_at w (Value-F.Num (pos m)) ≡ is_unsigned (bits w) (pos m) → m < 2 ^ bits w → m < 2 ^ 127 → natural_at w (out-Value (number_value (pos m))) ≡ true
small_level w m same small low = ap (λ v. natural_at w (out-Value v)) (number_num (pos m) (lt-ltb m (2 ^ 127) low)) ∙ ap (natural_at w) (outs-Num (pos m)) ∙ same ∙ lt-ltb m (2 ^ bits w) small

-- and the others, where they are
wide_fits : (m : ℕ) (test : Bool) → nat_lt m (2 ^ 127) ≡ test → m < 2 ^ 128 → natural_at W128 (out-Value (if test then Num (pos m) else Huge m)) ≡ true
wide_fits m true is small = ap (natural_at W128) (outs-Num (pos m)) ∙ is
wide_fits m false is small =
    ap (natural_at W128) (outs-Huge m) ∙ and_from (nat_le (2 ^ 127) m) (nat_lt m (2 ^ 128)) (le-leb (2 ^ 127) m (ltb-false m (2 ^ 127) is)) (lt-ltb m (2 ^ 128) small)

-- the value of a number is of every type without a sign that has the number
pub natural_fits : (w : Width) (m : ℕ) → m < 2 ^ bits w → natural_at w (out-Value (number_value (pos m))) ≡ true
natural_fits W8 m small = small_level W8 m refl small (omega (arith, small))
natural_fits W16 m small = small_level W16 m refl small (omega (arith, small))
natural_fits W32 m small = small_level W32 m refl small (omega (arith, small))
natural_fits W64 m small = small_level W64 m refl small (omega (arith, small))
natural_fits W128 m small = wide_fits m (nat_lt m (2 ^ 127)) refl small

-- ---- types by their levels

-- which values a type of this level has
pub fits_at : (t : Ty) (level : Ty-F Ty) → out-Ty t ≡ level → fits_of t ≡ fits_step (map-Ty Ty (Value → Bool) fits_of level)
fits_at t level is = fold_out-Ty (Value → Bool) fits_step t ∙ ap (λ l. fits_step (map-Ty Ty (Value → Bool) fits_of l)) is

-- the items of a type of this level
pub item_at : (t : Ty) (level : Ty-F Ty) → out-Ty t ≡ level → item_bytes t ≡ item_step (map-Ty Ty (Value → List ℕ) item_bytes level)
item_at t level is = fold_out-Ty (Value → List ℕ) item_step t ∙ ap (λ l. item_step (map-Ty Ty (Value → List ℕ) item_bytes l)) is

-- ---- the items of numbers

-- the low bytes of what has no sign are those of its width
natural_bytes : (w : Width) (l : Level) → natural_at w l ≡ true → whole_at (width w) l ≡ take (width_size w) (to_le_bytes w128 (bits_in l))
natural_bytes W8 (Value-F.Num (pos m)) fits = refl
natural_bytes W16 (Value-F.Num (pos m)) fits = refl
natural_bytes W32 (Value-F.Num (pos m)) fits = refl
natural_bytes W64 (Value-F.Num (pos m)) fits = refl
natural_bytes W128 (Value-F.Num (pos m)) fits = refl
natural_bytes W128 (Value-F.Huge m) fits = refl
natural_bytes W8 _ fits = cc
natural_bytes W16 _ fits = cc
natural_bytes W32 _ fits = cc
natural_bytes W64 _ fits = cc
natural_bytes W128 _ fits = cc

-- and so they are of a signed number
signed_bytes : (w : Width) (n : ℤ) → is_signed (bits w) n ≡ true → whole_at (width w) (Value-F.Num n) ≡ take (width_size w) (to_le_bytes w128 (cast_unsigned w128 n))
signed_bytes W8 (pos m) fits = refl
signed_bytes W16 (pos m) fits = refl
signed_bytes W32 (pos m) fits = refl
signed_bytes W64 (pos m) fits = refl
signed_bytes W128 n fits = refl
signed_bytes W8 (negsuc m) fits =
    let small : m < 2 ^ 7 = ltb-true m (2 ^ 7) fits in
    let low : (2 ^ 8 - suc m) % 256 ≡ (2 ^ 128 - suc m) % 256 = omega arith in
    rw low refl
signed_bytes W16 (negsuc m) fits =
    let small : m < 2 ^ 15 = ltb-true m (2 ^ 15) fits in
    let low : (2 ^ 16 - suc m) % 256 ≡ (2 ^ 128 - suc m) % 256 = omega arith in
    let next : (2 ^ 16 - suc m) / 256 % 256 ≡ (2 ^ 128 - suc m) / 256 % 256 = omega arith in
    rw (low, next) refl
signed_bytes W32 (negsuc m) fits =
    let small : m < 2 ^ 31 = ltb-true m (2 ^ 31) fits in
    let one : (2 ^ 32 - suc m) % 256 ≡ (2 ^ 128 - suc m) % 256 = omega arith in
    let two : (2 ^ 32 - suc m) / 256 % 256 ≡ (2 ^ 128 - suc m) / 256 % 256 = omega arith in
    let three : (2 ^ 32 - suc m) / 65536 % 256 ≡ (2 ^ 128 - suc m) / 65536 % 256 = omega arith in
    let four : (2 ^ 32 - suc m) / 16777216 % 256 ≡ (2 ^ 128 - suc m) / 16777216 % 256 = omega arith in
    rw (one, two, three, four) refl
signed_bytes W64 (negsuc m) fits =
    let small : m < 2 ^ 63 = ltb-true m (2 ^ 63) fits in
    let one : (2 ^ 64 - suc m) % 256 ≡ (2 ^ 128 - suc m) % 256 = omega arith in
    let two : (2 ^ 64 - suc m) / 256 % 256 ≡ (2 ^ 128 - suc m) / 256 % 256 = omega arith in
    let three : (2 ^ 64 - suc m) / 65536 % 256 ≡ (2 ^ 128 - suc m) / 65536 % 256 = omega arith in
    let four : (2 ^ 64 - suc m) / 16777216 % 256 ≡ (2 ^ 128 - suc m) / 16777216 % 256 = omega arith in
    let five : (2 ^ 64 - suc m) / 4294967296 % 256 ≡ (2 ^ 128 - suc m) / 4294967296 % 256 = omega arith in
    let six : (2 ^ 64 - suc m) / 1099511627776 % 256 ≡ (2 ^ 128 - suc m) / 1099511627776 % 256 = omega arith in
    let seven : (2 ^ 64 - suc m) / 281474976710656 % 256 ≡ (2 ^ 128 - suc m) / 281474976710656 % 256 = omega arith in
    let eight : (2 ^ 64 - suc m) / 72057594037927936 % 256 ≡ (2 ^ 128 - suc m) / 72057594037927936 % 256 = omega arith in
    rw (one, two, three, four, five, six, seven, eight) refl

signed_level : (w : Width) (l : Level) → num_at (is_signed (bits w)) l ≡ true → whole_at (width w) l ≡ take (width_size w) (to_le_bytes w128 (bits_in l))
signed_level w (Value-F.Num n) fits = signed_bytes w n fits
signed_level w _ fits = cc

number_level : (level : Ty-F Ty) (v : Value) → is_number_at level ≡ true → fits_step (map-Ty Ty (Value → Bool) fits_of level) v ≡ true
    → item_step (map-Ty Ty (Value → List ℕ) item_bytes level) v ≡ take (number_size_at level) (to_le_bytes w128 (bits_in (out-Value v)))
number_level (Ty-F.UInt w) v is fits = natural_bytes w (out-Value v) fits
number_level (Ty-F.Int w) v is fits = signed_level w (out-Value v) fits
number_level Ty-F.Date v is fits = natural_bytes W16 (out-Value v) fits
number_level Ty-F.Moment v is fits = natural_bytes W32 (out-Value v) fits
number_level _ v is fits = cc

-- the item of a number is the first of its bytes
pub number_item : (t : Ty) (v : Value) → is_number_type t ≡ true → fits_of t v ≡ true → item_bytes t v ≡ take (number_size t) (to_le_bytes w128 (bits_in (out-Value v)))
number_item t v is fits =
    ap (λ f. f v) (item_at t (out-Ty t) refl) ∙ number_level (out-Ty t) v is (ap (λ f. f v) (sym (fits_at t (out-Ty t) refl)) ∙ fits)

-- ---- the arguments of min and max

argument_level : (level : Ty-F Ty) → is_argument_at level ≡ true → is_number_at level ≡ true
argument_level (Ty-F.UInt w) is = refl
argument_level (Ty-F.Int w) is = refl
argument_level Ty-F.Date is = refl
argument_level _ is = cc

-- they are numbers
pub argument_number : (t : Ty) → is_argument_type t ≡ true → is_number_type t ≡ true
argument_number t is = argument_level (out-Ty t) is

narrow_width : (w : Width) → IsNumber (width_kind w) → is_narrow w ≡ true
narrow_width W8 number = refl
narrow_width W16 number = refl
narrow_width W32 number = refl
narrow_width W64 number = refl
narrow_width W128 number = absurd number

-- the types of their kinds
pub argument_known : (t : Ty) → Known t → IsNumber (kind_of t) → is_argument_type t ≡ true
argument_known t (unsigned w is k) number = ap is_argument_type is ∙ ap is_argument_at (outs-UInt w) ∙ narrow_width w (subst IsNumber k number)
argument_known t (signed w is k) number = ap is_argument_type is ∙ ap is_argument_at (outs-Int w) ∙ narrow_width w (subst IsNumber k number)
argument_known t (day is k) number = ap is_argument_type is ∙ ap is_argument_at outs-Date
argument_known t (moment is k) number = absurd (subst IsNumber k number)
argument_known t (text is k) number = absurd (subst IsNumber k number)
argument_known t (fixed n is low high k) number = absurd (subst IsNumber k number)
argument_known t (optional inner is scalar k) number = absurd (subst IsNumber k number)
argument_known t (nested inner depth is e k) number = absurd (subst IsNumber k number)
argument_known t (stored agg inner is e k) number = absurd (subst IsNumber k number)
argument_known t (counted is k) number = absurd (subst IsNumber k number)
argument_known t (outside k) number = absurd (subst IsNumber k number)
