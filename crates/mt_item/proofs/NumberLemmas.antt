-- Whole numbers, and the types whose values are numbers.
use Rattle.std.proofs.Common.{◌≡◌, ℕ, ◌-◌, ◌^◌, ◌<◌, ℤ, pos, negsuc, Bool, true, false, List, ◌++◌, length, Ok, refl, ap, sym, ◌∙◌, arith, subst, lit≤}
use Rattle.std.specs.Prelude.{nat_lt, if◌then◌else◌}
use Rattle.std.specs.Int.{Width as Bits, w8, w16, w32, w64, w128, byte_len, to_le_bytes, from_le_bytes, cast_unsigned, cast_signed}
use Rattle.std.specs.Int.RustNames.{FitsSigned}
use Rattle.std.proofs.lemmas.Bool.{ltb-true, lt-ltb, eqb-true, eq-eqb}
use Rattle.std.proofs.lemmas.Int.{to_z-of_z, of_z-to_z}
use Rattle.std.proofs.Math.Facts.{sfits_to_z}
use Rattle.mt_types.specs.declared.ty.Width.{Width}
use Rattle.mt_types.specs.declared.ty.Width.TheVariants.{W8, W16, W32, W64, W128}
use Rattle.mt_types.specs.declared.ty.Ty.{Ty}
use Rattle.mt_types.specs.declared.ty.Ty.TheOpen.{Ty-F}
use Rattle.mt_types.specs.declared.ty.Ty.TheVariants.{UInt, Int, Date, Moment, outs-UInt, outs-Int, outs-Date, outs-Moment}
use Rattle.mt_types.specs.declared.value.Value.{Value, out-Value}
use Rattle.mt_types.specs.declared.value.Value.TheVariants.{Num, Huge, outs-Num, outs-Huge}
use Rattle.mt_types.specs.Fits.{fits_of, natural_at, num_at, number_value, is_signed, bits}
use Rattle.mt_types.specs.Items.{item_bytes, whole_at, width}
use Rattle.mt_types.specs.Numbers.{is_narrow}
use Rattle.mt_types.specs.Parts.{number_in}
use Rattle.mt_types.proofs.NumberLemmas.{fits_at, item_at, natural_fits, natural_is, num_is, number_num}
use Rattle.mt_types.proofs.StepLemmas.{ok_then, ok_pair}
use Rattle.mt_table.proofs.WidthLemmas.{signed_wide}
use Rattle.mt_item.specs.ItemReading.{First, read_as, bytes_front, whole_front}
use Rattle.mt_item.proofs.LengthLemmas.{Small}
use Rattle.mt_item.proofs.ExactLemmas.{IsExact, as_exact, reads_alike, read_twice, bytes_exact, small_front}
use Rattle.mt_item.proofs.WholeLemmas.{read_back, sum_back}

-- ---- little-endian numbers

-- bytes that are a number are its encoding
whole_back : (w : Width) (bytes : List ℕ) → length bytes ≡ byte_len (width w) → Small bytes
    → (from_le_bytes (width w) bytes < 2 ^ bits w) × (to_le_bytes (width w) (from_le_bytes (width w) bytes) ≡ bytes)
whole_back W8 bytes long small = read_back 0 bytes long small
whole_back W16 bytes long small = read_back 1 bytes long small
whole_back W32 bytes long small = read_back 3 bytes long small
whole_back W64 bytes long small = read_back 7 bytes long small
whole_back W128 bytes long small = read_back 15 bytes long small

size_of : (w : Width) (n : ℕ) → length (to_le_bytes (width w) n) ≡ byte_len (width w)
size_of W8 n = refl
size_of W16 n = refl
size_of W32 n = refl
size_of W64 n = refl
size_of W128 n = refl

pub number_back : (w : Width) (n : ℕ) → n < 2 ^ bits w → from_le_bytes (width w) (to_le_bytes (width w) n) ≡ n
number_back W8 n small = sum_back 0 n small
number_back W16 n small = sum_back 1 n small
number_back W32 n small = sum_back 3 n small
number_back W64 n small = sum_back 7 n small
number_back W128 n small = sum_back 15 n small

pub whole_exact : (w : Width) → IsExact (whole_front (width w)) (λ n. nat_lt n (2 ^ bits w)) (to_le_bytes (width w))
whole_exact w = record { sound = sound; complete = complete }
  where
    sound : (bytes : List ℕ) (n : ℕ) (rest : List ℕ) → Small bytes → whole_front (width w) bytes ≡ Ok (n, rest) → (nat_lt n (2 ^ bits w) ≡ true) × (bytes ≡ to_le_bytes (width w) n ++ rest)
    sound bytes n rest small e =
        ok_then (bytes_front (byte_len (width w)) bytes) (λ first. Ok (from_le_bytes (width w) first.0, first.1)) (n, rest) e (λ first is e.
        let p = ok_pair _ _ _ _ e in
        let s = (bytes_exact (byte_len (width w))).sound bytes first.0 first.1 small is in
        let long : length first.0 ≡ byte_len (width w) = eqb-true (length first.0) (byte_len (width w)) s.0 in
        let back = whole_back w first.0 long (small_front first.0 first.1 (subst Small s.1 small)) in (
          ap (λ (k : ℕ). nat_lt k (2 ^ bits w)) p.0 ∙ lt-ltb (from_le_bytes (width w) first.0) (2 ^ bits w) back.0,
          s.1 ∙ ap (λ (bs : List ℕ). bs ++ first.1) (sym back.1) ∙ ap (λ (k : ℕ). to_le_bytes (width w) k ++ first.1) (sym p.0) ∙ ap (λ (bs : List ℕ). to_le_bytes (width w) n ++ bs) (sym p.1),
        ))

    complete : (n : ℕ) (rest : List ℕ) → nat_lt n (2 ^ bits w) ≡ true → whole_front (width w) (to_le_bytes (width w) n ++ rest) ≡ Ok (n, rest)
    complete n rest fits =
        ap (read_as (from_le_bytes (width w))) ((bytes_exact (byte_len (width w))).complete (to_le_bytes (width w) n) rest (eq-eqb (length (to_le_bytes (width w) n)) (byte_len (width w)) (size_of w n)))
        ∙ ap (λ (k : ℕ). let r : First ℕ = Ok (k, rest) in r) (number_back w n (ltb-true n (2 ^ bits w) fits))

-- ---- the types whose values are numbers

-- a type whose values are numbers of so many bits, by what the bits stand for
pub record IsNumbers (ty : Ty) (w : Width) (value_of : ℕ → ℤ) : Type 0 where
  pub values : (v : Value) → fits_of ty v ≡ true → (m : ℕ) × (v ≡ number_value (value_of m)) × (m < 2 ^ bits w)
  pub fit : (m : ℕ) → m < 2 ^ bits w → fits_of ty (number_value (value_of m)) ≡ true
  pub item : (m : ℕ) → m < 2 ^ bits w → item_bytes ty (number_value (value_of m)) ≡ to_le_bytes (width w) m

-- the bytes of a number that has no sign, whichever value it is
natural_whole : (size : Bits) (m : ℕ) (test : Bool) → whole_at size (out-Value (if test then Num (pos m) else Huge m)) ≡ to_le_bytes size m
natural_whole size m true = ap (whole_at size) (outs-Num (pos m))
natural_whole size m false = ap (whole_at size) (outs-Huge m)

unsigned_values : (ty : Ty) (w : Width) → ((v : Value) → fits_of ty v ≡ natural_at w (out-Value v)) → ((v : Value) → item_bytes ty v ≡ whole_at (width w) (out-Value v)) → IsNumbers ty w (λ m. pos m)
unsigned_values ty w fits item = record {
  values = λ v f. natural_is w v (sym (fits v) ∙ f);
  fit = λ m small. fits (number_value (pos m)) ∙ natural_fits w m small;
  item = λ m small. item (number_value (pos m)) ∙ natural_whole (width w) m (nat_lt m (2 ^ 127));
}

pub numbers_UInt : (w : Width) → IsNumbers (UInt w) w (λ m. pos m)
numbers_UInt w = unsigned_values (UInt w) w (λ v. ap (λ f. f v) (fits_at (UInt w) (Ty-F.UInt w) (outs-UInt w))) (λ v. ap (λ f. f v) (item_at (UInt w) (Ty-F.UInt w) (outs-UInt w)))

pub numbers_Date : IsNumbers Date W16 (λ m. pos m)
numbers_Date = unsigned_values Date W16 (λ v. ap (λ f. f v) (fits_at Date Ty-F.Date outs-Date)) (λ v. ap (λ f. f v) (item_at Date Ty-F.Date outs-Date))

pub numbers_Moment : IsNumbers Moment W32 (λ m. pos m)
numbers_Moment = unsigned_values Moment W32 (λ v. ap (λ f. f v) (fits_at Moment Ty-F.Moment outs-Moment)) (λ v. ap (λ f. f v) (item_at Moment Ty-F.Moment outs-Moment))

-- signed numbers as their bits
signed_fits : (w : Width) (n : ℤ) → is_signed (bits w) n ≡ true → FitsSigned (width w) n × (cast_unsigned (width w) n < 2 ^ bits w)
signed_fits W8 (pos m) h = let small : m < 2 ^ 7 = ltb-true m (2 ^ 7) h in (record { sfits = small }, omega (arith, small))
signed_fits W16 (pos m) h = let small : m < 2 ^ 15 = ltb-true m (2 ^ 15) h in (record { sfits = small }, omega (arith, small))
signed_fits W32 (pos m) h = let small : m < 2 ^ 31 = ltb-true m (2 ^ 31) h in (record { sfits = small }, omega (arith, small))
signed_fits W64 (pos m) h = let small : m < 2 ^ 63 = ltb-true m (2 ^ 63) h in (record { sfits = small }, omega (arith, small))
signed_fits W128 (pos m) h = let small : m < 2 ^ 127 = ltb-true m (2 ^ 127) h in (record { sfits = small }, omega (arith, small))
signed_fits W8 (negsuc m) h = let small : m < 2 ^ 7 = ltb-true m (2 ^ 7) h in (record { sfits = small }, omega (arith, small))
signed_fits W16 (negsuc m) h = let small : m < 2 ^ 15 = ltb-true m (2 ^ 15) h in (record { sfits = small }, omega (arith, small))
signed_fits W32 (negsuc m) h = let small : m < 2 ^ 31 = ltb-true m (2 ^ 31) h in (record { sfits = small }, omega (arith, small))
signed_fits W64 (negsuc m) h = let small : m < 2 ^ 63 = ltb-true m (2 ^ 63) h in (record { sfits = small }, omega (arith, small))
signed_fits W128 (negsuc m) h = let small : m < 2 ^ 127 = ltb-true m (2 ^ 127) h in (record { sfits = small }, omega (arith, small))

fits_signed : (w : Width) (n : ℤ) → FitsSigned (width w) n → is_signed (bits w) n ≡ true
fits_signed W8 (pos m) f = lt-ltb m (2 ^ 7) f.sfits
fits_signed W16 (pos m) f = lt-ltb m (2 ^ 15) f.sfits
fits_signed W32 (pos m) f = lt-ltb m (2 ^ 31) f.sfits
fits_signed W64 (pos m) f = lt-ltb m (2 ^ 63) f.sfits
fits_signed W128 (pos m) f = lt-ltb m (2 ^ 127) f.sfits
fits_signed W8 (negsuc m) f = lt-ltb m (2 ^ 7) f.sfits
fits_signed W16 (negsuc m) f = lt-ltb m (2 ^ 15) f.sfits
fits_signed W32 (negsuc m) f = lt-ltb m (2 ^ 31) f.sfits
fits_signed W64 (negsuc m) f = lt-ltb m (2 ^ 63) f.sfits
fits_signed W128 (negsuc m) f = lt-ltb m (2 ^ 127) f.sfits

read_fits : (w : Width) (m : ℕ) → m < 2 ^ bits w → FitsSigned (width w) (cast_signed (width w) m)
read_fits W8 m small = sfits_to_z {w = w8} {n = m} (record { fits = small })
read_fits W16 m small = sfits_to_z {w = w16} {n = m} (record { fits = small })
read_fits W32 m small = sfits_to_z {w = w32} {n = m} (record { fits = small })
read_fits W64 m small = sfits_to_z {w = w64} {n = m} (record { fits = small })
read_fits W128 m small = sfits_to_z {w = w128} {n = m} (record { fits = small })

bits_again : (w : Width) (m : ℕ) → m < 2 ^ bits w → cast_unsigned (width w) (cast_signed (width w) m) ≡ m
bits_again W8 m small = of_z-to_z w8 m small
bits_again W16 m small = of_z-to_z w16 m small
bits_again W32 m small = of_z-to_z w32 m small
bits_again W64 m small = of_z-to_z w64 m small
bits_again W128 m small = of_z-to_z w128 m small

-- so bits of a signed type are Num
pub signed_num : (w : Width) (m : ℕ) → m < 2 ^ bits w → number_value (cast_signed (width w) m) ≡ Num (cast_signed (width w) m)
signed_num w m small = number_num (cast_signed (width w) m) (signed_wide w (cast_signed (width w) m) (fits_signed w (cast_signed (width w) m) (read_fits w m small)))

pub numbers_Int : (w : Width) → IsNumbers (Int w) w (cast_signed (width w))
numbers_Int w = record {
  values = λ v f.
      let l = num_is (is_signed (bits w)) v (sym (fits v) ∙ f) in
      let s = signed_fits w l.0 l.2 in
      (cast_unsigned (width w) l.0, l.1 ∙ sym (number_num l.0 (signed_wide w l.0 l.2)) ∙ ap number_value (sym (to_z-of_z (width w) l.0 s.0)), s.1);
  fit = λ m small.
      ap (fits_of (Int w)) (signed_num w m small) ∙ fits (Num (cast_signed (width w) m)) ∙ ap (num_at (is_signed (bits w))) (outs-Num (cast_signed (width w) m))
      ∙ fits_signed w (cast_signed (width w) m) (read_fits w m small);
  item = λ m small.
      ap (item_bytes (Int w)) (signed_num w m small) ∙ ap (λ f. f (Num (cast_signed (width w) m))) (item_at (Int w) (Ty-F.Int w) (outs-Int w)) ∙ ap (whole_at (width w)) (outs-Num (cast_signed (width w) m))
      ∙ ap (to_le_bytes (width w)) (bits_again w m small);
}
  where
    fits : (v : Value) → fits_of (Int w) v ≡ num_at (is_signed (bits w)) (out-Value v)
    fits v = ap (λ f. f v) (fits_at (Int w) (Ty-F.Int w) (outs-Int w))

-- the values of such a type are read exactly
pub number_exact : (ty : Ty) (w : Width) (value_of : ℕ → ℤ) → IsNumbers ty w value_of → IsExact (λ bytes. read_as number_value (read_as value_of (whole_front (width w) bytes))) (fits_of ty) (item_bytes ty)
number_exact ty w value_of are =
    reads_alike _ (λ bytes. read_as (λ m. number_value (value_of m)) (whole_front (width w) bytes)) (fits_of ty) (item_bytes ty) (λ bytes. read_twice number_value value_of (whole_front (width w) bytes))
    (as_exact (λ m. number_value (value_of m)) (whole_front (width w)) (λ n. nat_lt n (2 ^ bits w)) (to_le_bytes (width w)) (fits_of ty) (item_bytes ty)
    (record {
      values = λ v fits. let u = are.values v fits in (u.0, u.1, lt-ltb u.0 (2 ^ bits w) u.2);
      fit = λ m fits. are.fit m (ltb-true m (2 ^ bits w) fits);
      items = λ m fits. are.item m (ltb-true m (2 ^ bits w) fits);
    })
    (whole_exact w))

-- ---- the numbers that min and max gather

-- the same number
pub num_same : (m n : ℤ) → Num m ≡ Num n → m ≡ n
num_same m n e = sym (ap number_in (outs-Num m)) ∙ ap (λ (v : Value). number_in (out-Value v)) e ∙ ap number_in (outs-Num n)

-- a number of at most 64 bits is Num
pub narrow_num : (w : Width) → is_narrow w ≡ true → (m : ℕ) → m < 2 ^ bits w → number_value (pos m) ≡ Num (pos m)
narrow_num W8 is m small = number_num (pos m) (lt-ltb m (2 ^ 127) (omega (arith, small)))
narrow_num W16 is m small = number_num (pos m) (lt-ltb m (2 ^ 127) (omega (arith, small)))
narrow_num W32 is m small = number_num (pos m) (lt-ltb m (2 ^ 127) (omega (arith, small)))
narrow_num W64 is m small = number_num (pos m) (lt-ltb m (2 ^ 127) (omega (arith, small)))
narrow_num W128 is m small = cc

-- where all values are Num, their numbers are read exactly
pub argument_exact : (ty : Ty) (w : Width) (value_of : ℕ → ℤ) → IsNumbers ty w value_of → ((m : ℕ) → m < 2 ^ bits w → number_value (value_of m) ≡ Num (value_of m))
    → IsExact (λ bytes. read_as value_of (whole_front (width w) bytes)) (λ n. fits_of ty (Num n)) (λ n. item_bytes ty (Num n))
argument_exact ty w value_of are num =
    as_exact value_of (whole_front (width w)) (λ n. nat_lt n (2 ^ bits w)) (to_le_bytes (width w)) (λ n. fits_of ty (Num n)) (λ n. item_bytes ty (Num n))
    (record {
      values = λ n fits. let u = are.values (Num n) fits in (u.0, num_same n (value_of u.0) (u.1 ∙ num u.0 u.2), lt-ltb u.0 (2 ^ bits w) u.2);
      fit = λ m fits. let small = ltb-true m (2 ^ bits w) fits in ap (fits_of ty) (sym (num m small)) ∙ are.fit m small;
      items = λ m fits. let small = ltb-true m (2 ^ bits w) fits in ap (item_bytes ty) (sym (num m small)) ∙ are.item m small;
    })
    (whole_exact w)
