-- What an item's bytes stand for, and the item of a value.
use Rattle.std.proofs.Common.{◌≡◌, ℕ, zero, suc, ◌*◌, ◌^◌, ◌<◌, ◌≤◌, pos, Bool, true, false, List, [], ◌∷◌, length, take, drop, replicate, refl, ap, ap₂, sym, ◌∙◌, arith, lit<}
use Rattle.std.specs.Prelude.{◌&&◌, ◌==◌}
use Rattle.std.specs.Int.{w128, to_le_bytes, from_le_bytes, cast_signed}
use Rattle.std.specs.List.{list_all}
use Rattle.std.proofs.Common.{length-drop}
use Rattle.std.proofs.lemmas.Bool.{and_from, eq-eqb}
use Rattle.std.proofs.lemmas.List.{length-take-le, length-replicate}
use Rattle.mt_types.specs.declared.ty.Width.{Width}
use Rattle.mt_types.specs.declared.ty.Width.TheVariants.{W8, W16, W32, W64, W128}
use Rattle.mt_types.specs.declared.ty.Ty.TheOpen.{Ty-F}
use Rattle.mt_types.specs.declared.ty.Ty.TheVariants.{UInt, Int, FixedString, outs-UInt, outs-Int, outs-FixedString}
use Rattle.mt_types.specs.declared.value.Value.{Value, out-Value}
use Rattle.mt_types.specs.declared.value.Value.TheOpen.{Value-F}
use Rattle.mt_types.specs.declared.value.Value.TheVariants.{Num, Text, outs-Text}
use Rattle.mt_types.specs.Bytes.{is_byte}
use Rattle.mt_types.specs.Defaults.{default_of, default_at}
use Rattle.mt_types.specs.Fits.{Level, bits, fits_of, number_value, text_at}
use Rattle.mt_types.specs.Items.{item_bytes, fixed_at, width}
use Rattle.mt_types.specs.Numbers.{bits_in, is_number_at, is_number_type, number_size, number_size_at, width_size}
use Rattle.mt_types.proofs.NumberLemmas.{fits_at, item_at, number_item}
use Rattle.mt_item.proofs.LengthLemmas.{Small}
use Rattle.mt_item.proofs.ExactLemmas.{small_taken, small_test}
use Rattle.mt_item.proofs.WholeLemmas.{read_back}
use Rattle.mt_item.proofs.NumberLemmas.{numbers_UInt, numbers_Int, signed_num, number_back}
use Rattle.mt_cells.specs.declared.kind.Kind.{Kind}
use Rattle.mt_cells.specs.declared.kind.Kind.TheVariants as kind
use Rattle.mt_cells.specs.Kinds.{chunks, size_of, type_of, value_of, values_of}

-- ---- bytes

pub small_drop : (n : ℕ) (bytes : List ℕ) → Small bytes → Small (drop n bytes)
small_drop zero bytes small = small
small_drop (suc n) [] small = λ i. lit< tt
small_drop (suc n) (b ∷ bytes) small = small_drop n bytes (λ k. small (suc k))

pub small_zeros : (n : ℕ) → Small (replicate n 0)
small_zeros zero i = lit< tt
small_zeros (suc n) zero = lit< tt
small_zeros (suc n) (suc i) = small_zeros n i

-- bytes that are a number are its encoding
whole_back : (w : Width) (bytes : List ℕ) → length bytes ≡ width_size w → Small bytes
    → (from_le_bytes (width w) bytes < 2 ^ bits w) × (to_le_bytes (width w) (from_le_bytes (width w) bytes) ≡ bytes)
whole_back W8 bytes long small = read_back 0 bytes long small
whole_back W16 bytes long small = read_back 1 bytes long small
whole_back W32 bytes long small = read_back 3 bytes long small
whole_back W64 bytes long small = read_back 7 bytes long small
whole_back W128 bytes long small = read_back 15 bytes long small

whole_size : (w : Width) (n : ℕ) → length (to_le_bytes (width w) n) ≡ width_size w
whole_size W8 n = refl
whole_size W16 n = refl
whole_size W32 n = refl
whole_size W64 n = refl
whole_size W128 n = refl

-- ---- an item, and its value

fixed_item : (size : ℕ) (bytes : List ℕ) → item_bytes (FixedString size) (Text bytes) ≡ bytes
fixed_item size bytes = ap (λ f. f (Text bytes)) (item_at (FixedString size) (Ty-F.FixedString size) (outs-FixedString size)) ∙ ap fixed_at (outs-Text bytes)

abbrev fixed_test : ℕ → List ℕ → Bool
fixed_test size bytes = length bytes == size && list_all is_byte bytes

fixed_fits : (size : ℕ) (v : Value) → fits_of (FixedString size) v ≡ text_at (fixed_test size) (out-Value v)
fixed_fits size v = ap (λ f. f v) (fits_at (FixedString size) (Ty-F.FixedString size) (outs-FixedString size))

-- the item of what bytes stand for is these bytes
pub item_back : (k : Kind) (bytes : List ℕ) → length bytes ≡ size_of k → Small bytes → item_bytes (type_of k) (value_of k bytes) ≡ bytes
item_back (kind.Unsigned w) bytes long small =
    let back = whole_back w bytes long small in
    (numbers_UInt w).item (from_le_bytes (width w) bytes) back.0 ∙ back.1
item_back (kind.Signed w) bytes long small =
    let back = whole_back w bytes long small in
    let m = from_le_bytes (width w) bytes in
    ap (item_bytes (Int w)) (sym (signed_num w m back.0)) ∙ (numbers_Int w).item m back.0 ∙ back.1
item_back (kind.Text size) bytes long small = fixed_item size bytes

-- so different items stand for different values
pub same_items : (k : Kind) (a b : List ℕ) → length a ≡ size_of k → length b ≡ size_of k → Small a → Small b → value_of k a ≡ value_of k b → a ≡ b
same_items k a b long_a long_b small_a small_b e = sym (item_back k a long_a small_a) ∙ ap (item_bytes (type_of k)) e ∙ item_back k b long_b small_b

-- what bytes stand for is of the kind
value_fits : (k : Kind) (bytes : List ℕ) → length bytes ≡ size_of k → Small bytes → fits_of (type_of k) (value_of k bytes) ≡ true
value_fits (kind.Unsigned w) bytes long small = (numbers_UInt w).fit (from_le_bytes (width w) bytes) (whole_back w bytes long small).0
value_fits (kind.Signed w) bytes long small =
    let m = from_le_bytes (width w) bytes in
    let fits = (whole_back w bytes long small).0 in
    ap (fits_of (Int w)) (sym (signed_num w m fits)) ∙ (numbers_Int w).fit m fits
value_fits (kind.Text size) bytes long small =
    fixed_fits size (Text bytes) ∙ ap (text_at (fixed_test size)) (outs-Text bytes) ∙ and_from (length bytes == size) (list_all is_byte bytes) (eq-eqb (length bytes) size long) (small_test bytes small)

pub values_fit : (k : Kind) (n : ℕ) (bytes : List ℕ) → length bytes ≡ n * size_of k → Small bytes → list_all (fits_of (type_of k)) (values_of k n bytes) ≡ true
unfolding chunks
values_fit k zero bytes h small = refl
values_fit k (suc n) bytes h small =
    let size = size_of k in
    let long : size ≤ length bytes = omega (arith, h) in
    let left : length (drop size bytes) ≡ n * size = omega (arith, h, length-drop size bytes) in
    ap₂ ◌&&◌ (value_fits k (take size bytes) (length-take-le size bytes long) (small_taken size bytes small)) (values_fit k n (drop size bytes) left (small_drop size bytes small))

-- ---- the item of a value

-- so many bytes that stand for a value
pub record IsItemOf (k : Kind) (v : Value) (item : List ℕ) : Type 0 where
  pub long : length item ≡ size_of k
  pub value : value_of k item ≡ v

is_item : (k : Kind) (v : Value) (item same : List ℕ) → item ≡ same → length same ≡ size_of k → value_of k same ≡ v → IsItemOf k v item
is_item k v item same e long value = record { long = ap (λ (bs : List ℕ). length bs) e ∙ long; value = ap (value_of k) e ∙ value }

-- a value that is a number
abbrev pub is_numeric : Level → Bool
is_numeric (Value-F.Num n) = true
is_numeric (Value-F.Huge n) = true
is_numeric _ = false

no_text : (test : List ℕ → Bool) (l : Level) → is_numeric l ≡ true → text_at test l ≡ false
no_text test (Value-F.Num n) e = refl
no_text test (Value-F.Huge n) e = refl
no_text test _ e = cc

-- the first bytes of a number's 128 bits are its item
pub number_cell : (k : Kind) (v : Value) → is_numeric (out-Value v) ≡ true → fits_of (type_of k) v ≡ true → IsItemOf k v (take (size_of k) (to_le_bytes w128 (bits_in (out-Value v))))
number_cell (kind.Unsigned w) v numeric fits =
    let u = (numbers_UInt w).values v fits in
    let is : is_number_type (UInt w) ≡ true = ap is_number_at (outs-UInt w) in
    let size : number_size (UInt w) ≡ width_size w = ap number_size_at (outs-UInt w) in
    let bytes = to_le_bytes w128 (bits_in (out-Value v)) in
    is_item (kind.Unsigned w) v (take (width_size w) bytes) (to_le_bytes (width w) u.0)
    (ap (λ (n : ℕ). take n bytes) (sym size) ∙ sym (number_item (UInt w) v is fits) ∙ ap (item_bytes (UInt w)) u.1 ∙ (numbers_UInt w).item u.0 u.2)
    (whole_size w u.0) (ap (λ (n : ℕ). number_value (pos n)) (number_back w u.0 u.2) ∙ sym u.1)
number_cell (kind.Signed w) v numeric fits =
    let u = (numbers_Int w).values v fits in
    let is : is_number_type (Int w) ≡ true = ap is_number_at (outs-Int w) in
    let size : number_size (Int w) ≡ width_size w = ap number_size_at (outs-Int w) in
    let bytes = to_le_bytes w128 (bits_in (out-Value v)) in
    is_item (kind.Signed w) v (take (width_size w) bytes) (to_le_bytes (width w) u.0)
    (ap (λ (n : ℕ). take n bytes) (sym size) ∙ sym (number_item (Int w) v is fits) ∙ ap (item_bytes (Int w)) u.1 ∙ (numbers_Int w).item u.0 u.2)
    (whole_size w u.0) (ap (λ (n : ℕ). Num (cast_signed (width w) n)) (number_back w u.0 u.2) ∙ sym (signed_num w u.0 u.2) ∙ sym u.1)
number_cell (kind.Text size) v numeric fits =
    let bad : false ≡ true = sym (fixed_fits size v ∙ no_text (fixed_test size) (out-Value v) numeric) ∙ fits in
    cc

-- an item has at most 16 bytes where it is a number
width_within : (w : Width) → width_size w ≤ 16
width_within W8 = omega arith
width_within W16 = omega arith
width_within W32 = omega arith
width_within W64 = omega arith
width_within W128 = omega arith

pub number_within : (k : Kind) (v : Value) → is_numeric (out-Value v) ≡ true → fits_of (type_of k) v ≡ true → size_of k ≤ 16
number_within (kind.Unsigned w) v numeric fits = width_within w
number_within (kind.Signed w) v numeric fits = width_within w
number_within (kind.Text size) v numeric fits =
    let bad : false ≡ true = sym (fixed_fits size v ∙ no_text (fixed_test size) (out-Value v) numeric) ∙ fits in
    cc

-- ---- the default

unsigned_zero : (w : Width) → number_value (pos (from_le_bytes (width w) (replicate (width_size w) 0))) ≡ Num (pos 0)
unsigned_zero W8 = refl
unsigned_zero W16 = refl
unsigned_zero W32 = refl
unsigned_zero W64 = refl
unsigned_zero W128 = refl

signed_zero : (w : Width) → Num (cast_signed (width w) (from_le_bytes (width w) (replicate (width_size w) 0))) ≡ Num (pos 0)
signed_zero W8 = refl
signed_zero W16 = refl
signed_zero W32 = refl
signed_zero W64 = refl
signed_zero W128 = refl

-- zero bytes stand for the default
pub zeros_are : (k : Kind) → value_of k (replicate (size_of k) 0) ≡ default_of (type_of k)
zeros_are (kind.Unsigned w) = unsigned_zero w ∙ sym (ap default_at (outs-UInt w))
zeros_are (kind.Signed w) = signed_zero w ∙ sym (ap default_at (outs-Int w))
zeros_are (kind.Text size) = sym (ap default_at (outs-FixedString size))

-- and no other bytes do
pub only_zeros_are : (k : Kind) (item : List ℕ) → length item ≡ size_of k → Small item → value_of k item ≡ default_of (type_of k) → item ≡ replicate (size_of k) 0
only_zeros_are k item long small e =
    same_items k item (replicate (size_of k) 0) long (length-replicate (size_of k) 0) small (small_zeros (size_of k)) (e ∙ sym (zeros_are k))
