-- How the encodings of numbers are built and read, byte by byte.
use Rattle.std.proofs.Common.{◌≡◌, ℕ, zero, suc, ◌+◌, ◌*◌, ◌/◌, ◌%◌, ◌^◌, ◌<◌, ◌≤◌, ◌⊎◌, inl, inr, List, [], ◌∷◌, ◌++◌, length, take, drop, set, refl, ap, sym, ◌∙◌, arith, append_assoc, add-one, length-append, lit<, ◌-◌, ◌≢◌, get_or, append-nil}
use Rattle.std.proofs.lemmas.Bool.{lt-ltb, le-ltb}
use Rattle.std.proofs.lemmas.List.{drop-set, take-set, take-append-drop, length-take-le, drop-drop, take_all}
use Rattle.std.proofs.Math.Seq.{take-suc-set, take-suc, drop-cons}
use Rattle.std.proofs.Math.Nat.{pow-succ', div-mul-le_self, mul-le-mul_right, mul-le-mul_left, pow-le-pow_right}
use Rattle.mt_types.specs.declared.varint.VarInt.{VarInt}
use Rattle.mt_types.specs.declared.varint.VarInt.TheVariants.{Got, Short, Bad}
use Rattle.mt_types.specs.Leb128.{leb128, leb128_within, Reads}

-- a number is below another, or not
lt_or_ge : (n m : ℕ) → (n < m) ⊎ (m ≤ n)
lt_or_ge n m = grind arith

-- the last byte
within_small : (most n : ℕ) → n < 128 → leb128_within most n ≡ n ∷ []
within_small zero n small = refl
within_small (suc most) n small = rw (lt-ltb n 128 small) refl

-- a byte that others follow
within_more : (most n : ℕ) → 128 ≤ n → leb128_within (suc most) n ≡ (n % 128 + 128) ∷ leb128_within most (n / 128)
within_more most n large = rw (le-ltb n 128 large) refl

-- as long as there is enough, it doesn't matter how much
enough : (a b n : ℕ) → n ≤ a → n ≤ b → leb128_within a n ≡ leb128_within b n
enough zero b n in_a in_b = within_small zero n (omega arith) ∙ sym (within_small b n (omega arith))
enough (suc a) zero n in_a in_b = within_small (suc a) n (omega arith) ∙ sym (within_small zero n (omega arith))
enough (suc a) (suc b) n in_a in_b =
    elim (lt_or_ge n 128) [
      | inl small ↦ within_small (suc a) n small ∙ sym (within_small (suc b) n small)
      | inr large ↦ within_more a n large ∙ ap (λ bytes. (n % 128 + 128) ∷ bytes) (enough a b (n / 128) (omega arith) (omega arith)) ∙ sym (within_more b n large)
    ]

-- an encoding of one byte
pub leb128_small : (n : ℕ) → n < 128 → leb128 n ≡ n ∷ []
unfolding leb128
leb128_small n small = within_small n n small

-- the same, where the bound is the number
more_at : (most n : ℕ) → most ≡ n → 128 ≤ n → leb128_within most n ≡ (n % 128 + 128) ∷ leb128_within (n / 128) (n / 128)
more_at zero n is large = absurd (omega arith)
more_at (suc most) n is large = within_more most n large ∙ ap (λ bytes. (n % 128 + 128) ∷ bytes) (enough most (n / 128) (n / 128) (omega arith) (omega arith))

-- an encoding of more bytes
pub leb128_more : (n : ℕ) → 128 ≤ n → leb128 n ≡ (n % 128 + 128) ∷ leb128 (n / 128)
unfolding leb128
leb128_more n large = more_at n n refl large

-- a store at the place reached leaves what is before it, then itself, then what was behind it
stored : (xs : List ℕ) (i b : ℕ) → i < length xs → set xs i b ≡ take i xs ++ b ∷ drop (i + 1) xs
stored xs i b h = sym (take-append-drop i (set xs i b)) ∙ rw (take-set xs i b, drop-set xs i b h) refl

-- what is kept behind a place is kept behind the next
pub kept_on : (xs ys : List ℕ) (i : ℕ) → drop i xs ≡ drop i ys → drop (i + 1) xs ≡ drop (i + 1) ys
kept_on xs ys i e = sym (drop-drop 1 i xs) ∙ ap (drop 1) e ∙ drop-drop 1 i ys

-- the last byte is put
pub put_last : (value rest i : ℕ) (into old : List ℕ) → i < length into → rest < 128 → leb128 value ≡ take i into ++ leb128 rest → drop i into ≡ drop i old
    → (i + 1 ≡ length (leb128 value)) × (set into i rest ≡ leb128 value ++ drop (length (leb128 value)) old)
put_last value rest i into old h small encoded kept =
    let last : leb128 value ≡ take i into ++ rest ∷ [] = encoded ∙ ap (λ bytes. take i into ++ bytes) (leb128_small rest small) in
    let size : i + 1 ≡ length (leb128 value) = sym (ap length last ∙ length-append (take i into) (rest ∷ []) ∙ ap (λ n. n + 1) (length-take-le i into (omega arith))) in (
      size,
      stored into i rest h ∙ ap (λ bytes. take i into ++ rest ∷ bytes) (kept_on into old i kept)
          ∙ sym (append_assoc (take i into) (rest ∷ []) (drop (i + 1) old))
          ∙ ap (λ bytes. bytes ++ drop (i + 1) old) (sym last) ∙ ap (λ n. leb128 value ++ drop n old) size,
    )

-- a byte that others follow is put
pub put_more : (value rest i : ℕ) (into : List ℕ) → i < length into → 128 ≤ rest → leb128 value ≡ take i into ++ leb128 rest
    → leb128 value ≡ take (i + 1) (set into i (rest % 128 + 128)) ++ leb128 (rest / 128)
put_more value rest i into h large encoded =
    encoded ∙ ap (λ bytes. take i into ++ bytes) (leb128_more rest large)
    ∙ sym (append_assoc (take i into) ((rest % 128 + 128) ∷ []) (leb128 (rest / 128)))
    ∙ ap (λ bytes. bytes ++ leb128 (rest / 128)) (sym (rw add-one (take-suc-set into i (rest % 128 + 128) h)))

-- the number that is left has so much less room
pub less_room : (value rest i : ℕ) → rest * 128 ^ i ≤ value → rest / 128 * 128 ^ (i + 1) ≤ value
less_room value rest i room =
    let power : 128 ^ (i + 1) ≡ 128 * 128 ^ i = rw add-one (pow-succ' 128 i) in
    let less : rest / 128 * 128 * 128 ^ i ≤ rest * 128 ^ i = mul-le-mul_right (128 ^ i) (div-mul-le_self rest 128) in
    rw power (omega (arith, less))

-- ---- reading

-- low bits before the encoding of what they are followed by
pub leb128_next : (low high : ℕ) → low < 128 → 0 < high → leb128 (low + 128 * high) ≡ (low + 128) ∷ leb128 high
leb128_next low high small some =
    let whole : ℕ = low + 128 * high in
    let low_is : (low + 128 * high) % 128 ≡ low = omega arith in
    let high_is : (low + 128 * high) / 128 ≡ high = omega arith in
    leb128_more (low + 128 * high) (omega arith) ∙ rw (low_is, high_is) refl

-- a encoding that begins with a last byte is that byte
pub first_small : (n b : ℕ) (x rest : List ℕ) → b < 128 → leb128 n ++ x ≡ b ∷ rest → n ≡ b
first_small n b x rest small e =
    elim (lt_or_ge n 128) [
      | inl n_small ↦ let one : leb128 n ≡ n ∷ [] = leb128_small n n_small in cc
      | inr large ↦ let more : leb128 n ≡ (n % 128 + 128) ∷ leb128 (n / 128) = leb128_more n large in let head : n % 128 + 128 ≡ b = cc in absurd (omega arith)
    ]

-- one that begins with another byte goes on with the encoding of the rest
pub first_large : (n b : ℕ) (x rest : List ℕ) → 128 ≤ b → leb128 n ++ x ≡ b ∷ rest
    → (high : ℕ) × (0 < high) × (n ≡ (b - 128) + 128 * high) × (leb128 high ++ x ≡ rest)
first_large n b x rest large e =
    elim (lt_or_ge n 128) [
      | inl small ↦ let one : leb128 n ≡ n ∷ [] = leb128_small n small in let head : n ≡ b = cc in absurd (omega arith)
      | inr n_large ↦
          let more : leb128 n ≡ (n % 128 + 128) ∷ leb128 (n / 128) = leb128_more n n_large in
          let head : n % 128 + 128 ≡ b = cc in
          let tail : leb128 (n / 128) ++ x ≡ rest = cc in
          (n / 128, omega arith, omega arith, tail)
    ]

-- the weights of two bytes
regroup : (value weight low high : ℕ) → value + weight * low + weight * 128 * high ≡ value + weight * (low + 128 * high)
regroup value weight low high = omega arith

-- the bytes before a place are the low part of a number, however it goes on
abbrev pub GoesOn : (value weight i : ℕ) (bytes : List ℕ) → Type 0
GoesOn value weight i bytes = (high : ℕ) → (i ≢ 0 → 0 < high) → leb128 (value + weight * high) ≡ take i bytes ++ leb128 high

-- a number whose encoding agrees with the bytes has this low part, and the encoding of the rest agrees with those that follow
abbrev pub ComesFrom : (value weight i : ℕ) (bytes : List ℕ) → Type 0
ComesFrom value weight i bytes =
    (n : ℕ) (x y : List ℕ) → leb128 n ++ x ≡ bytes ++ y → (high : ℕ) × (i ≢ 0 → 0 < high) × (n ≡ value + weight * high) × (leb128 high ++ x ≡ drop i bytes ++ y)

-- before the first byte
pub goes_on_start : (bytes : List ℕ) → GoesOn 0 1 0 bytes
goes_on_start bytes high some = ap leb128 (omega arith)

-- the same from the other side
pub comes_from_start : (bytes : List ℕ) → ComesFrom 0 1 0 bytes
comes_from_start bytes n x y e = (n, λ h. absurd (h refl), omega arith, e)

-- after one byte more
pub goes_on_more : (value weight i b : ℕ) (bytes : List ℕ) → i < length bytes → get_or bytes i 0 ≡ b → 128 ≤ b → b < 256 → GoesOn value weight i bytes → GoesOn (value + weight * (b - 128)) (weight * 128) (i + 1) bytes
goes_on_more value weight i b bytes within is large byte on high some =
    let here : 0 < high = some (λ e. omega arith) in
    let low : ℕ = b - 128 in
    let next : leb128 ((b - 128) + 128 * high) ≡ b ∷ leb128 high = leb128_next (b - 128) high (omega arith) here ∙ ap (λ n. n ∷ leb128 high) (omega arith) in
    ap leb128 (regroup value weight (b - 128) high)
    ∙ on ((b - 128) + 128 * high) (λ h. omega arith) ∙ ap (λ bs. take i bytes ++ bs) next
    ∙ sym (append_assoc (take i bytes) (b ∷ []) (leb128 high)) ∙ ap (λ bs. bs ++ leb128 high) (ap (λ n. take i bytes ++ n ∷ []) (sym is) ∙ sym (rw add-one (take-suc bytes i 0 within)))

-- the same from the other side
pub comes_from_more : (value weight i b : ℕ) (bytes : List ℕ) → i < length bytes → get_or bytes i 0 ≡ b → 128 ≤ b → ComesFrom value weight i bytes → ComesFrom (value + weight * (b - 128)) (weight * 128) (i + 1) bytes
comes_from_more value weight i b bytes within is large from n x y e =
    let had = from n x y e in
    let cut : drop i bytes ≡ b ∷ drop (i + 1) bytes = rw add-one (drop-cons bytes i 0 within) ∙ ap (λ v. v ∷ drop (i + 1) bytes) is in
    let agrees : leb128 had.0 ++ x ≡ b ∷ (drop (i + 1) bytes ++ y) = had.3 ∙ ap (λ bs. bs ++ y) cut in
    let more = first_large had.0 b x (drop (i + 1) bytes ++ y) large agrees in
    (more.0, λ _. more.1, had.2 ∙ ap (λ h. value + weight * h) more.2 ∙ sym (regroup value weight (b - 128) more.0), more.3)

-- ---- what the reader answers

-- all bytes are part of a longer encoding
pub is_short : (value weight i : ℕ) (bytes : List ℕ) → i ≡ length bytes → value < weight → weight ≤ 2 ^ 63 → GoesOn value weight i bytes → Reads Short bytes
is_short value weight i bytes all less room on =
    (value + weight * 1, 1 ∷ [], omega arith, (λ e. cc), on 1 (λ _. lit< tt) ∙ ap (λ bs. take i bytes ++ bs) (leb128_small 1 (lit< tt)) ∙ ap (λ bs. bs ++ 1 ∷ []) (take_all i bytes (omega arith)))

-- the byte at a place, for a encoding that agrees so far
from_byte : (value weight i b : ℕ) (bytes x y : List ℕ) (n : ℕ) → i < length bytes → get_or bytes i 0 ≡ b → ComesFrom value weight i bytes → leb128 n ++ x ≡ bytes ++ y
    → (high : ℕ) × (i ≢ 0 → 0 < high) × (n ≡ value + weight * high) × (leb128 high ++ x ≡ b ∷ (drop (i + 1) bytes ++ y))
from_byte value weight i b bytes x y n within is from e =
    let had = from n x y e in
    let cut : drop i bytes ≡ b ∷ drop (i + 1) bytes = rw add-one (drop-cons bytes i 0 within) ∙ ap (λ v. v ∷ drop (i + 1) bytes) is in
    (had.0, had.1, had.2, had.3 ∙ ap (λ bs. bs ++ y) cut)

-- a last byte of 0 after others
pub is_padded : (value weight i : ℕ) (bytes : List ℕ) → i < length bytes → get_or bytes i 0 ≡ 0 → 0 < i → ComesFrom value weight i bytes → Reads Bad bytes
is_padded value weight i bytes within is more from n x y small e =
    let had = from_byte value weight i 0 bytes x y n within is from e in
    let zero_is : had.0 ≡ 0 = first_small had.0 0 x (drop (i + 1) bytes ++ y) (lit< tt) had.3 in
    let some : 0 < had.0 = had.1 (λ is_zero. omega arith) in
    omega arith

-- a tenth byte that isn't 1
pub is_long : (value i b : ℕ) (bytes : List ℕ) → 9 < length bytes → get_or bytes 9 0 ≡ b → b ≢ 1 → ComesFrom value (2 ^ 63) 9 bytes → Reads Bad bytes
is_long value i b bytes within is other from n x y small e =
    let had = from_byte value (2 ^ 63) 9 b bytes x y n within is from e in
    let some : 0 < had.0 = had.1 (λ h. omega arith) in
    let one : had.0 ≡ 1 = omega (arith, had.2) in
    let encoded : leb128 had.0 ≡ 1 ∷ [] = ap leb128 one ∙ leb128_small 1 (lit< tt) in
    let agrees : leb128 had.0 ++ x ≡ b ∷ (drop 10 bytes ++ y) = had.3 in
    let first : 1 ≡ b = cc in
    other (sym first)

-- a last byte ends a encoding
pub is_got : (value weight i b : ℕ) (bytes : List ℕ) → i < length bytes → get_or bytes i 0 ≡ b → b < 128 → (i ≢ 0 → 0 < b) → value + weight * b < 2 ^ 64 → GoesOn value weight i bytes
    → (value + weight * b < 2 ^ 64) × (i + 1 ≤ length bytes) × (take (i + 1) bytes ≡ leb128 (value + weight * b))
is_got value weight i b bytes within is small some fits on = (
  fits,
  omega arith,
  rw add-one (take-suc bytes i 0 within) ∙ ap (λ v. take i bytes ++ v ∷ []) is
      ∙ ap (λ bs. take i bytes ++ bs) (sym (leb128_small b small)) ∙ sym (on b some),
)

-- a last byte keeps the value within 64 bits
pub still_fits : (value weight b : ℕ) → b < 128 → value < weight → weight * 128 ≤ 2 ^ 64 → value + weight * b < 2 ^ 64
still_fits value weight b small less room =
    let product : weight * b ≤ weight * 127 = mul-le-mul_left weight (omega arith) in
    omega arith

-- a value below the weight of its place stays so when a byte is added
pub still_below : (value weight b : ℕ) → 128 ≤ b → b < 256 → value < weight → value + weight * (b - 128) < weight * 128
still_below value weight b large byte less =
    let product : weight * (b - 128) ≤ weight * 127 = mul-le-mul_left weight (omega arith) in
    omega arith

-- at the tenth byte
pub tenth : (weight i : ℕ) → weight ≡ 128 ^ i → i ≡ 9 → weight ≡ 2 ^ 63
tenth weight i is nine = is ∙ ap (λ n. 128 ^ n) nine

-- how much a byte weighs
pub weight_room : (i most : ℕ) → i ≤ most → 128 ^ i ≤ 128 ^ most
weight_room i most h = pow-le-pow_right (lit< tt) h

-- ---- one encoding a number

-- one number's encoding goes on as the other's does
encoding_step : (m n : ℕ) (x y : List ℕ)
    → ((high : ℕ) → 128 ≤ m → leb128 (m / 128) ++ x ≡ leb128 high ++ y → (m / 128 ≡ high) × (x ≡ y))
    → leb128 m ++ x ≡ leb128 n ++ y → (m ≡ n) × (x ≡ y)
encoding_step m n x y rest e =
    elim (lt_or_ge m 128) [
      | inl small ↦
          let one : leb128 m ≡ m ∷ [] = leb128_small m small in
          let begins : leb128 n ++ y ≡ m ∷ x = cc in
          let same : n ≡ m = first_small n m y x small begins in
          let other : leb128 n ≡ m ∷ [] = ap leb128 same ∙ one in
          let ends : x ≡ y = cc in
          (sym same, ends)
      | inr large ↦
          let split : leb128 m ≡ (m % 128 + 128) ∷ leb128 (m / 128) = leb128_more m large in
          let begins : leb128 n ++ y ≡ (m % 128 + 128) ∷ (leb128 (m / 128) ++ x) = cc in
          let next = first_large n (m % 128 + 128) y (leb128 (m / 128) ++ x) (omega arith) begins in
          let same = rest next.0 large (sym next.3) in
          (omega (arith, next.2, same.0), same.1)
    ]

-- from the first byte on
one_encoding : (most m n : ℕ) (x y : List ℕ) → m ≤ most → leb128 m ++ x ≡ leb128 n ++ y → (m ≡ n) × (x ≡ y)
one_encoding zero m n x y le = encoding_step m n x y (λ high large e. absurd (omega (arith, large, le)))
one_encoding (suc most) m n x y le = encoding_step m n x y (λ high large e. one_encoding most (m / 128) high x y (omega (arith, large, le)) e)

-- encodings that two texts begin with are the same, and so is what follows them
pub leb128_prefix_free : (m n : ℕ) (x y : List ℕ) → leb128 m ++ x ≡ leb128 n ++ y → (m ≡ n) × (x ≡ y)
leb128_prefix_free m n x y = one_encoding m m n x y (omega arith)

-- what ends an empty list is empty
ends_empty : (a b : List ℕ) → a ++ b ≡ [] → b ≡ []
ends_empty [] b e = e
ends_empty (v ∷ a) b e = cc

-- whatever follows a number's encoding, it is what the bytes begin with
pub read_leb128 : (outcome : VarInt) (n : ℕ) (rest : List ℕ) → n < 2 ^ 64 → Reads outcome (leb128 n ++ rest) → outcome ≡ Got n (length (leb128 n))
read_leb128 (Got value used) n rest small h =
    let bytes : List ℕ = leb128 n ++ rest in
    let size : length (leb128 value) ≡ used = ap length (sym h.2) ∙ length-take-le used (leb128 n ++ rest) h.1 in
    let cut : leb128 n ++ rest ≡ leb128 value ++ drop used (leb128 n ++ rest) = sym (take-append-drop used (leb128 n ++ rest)) ∙ ap (λ bs. bs ++ drop used (leb128 n ++ rest)) h.2 in
    let same : n ≡ value = (leb128_prefix_free n value rest (drop used (leb128 n ++ rest)) cut).0 in
    ap (λ v. Got v used) (sym same) ∙ ap (Got n) (sym size ∙ ap (λ v. length (leb128 v)) (sym same))
read_leb128 Short n rest small (m, more, fits, some, e) =
    let cut : leb128 m ++ [] ≡ leb128 n ++ (rest ++ more) = append-nil (leb128 m) ∙ e ∙ append_assoc (leb128 n) rest more in
    absurd (some (ends_empty rest more (sym (leb128_prefix_free m n [] (rest ++ more) cut).1)))
read_leb128 Bad n rest small h = absurd (h n rest [] small (sym (append-nil (leb128 n ++ rest))))
