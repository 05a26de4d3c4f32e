-- Little-endian numbers, byte by byte.
use Rattle.std.proofs.Common.{◌≡◌, ℕ, zero, suc, ◌+◌, ◌*◌, ◌/◌, ◌%◌, ◌^◌, ◌<◌, List, [], ◌∷◌, length, get_or, refl, ap, sym, ◌∙◌, subst, arith, lit<}
use Rattle.std.proofs.Math.Nat.{pow-succ', div-div-eq-div-mul, mul_left_comm}
use Rattle.std.specs.Int.{byte_at, byte_worth, bytes_low_first, sum_through}
use Rattle.mt_item.proofs.LengthLemmas.{Small}

-- the number that some bytes are, the lowest first
abbrev pub number_of : List ℕ → ℕ
number_of [] = 0
number_of (byte ∷ bytes) = byte + 256 * number_of bytes

-- a byte of a number stands one lower in the number without its lowest byte
byte_above : (i n : ℕ) → byte_at (suc i) n ≡ byte_at i (n / 256)
byte_above zero n = refl
byte_above (suc i) n = ap (λ p. n / p % 256) (pow-succ' 256 (suc i)) ∙ ap (λ q. q % 256) (sym (div-div-eq-div-mul n 256 (256 ^ suc i)))

bytes_above : (i k n : ℕ) → bytes_low_first (suc i) k n ≡ bytes_low_first i k (n / 256)
bytes_above i zero n = refl
bytes_above i (suc k) n = λ j. byte_above i n j ∷ bytes_above (suc i) k n j

length_low : (i k n : ℕ) → length (bytes_low_first i k n) ≡ k
length_low i zero n = refl
length_low i (suc k) n = ap suc (length_low (suc i) k n)

-- bytes are those of their number
written_back : (bytes : List ℕ) → Small bytes → bytes_low_first 0 (length bytes) (number_of bytes) ≡ bytes
written_back [] small = refl
written_back (byte ∷ bytes) small =
    let fits : byte < 256 = small 0 in
    let low : (byte + 256 * number_of bytes) % 256 ≡ byte = omega (arith, fits) in
    let high : (byte + 256 * number_of bytes) / 256 ≡ number_of bytes = omega (arith, fits) in
    let rest = bytes_above 0 (length bytes) (byte + 256 * number_of bytes) ∙ ap (bytes_low_first 0 (length bytes)) high ∙ written_back bytes (λ i. small (suc i)) in
    λ j. low j ∷ rest j

number_back : (k n : ℕ) → n < 256 ^ k → number_of (bytes_low_first 0 k n) ≡ n
number_back zero n small = let one : 256 ^ 0 ≡ 1 = refl in omega (arith, small, one)
number_back (suc k) n small =
    let power = pow-succ' 256 k in
    let inside : n / 256 < 256 ^ k = omega (arith, small, power) in
    let rest : number_of (bytes_low_first 1 k n) ≡ n / 256 = ap number_of (bytes_above 0 k n) ∙ number_back k (n / 256) inside in
    omega (arith, rest)

number_bound : (bytes : List ℕ) → Small bytes → number_of bytes < 256 ^ length bytes
number_bound [] small = lit< tt
number_bound (byte ∷ bytes) small = omega (arith, small 0, number_bound bytes (λ i. small (suc i)), pow-succ' 256 (length bytes))

-- ---- std's sum of bytes

-- bytes up to one of them, each at its worth
abbrev worth_of : List ℕ → ℕ → ℕ
worth_of bytes k = sum_through (λ i. byte_worth i (get_or bytes i 0)) k

worth_next : (byte : ℕ) (bytes : List ℕ) (k : ℕ) → worth_of (byte ∷ bytes) (suc k) ≡ byte + 256 * worth_of bytes k
worth_next byte bytes zero = omega arith
worth_next byte bytes (suc k) =
    let term = ap (λ p. get_or bytes (suc k) 0 * p) (pow-succ' 256 (suc k)) ∙ mul_left_comm (get_or bytes (suc k) 0) 256 (256 ^ suc k) in
    omega (arith, worth_next byte bytes k, term)

worth_is : (bytes : List ℕ) (k : ℕ) → length bytes ≡ suc k → worth_of bytes k ≡ number_of bytes
worth_is [] k long = absurd (omega (arith, long))
worth_is (byte ∷ []) zero long = omega arith
worth_is (byte ∷ next ∷ bytes) zero long = absurd (omega (arith, long))
worth_is (byte ∷ bytes) (suc k) long = worth_next byte bytes k ∙ ap (λ n. byte + 256 * n) (worth_is bytes k (omega (arith, long)))

-- so many bytes are the encoding of their sum
pub read_back : (k : ℕ) (bytes : List ℕ) → length bytes ≡ suc k → Small bytes → (worth_of bytes k < 256 ^ suc k) × (bytes_low_first 0 (suc k) (worth_of bytes k) ≡ bytes)
read_back k bytes long small =
    let is = worth_is bytes k long in (
      subst (λ (n : ℕ). n < 256 ^ suc k) (sym is) (subst (λ (l : ℕ). number_of bytes < 256 ^ l) long (number_bound bytes small)),
      ap (bytes_low_first 0 (suc k)) is ∙ ap (λ (l : ℕ). bytes_low_first 0 l (number_of bytes)) (sym long) ∙ written_back bytes small,
    )

-- and a number is the sum of its encoding
pub sum_back : (k n : ℕ) → n < 256 ^ suc k → worth_of (bytes_low_first 0 (suc k) n) k ≡ n
sum_back k n small = worth_is (bytes_low_first 0 (suc k) n) k (length_low 0 (suc k) n) ∙ number_back (suc k) n small
