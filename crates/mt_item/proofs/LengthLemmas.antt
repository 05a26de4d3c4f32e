-- Minimal LEB128 numbers, read: the one number that the bytes begin with, or why there is none.
use Rattle.std.proofs.Common.{◌≡◌, ◌≢◌, ℕ, zero, suc, ◌+◌, ◌-◌, ◌*◌, ◌/◌, ◌%◌, ◌^◌, ◌<◌, ◌≤◌, Bool, true, false, List, [], ◌∷◌, ◌++◌, get_or, drop, Ok, Err, refl, ap, sym, ◌∙◌, arith, lit<, ◌⊎◌, inl, inr, append-nil}
use Rattle.std.specs.Prelude.{◌==◌, nat_lt, not, if◌then◌else◌}
use Rattle.std.proofs.lemmas.Bool.{lt-ltb, le-ltb, eqb-true, ne_eqb}
use Rattle.std.proofs.lemmas.List.{take-append-drop}
use Rattle.mt_types.specs.Steps.{◌>>=◌, require}
use Rattle.mt_types.specs.Leb128.{leb128, Reads}
use Rattle.mt_types.specs.declared.varint.VarInt.TheVariants.{Got, Short as Cut, Bad}
use Rattle.mt_types.proofs.Leb128Lemmas.{leb128_small, leb128_more, leb128_next}
use Rattle.mt_item.specs.declared.fault.CodecWhy.TheVariants.{Short, Length}
use Rattle.mt_item.specs.ItemReading.{First, later_front, leb128_front, with_low}

-- numbers that are bytes
abbrev pub Small : List ℕ → Type 0
Small bytes = (i : ℕ) → get_or bytes i 0 < 256

-- what the later bytes of a number may come to, so many bytes before the last
abbrev pub room : ℕ → ℕ
room zero = 2
room (suc more) = 128 * room more

-- ---- one step

later_none : (more : ℕ) → later_front more [] ≡ Err Short
unfolding later_front
later_none zero = refl
later_none (suc more) = refl

later_last : (byte : ℕ) (rest : List ℕ) → later_front zero (byte ∷ rest) ≡ (require (byte == 1) Length >>= λ _. Ok (byte, rest))
unfolding later_front
later_last byte rest = refl

later_next : (more byte : ℕ) (rest : List ℕ) → later_front (suc more) (byte ∷ rest)
    ≡ (if nat_lt byte 128 then (require (not (byte == 0)) Length >>= λ _. Ok (byte, rest)) else with_low byte (later_front more rest))
unfolding later_front
later_next more byte rest = refl

first_none : leb128_front [] ≡ Err Short
unfolding leb128_front
first_none = refl

first_next : (byte : ℕ) (rest : List ℕ) → leb128_front (byte ∷ rest) ≡ (if nat_lt byte 128 then Ok (byte, rest) else with_low byte (later_front 8 rest))
unfolding leb128_front
first_next byte rest = refl

-- a last byte that may stand there
later_small : (more byte : ℕ) (rest : List ℕ) → 0 < byte → byte < 128 → later_front (suc more) (byte ∷ rest) ≡ Ok (byte, rest)
later_small more zero rest some small = absurd (omega arith)
later_small more (suc byte) rest some small = later_next more (suc byte) rest ∙ rw (lt-ltb (suc byte) 128 small, ne_eqb (suc byte) 0 not_zero) refl
  where
    not_zero : suc byte ≡ 0 → ⊥
    not_zero e = cc

-- a byte that others follow
later_large : (more byte : ℕ) (rest : List ℕ) → 128 ≤ byte → later_front (suc more) (byte ∷ rest) ≡ with_low byte (later_front more rest)
later_large more byte rest large = later_next more byte rest ∙ rw (le-ltb byte 128 large) refl

first_small : (byte : ℕ) (rest : List ℕ) → byte < 128 → leb128_front (byte ∷ rest) ≡ Ok (byte, rest)
first_small byte rest small = first_next byte rest ∙ rw (lt-ltb byte 128 small) refl

first_large : (byte : ℕ) (rest : List ℕ) → 128 ≤ byte → leb128_front (byte ∷ rest) ≡ with_low byte (later_front 8 rest)
first_large byte rest large = first_next byte rest ∙ rw (le-ltb byte 128 large) refl

below_or : (n : ℕ) → (n < 128) ⊎ (128 ≤ n)
below_or n = grind arith

ok_number : (m n : ℕ) (rest : List ℕ) → m ≡ n → (let r : First ℕ = Ok (m, rest) in r) ≡ Ok (n, rest)
ok_number m n rest e = ap (λ (k : ℕ). let r : First ℕ = Ok (k, rest) in r) e

-- ---- an encoding is read

later_complete : (more n : ℕ) (rest : List ℕ) → 0 < n → n < room more → later_front more (leb128 n ++ rest) ≡ Ok (n, rest)
later_complete zero n rest some few =
    let one : n ≡ 1 = omega (arith, few) in
    ap (λ (k : ℕ). later_front zero (leb128 k ++ rest)) one ∙ ap (λ (bs : List ℕ). later_front zero (bs ++ rest)) (leb128_small 1 (lit< tt)) ∙ later_last 1 rest ∙ ok_number 1 n rest (sym one)
later_complete (suc more) n rest some few = elim (below_or n) [
  | inl small ↦ ap (λ (bs : List ℕ). later_front (suc more) (bs ++ rest)) (leb128_small n small) ∙ later_small more n rest some small
  | inr large ↦
      let below : n / 128 < room more = omega (arith, few) in
      let high = later_complete more (n / 128) rest (omega arith) below in
      ap (λ (bs : List ℕ). later_front (suc more) (bs ++ rest)) (leb128_more n large)
      ∙ later_large more (n % 128 + 128) (leb128 (n / 128) ++ rest) (omega arith)
      ∙ ap (with_low (n % 128 + 128)) high ∙ ok_number (n % 128 + 128 - 128 + 128 * (n / 128)) n rest (omega arith)
]

-- a number's encoding at the start is read
pub length_complete : (n : ℕ) (rest : List ℕ) → n < 2 ^ 64 → leb128_front (leb128 n ++ rest) ≡ Ok (n, rest)
length_complete n rest few = elim (below_or n) [
  | inl small ↦ ap (λ (bs : List ℕ). leb128_front (bs ++ rest)) (leb128_small n small) ∙ first_small n rest small
  | inr large ↦
      let all : room 8 ≡ 2 ^ 57 = refl in
      let below : n / 128 < room 8 = omega (arith, few, all) in
      let high = later_complete 8 (n / 128) rest (omega arith) below in
      ap (λ (bs : List ℕ). leb128_front (bs ++ rest)) (leb128_more n large)
      ∙ first_large (n % 128 + 128) (leb128 (n / 128) ++ rest) (omega arith)
      ∙ ap (with_low (n % 128 + 128)) high ∙ ok_number (n % 128 + 128 - 128 + 128 * (n / 128)) n rest (omega arith)
]

-- ---- a proper prefix of an encoding is too short

not_empty : {Z : Type 0} (bytes rest : List ℕ) → rest ≢ [] → [] ≡ bytes ++ rest → Z
not_empty [] rest some e = absurd (some (sym e))
not_empty (byte ∷ bytes) rest some e = cc

later_short : (more n : ℕ) (bytes rest : List ℕ) → n < room more → rest ≢ [] → leb128 n ≡ bytes ++ rest → later_front more bytes ≡ Err Short
later_short more n [] rest few some e = later_none more
later_short zero n (byte ∷ bytes) rest few some e =
    let one : leb128 n ≡ n ∷ [] = leb128_small n (omega (arith, few)) in
    let tail : [] ≡ bytes ++ rest = cc in
    not_empty bytes rest some tail
later_short (suc more) n (byte ∷ bytes) rest few some e = elim (below_or n) [
  | inl small ↦ let one : leb128 n ≡ n ∷ [] = leb128_small n small in let tail : [] ≡ bytes ++ rest = cc in not_empty bytes rest some tail
  | inr large ↦
      let longer : leb128 n ≡ (n % 128 + 128) ∷ leb128 (n / 128) = leb128_more n large in
      let head : n % 128 + 128 ≡ byte = cc in
      let tail : leb128 (n / 128) ≡ bytes ++ rest = cc in
      let below : n / 128 < room more = omega (arith, few) in
      later_large more byte bytes (omega (arith, head)) ∙ ap (with_low byte) (later_short more (n / 128) bytes rest below some tail)
]

length_short : (n : ℕ) (bytes rest : List ℕ) → n < 2 ^ 64 → rest ≢ [] → leb128 n ≡ bytes ++ rest → leb128_front bytes ≡ Err Short
length_short n [] rest few some e = first_none
length_short n (byte ∷ bytes) rest few some e = elim (below_or n) [
  | inl small ↦ let one : leb128 n ≡ n ∷ [] = leb128_small n small in let tail : [] ≡ bytes ++ rest = cc in not_empty bytes rest some tail
  | inr large ↦
      let longer : leb128 n ≡ (n % 128 + 128) ∷ leb128 (n / 128) = leb128_more n large in
      let head : n % 128 + 128 ≡ byte = cc in
      let tail : leb128 (n / 128) ≡ bytes ++ rest = cc in
      let all : room 8 ≡ 2 ^ 57 = refl in
      let below : n / 128 < room 8 = omega (arith, few, all) in
      first_large byte bytes (omega (arith, head)) ∙ ap (with_low byte) (later_short 8 (n / 128) bytes rest below some tail)
]

-- ---- whatever is read is one of the three

-- an encoding, a proper prefix of one, or neither
pub data IsLength (bound : ℕ) (bytes : List ℕ) (read : First ℕ) : Type 0 where
  whole : (n : ℕ) (rest : List ℕ) → read ≡ Ok (n, rest) → n < bound → bytes ≡ leb128 n ++ rest → IsLength bound bytes read
  cut : (n : ℕ) (rest : List ℕ) → read ≡ Err Short → n < bound → rest ≢ [] → leb128 n ≡ bytes ++ rest → IsLength bound bytes read
  wrong : read ≡ Err Length → IsLength bound bytes read

-- the same of the later bytes, which are not those of 0
data IsLater (more : ℕ) (bytes : List ℕ) (read : First ℕ) : Type 0 where
  whole' : (n : ℕ) (rest : List ℕ) → read ≡ Ok (n, rest) → 0 < n → n < room more → bytes ≡ leb128 n ++ rest → IsLater more bytes read
  cut' : (n : ℕ) (rest : List ℕ) → read ≡ Err Short → 0 < n → n < room more → rest ≢ [] → leb128 n ≡ bytes ++ rest → IsLater more bytes read
  wrong' : read ≡ Err Length → IsLater more bytes read

some_more : (n : ℕ) → (n ∷ []) ≢ []
some_more n e = cc

one_room : (more : ℕ) → 1 < room more
one_room zero = lit< tt
one_room (suc more) = let less = one_room more in omega (arith, less)

-- the seven bits of a byte before a number
low_is : (byte n : ℕ) → 128 ≤ byte → byte < 256 → 0 < n → leb128 (byte - 128 + 128 * n) ≡ byte ∷ leb128 n
low_is byte n large small some = leb128_next (byte - 128) n (omega arith) some ∙ ap (λ (k : ℕ). k ∷ leb128 n) (omega arith)

later_is : (more : ℕ) (bytes : List ℕ) → Small bytes → IsLater more bytes (later_front more bytes)
later_is more [] small = cut' 1 (1 ∷ []) (later_none more) (lit< tt) (one_room more) (some_more 1) (leb128_small 1 (lit< tt))
later_is zero (byte ∷ bytes) small = at_test (byte == 1) refl
  where
    at_test : (test : Bool) → (byte == 1) ≡ test → IsLater zero (byte ∷ bytes) (later_front zero (byte ∷ bytes))
    at_test true is =
        let one : byte ≡ 1 = eqb-true byte 1 is in
        whole' byte bytes (later_last byte bytes ∙ rw is refl) (omega (arith, one)) (omega (arith, one)) (sym (ap (λ (bs : List ℕ). bs ++ bytes) (leb128_small byte (omega (arith, one)))))
    at_test false is = wrong' (later_last byte bytes ∙ rw is refl)
later_is (suc more) (byte ∷ bytes) small = elim (below_or byte) [
  | inl less ↦ last byte less
  | inr large ↦ longer large (later_is more bytes (λ i. small (suc i)))
]
  where
    last : (k : ℕ) → k < 128 → IsLater (suc more) (k ∷ bytes) (later_front (suc more) (k ∷ bytes))
    last zero less = wrong' (later_next more zero bytes)
    last (suc k) less =
        let all = one_room more in
        whole' (suc k) bytes (later_small more (suc k) bytes (omega arith) less) (omega arith) (omega (arith, all, less)) (sym (ap (λ (bs : List ℕ). bs ++ bytes) (leb128_small (suc k) less)))

    longer : 128 ≤ byte → IsLater more bytes (later_front more bytes) → IsLater (suc more) (byte ∷ bytes) (later_front (suc more) (byte ∷ bytes))
    longer large (whole' n rest is some few e) =
        let byte_small : byte < 256 = small 0 in
        whole' (byte - 128 + 128 * n) rest (later_large more byte bytes large ∙ ap (with_low byte) is) (omega (arith, some)) (omega (arith, few, byte_small))
        (ap (λ (bs : List ℕ). byte ∷ bs) e ∙ sym (ap (λ (bs : List ℕ). bs ++ rest) (low_is byte n large byte_small some)))
    longer large (cut' n rest is some few others e) =
        let byte_small : byte < 256 = small 0 in
        cut' (byte - 128 + 128 * n) rest (later_large more byte bytes large ∙ ap (with_low byte) is) (omega (arith, some)) (omega (arith, few, byte_small)) others
        (low_is byte n large byte_small some ∙ ap (λ (bs : List ℕ). byte ∷ bs) e)
    longer large (wrong' is) = wrong' (later_large more byte bytes large ∙ ap (with_low byte) is)

pub length_is : (bytes : List ℕ) → Small bytes → IsLength (2 ^ 64) bytes (leb128_front bytes)
length_is [] small = cut 1 (1 ∷ []) first_none (lit< tt) (some_more 1) (leb128_small 1 (lit< tt))
length_is (byte ∷ bytes) small = elim (below_or byte) [
  | inl less ↦ whole byte bytes (first_small byte bytes less) (omega (arith, less)) (sym (ap (λ (bs : List ℕ). bs ++ bytes) (leb128_small byte less)))
  | inr large ↦ longer large (later_is 8 bytes (λ i. small (suc i)))
]
  where
    longer : 128 ≤ byte → IsLater 8 bytes (later_front 8 bytes) → IsLength (2 ^ 64) (byte ∷ bytes) (leb128_front (byte ∷ bytes))
    longer large (whole' n rest is some few e) =
        let byte_small : byte < 256 = small 0 in
        let all : room 8 ≡ 2 ^ 57 = refl in
        whole (byte - 128 + 128 * n) rest (first_large byte bytes large ∙ ap (with_low byte) is) (omega (arith, few, byte_small, all))
        (ap (λ (bs : List ℕ). byte ∷ bs) e ∙ sym (ap (λ (bs : List ℕ). bs ++ rest) (low_is byte n large byte_small some)))
    longer large (cut' n rest is some few others e) =
        let byte_small : byte < 256 = small 0 in
        let all : room 8 ≡ 2 ^ 57 = refl in
        cut (byte - 128 + 128 * n) rest (first_large byte bytes large ∙ ap (with_low byte) is) (omega (arith, few, byte_small, all)) others
        (low_is byte n large byte_small some ∙ ap (λ (bs : List ℕ). byte ∷ bs) e)
    longer large (wrong' is) = wrong (first_large byte bytes large ∙ ap (with_low byte) is)

-- ---- what the code reads

pub read_got : (bytes : List ℕ) (value used : ℕ) → Reads (Got value used) bytes → leb128_front bytes ≡ Ok (value, drop used bytes)
read_got bytes value used reads =
    ap leb128_front (sym (take-append-drop used bytes) ∙ ap (λ (bs : List ℕ). bs ++ drop used bytes) reads.2) ∙ length_complete value (drop used bytes) reads.0

pub read_short : (bytes : List ℕ) → Reads Cut bytes → leb128_front bytes ≡ Err Short
read_short bytes reads = length_short reads.0 bytes reads.1 reads.2 reads.3 reads.4

pub read_bad : (bytes : List ℕ) → Small bytes → Reads Bad bytes → leb128_front bytes ≡ Err Length
read_bad bytes small reads = at_length (length_is bytes small)
  where
    at_length : IsLength (2 ^ 64) bytes (leb128_front bytes) → leb128_front bytes ≡ Err Length
    at_length (whole n rest is few e) = absurd (reads n rest [] few (sym e ∙ sym (append-nil bytes)))
    at_length (cut n rest is few some e) = absurd (reads n [] rest few (append-nil (leb128 n) ∙ e))
    at_length (wrong is) = is
