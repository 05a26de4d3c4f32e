-- One level of a value that fits has at most the bytes of a text and of its length.
use Rattle.std.proofs.Common.{◌≡◌, ℕ, ℤ, zero, suc, ◌+◌, ◌*◌, ◌/◌, ◌<◌, ◌≤◌, ◌^◌, Bool, true, List, length, refl, ap, arith, length-append, lit≤, inl, inr}
use Rattle.std.specs.Prelude.{Option, Some, None, nat_le, ◌==◌, ◌&&◌}
use Rattle.std.specs.List.{list_all}
use Rattle.std.specs.Int.{to_le_bytes, cast_unsigned}
use Rattle.std.proofs.lemmas.Bool.{and_parts, cases_lt, eqb-true, leb-true, ltb-true}
use Rattle.mt_types.specs.Bytes.{is_byte}
use Rattle.mt_types.specs.declared.limits.TheConstants.{MAX_FIXED_STRING, MAX_TEXT}
use Rattle.mt_types.specs.declared.ty.Agg.{Agg}
use Rattle.mt_types.specs.declared.ty.Agg.TheVariants as agg
use Rattle.mt_types.specs.declared.ty.Width.{Width}
use Rattle.mt_types.specs.declared.ty.Width.TheVariants.{W8, W16, W32, W64, W128}
use Rattle.mt_types.specs.declared.value.AggState.{AggState}
use Rattle.mt_types.specs.declared.value.AggState.TheVariants.{Count, Sum, Least, Greatest}
use Rattle.mt_types.specs.declared.value.Value.{Value}
use Rattle.mt_types.specs.declared.value.Value.TheOpen.{Value-F}
use Rattle.mt_types.specs.declared.value.Value.TheVariants.{Num}
use Rattle.mt_types.specs.Fits.{is_count, is_state_of, state_at as passes_state, text_at as passes_text}
use Rattle.mt_types.specs.Items.{fixed_at, held, state_at, state_bytes, text_at, whole_at, width}
use Rattle.mt_types.specs.Leb128.{leb128}
use Rattle.mt_types.proofs.Leb128Lemmas.{leb128_more, leb128_small}

-- a text has at most MAX_TEXT bytes, and its length 10
abbrev pub item_limit : ℕ
item_limit = MAX_TEXT + 10

-- ---- lengths

-- the numbers of at most so many bytes besides the last are below this
abbrev room : ℕ → ℕ
room zero = 128
room (suc more) = 128 * room more

length_within : (more n : ℕ) → n < room more → length (leb128 n) ≤ suc more
length_within zero n few = omega (arith, ap length (leb128_small n few))
length_within (suc more) n few = elim (cases_lt n 128) [
  | inl small ↦ omega (arith, ap length (leb128_small n small))
  | inr large ↦
      let below : n / 128 < room more = omega (arith, few) in
      omega (arith, length_within more (n / 128) below, ap length (leb128_more n large))
]

length_size : (n : ℕ) → n < 2 ^ 64 → length (leb128 n) ≤ 10
length_size n few =
    let all : room 9 ≡ 2 ^ 70 = refl in
    length_within 9 n (omega (arith, few, all))

-- ---- numbers

number_size : (w : Width) (n : ℕ) → length (to_le_bytes (width w) n) ≤ 16
number_size W8 n = lit≤ tt
number_size W16 n = lit≤ tt
number_size W32 n = lit≤ tt
number_size W64 n = lit≤ tt
number_size W128 n = lit≤ tt

pub whole_size : (w : Width) (level : Value-F Value) → length (whole_at (width w) level) ≤ 16
whole_size w (Value-F.Num n) = number_size w (cast_unsigned (width w) n)
whole_size w (Value-F.Huge n) = number_size w n
whole_size w (Value-F.Text bytes) = lit≤ tt
whole_size w Value-F.Null = lit≤ tt
whole_size w (Value-F.List items) = lit≤ tt
whole_size w (Value-F.State s) = lit≤ tt

-- ---- texts

pub fixed_size : (size : ℕ) → size ≤ MAX_FIXED_STRING → (level : Value-F Value) → passes_text (λ bytes. length bytes == size && list_all is_byte bytes) level ≡ true → length (fixed_at level) ≤ item_limit
fixed_size size few (Value-F.Num n) fits = cc
fixed_size size few (Value-F.Huge n) fits = cc
fixed_size size few (Value-F.Text bytes) fits = omega (arith, few, eqb-true (length bytes) size (and_parts (length bytes == size) (list_all is_byte bytes) fits).0)
fixed_size size few Value-F.Null fits = cc
fixed_size size few (Value-F.List items) fits = cc
fixed_size size few (Value-F.State s) fits = cc

pub text_size : (level : Value-F Value) → passes_text (λ bytes. nat_le (length bytes) MAX_TEXT && list_all is_byte bytes) level ≡ true → length (text_at level) ≤ item_limit
text_size (Value-F.Num n) fits = cc
text_size (Value-F.Huge n) fits = cc
text_size (Value-F.Text bytes) fits =
    let few : length bytes ≤ MAX_TEXT = leb-true (length bytes) MAX_TEXT (and_parts (nat_le (length bytes) MAX_TEXT) (list_all is_byte bytes) fits).0 in
    omega (arith, few, length_size (length bytes) (omega (arith, few)), length-append (leb128 (length bytes)) bytes)
text_size Value-F.Null fits = cc
text_size (Value-F.List items) fits = cc
text_size (Value-F.State s) fits = cc

-- ---- states

-- a count has 64 bits
abbrev pub IsSmallCount : AggState → Type 0
IsSmallCount (Count n) = n < 2 ^ 64
IsSmallCount _ = Unit {0}

module _ (argument : Value → List ℕ) (few : (n : ℤ) → length (argument (Num n)) ≤ 16) where
  held_size : (n : Option ℤ) → length (held argument n) ≤ 17
  held_size None = lit≤ tt
  held_size (Some n) = omega (arith, few n)

  kept_size : (s : AggState) → IsSmallCount s → length (state_bytes argument s) ≤ 17
  kept_size (Count n) small = omega (arith, length_size n small)
  kept_size (Sum n) small = lit≤ tt
  kept_size (Least n) small = held_size n
  kept_size (Greatest n) small = held_size n

  pub state_size : (test : AggState → Bool) → ((s : AggState) → test s ≡ true → IsSmallCount s) → (level : Value-F Value) → passes_state test level ≡ true → length (state_at argument level) ≤ 17
  state_size test small (Value-F.Num n) fits = lit≤ tt
  state_size test small (Value-F.Huge n) fits = lit≤ tt
  state_size test small (Value-F.Text bytes) fits = lit≤ tt
  state_size test small Value-F.Null fits = lit≤ tt
  state_size test small (Value-F.List items) fits = lit≤ tt
  state_size test small (Value-F.State s) fits = kept_size s (small s fits)

pub count_small : (s : AggState) → is_count s ≡ true → IsSmallCount s
count_small (Count n) fits = ltb-true n (2 ^ 64) fits
count_small (Sum n) fits = tt
count_small (Least n) fits = tt
count_small (Greatest n) fits = tt

-- the other states are no counts
pub state_small : (a : Agg) (argument : Value → Bool) (s : AggState) → is_state_of a argument s ≡ true → IsSmallCount s
state_small agg.Sum argument (Count n) fits = cc
state_small agg.Min argument (Count n) fits = cc
state_small agg.Max argument (Count n) fits = cc
state_small a argument (Sum n) fits = tt
state_small a argument (Least n) fits = tt
state_small a argument (Greatest n) fits = tt
