-- The item of a value that fits is bytes.
use Rattle.std.proofs.Common.{◌≡◌, ℕ, ℤ, zero, suc, ◌+◌, ◌/◌, ◌%◌, ◌<◌, ◌≤◌, Bool, true, List, [], ◌∷◌, length, ap, sym, ◌∙◌, subst, arith, lit<, inl, inr}
use Rattle.std.proofs.Math.Nat.{mod-lt}
use Rattle.std.specs.Prelude.{Option, Some, None, ◌&&◌, ◌==◌, nat_le, nat_lt}
use Rattle.std.specs.List.{flat_map, list_all}
use Rattle.std.specs.Int.{Width as Bits, w16, w32, w64, byte_at, byte_len, cast_unsigned, bytes_low_first, to_le_bytes}
use Rattle.std.proofs.lemmas.Bool.{cases_Bool, cases_lt, and_parts, ltb-true, lt-ltb}
use Rattle.std.proofs.lemmas.List.Elements.{All-nil, All-cons, All-append}
use Rattle.mt_types.specs.Bytes.{is_byte}
use Rattle.mt_types.specs.Leb128.{leb128, leb128_within}
use Rattle.mt_types.specs.declared.limits.TheConstants.{MAX_TEXT}
use Rattle.mt_types.specs.declared.ty.Agg.{Agg}
use Rattle.mt_types.specs.declared.ty.Agg.TheVariants as agg
use Rattle.mt_types.specs.declared.ty.Ty.{Ty, map-Ty, roll-Ty}
use Rattle.mt_types.specs.declared.ty.Ty.TheOpen.{Ty-F}
use Rattle.mt_types.specs.declared.ty.Ty.TheFolds.{fold-roll-Ty, ind-Ty}
use Rattle.mt_types.specs.declared.value.AggState.{AggState}
use Rattle.mt_types.specs.declared.value.AggState.TheVariants.{Count, Sum, Least, Greatest}
use Rattle.mt_types.specs.declared.value.Value.{Value, out-Value}
use Rattle.mt_types.specs.declared.value.Value.TheOpen.{Value-F}
use Rattle.mt_types.specs.declared.value.Value.TheVariants.{Num}
use Rattle.mt_types.specs.Fits.{fits_of, fits_step, is_count, is_least_of, is_state_of, state_at as passes_state, text_at as passes_text}
use Rattle.mt_types.specs.Items.{item_bytes, item_step, whole_at, fixed_at, text_at, held, state_bytes, state_at, width}
use Rattle.mt_defs.specs.Lists.{AreBytes}
use Rattle.mt_defs.proofs.ListLemmas.{tested_bytes}

abbrev pub IsByte : ℕ → Type 0
IsByte byte = byte < 256

-- ---- numbers

byte_small : (i n : ℕ) → byte_at i n < 256
byte_small zero n = mod-lt n (lit< tt)
byte_small (suc i) n = mod-lt _ (lit< tt)

low_bytes : (i k n : ℕ) → AreBytes (bytes_low_first i k n)
low_bytes i zero n = All-nil IsByte
low_bytes i (suc k) n = All-cons IsByte (byte_at i n) (bytes_low_first (suc i) k n) (byte_small i n) (low_bytes (suc i) k n)

pub number_bytes : (bits : Bits) (n : ℕ) → AreBytes (to_le_bytes bits n)
number_bytes bits n = low_bytes 0 (byte_len bits) n

whole_bytes : (bits : Bits) (level : Value-F Value) → AreBytes (whole_at bits level)
whole_bytes bits (Value-F.Num n) = number_bytes bits (cast_unsigned bits n)
whole_bytes bits (Value-F.Huge n) = number_bytes bits n
whole_bytes bits (Value-F.Text bytes) = All-nil IsByte
whole_bytes bits Value-F.Null = All-nil IsByte
whole_bytes bits (Value-F.List items) = All-nil IsByte
whole_bytes bits (Value-F.State s) = All-nil IsByte

leb128_bytes : (more n : ℕ) → n ≤ more → AreBytes (leb128_within more n)
leb128_bytes zero n few = All-cons IsByte n [] (omega (arith, few)) (All-nil IsByte)
leb128_bytes (suc more) n few =
    elim (cases_lt n 128) [
      | inl small ↦ rw (lt-ltb n 128 small) (All-cons IsByte n [] (omega (arith, small)) (All-nil IsByte))
      | inr large ↦
          let low : n % 128 < 128 = mod-lt n (lit< tt) in
          let rest : n / 128 ≤ more = omega (arith, few, large) in
          elim (cases_Bool (nat_lt n 128)) [
            | inl is ↦ let bad : n < 128 = ltb-true n 128 is in absurd (omega (arith, bad, large))
            | inr isnt ↦ rw isnt (All-cons IsByte (n % 128 + 128) (leb128_within more (n / 128)) (omega (arith, low)) (leb128_bytes more (n / 128) rest))
          ]
    ]

pub length_bytes : (n : ℕ) → AreBytes (leb128 n)
unfolding leb128
length_bytes n = leb128_bytes n n (omega arith)

-- ---- one level of a value that fits

fixed_bytes : (size : ℕ) (level : Value-F Value) → passes_text (λ bytes. length bytes == size && list_all is_byte bytes) level ≡ true → AreBytes (fixed_at level)
fixed_bytes size (Value-F.Num n) fits = cc
fixed_bytes size (Value-F.Huge n) fits = cc
fixed_bytes size (Value-F.Text bytes) fits = tested_bytes bytes (and_parts (length bytes == size) (list_all is_byte bytes) fits).1
fixed_bytes size Value-F.Null fits = cc
fixed_bytes size (Value-F.List items) fits = cc
fixed_bytes size (Value-F.State s) fits = cc

text_bytes : (level : Value-F Value) → passes_text (λ bytes. nat_le (length bytes) MAX_TEXT && list_all is_byte bytes) level ≡ true → AreBytes (text_at level)
text_bytes (Value-F.Num n) fits = cc
text_bytes (Value-F.Huge n) fits = cc
text_bytes (Value-F.Text bytes) fits =
    All-append IsByte (leb128 (length bytes)) bytes (length_bytes (length bytes)) (tested_bytes bytes (and_parts (nat_le (length bytes) MAX_TEXT) (list_all is_byte bytes) fits).1)
text_bytes Value-F.Null fits = cc
text_bytes (Value-F.List items) fits = cc
text_bytes (Value-F.State s) fits = cc

module _ (argument : Value → List ℕ) (passes : Value → Bool) (are : (n : ℤ) → passes (Num n) ≡ true → AreBytes (argument (Num n))) where
  held_bytes : (n : Option ℤ) → is_least_of passes n ≡ true → AreBytes (held argument n)
  held_bytes None fits = All-cons IsByte 0 [] (lit< tt) (All-nil IsByte)
  held_bytes (Some n) fits = All-cons IsByte 1 (argument (Num n)) (lit< tt) (are n fits)

  kept_bytes : (a : Agg) (s : AggState) → is_state_of a passes s ≡ true → AreBytes (state_bytes argument s)
  kept_bytes a (Count n) fits = length_bytes n
  kept_bytes a (Sum n) fits = number_bytes w64 n
  kept_bytes agg.Min (Least n) fits = held_bytes n fits
  kept_bytes agg.Max (Greatest n) fits = held_bytes n fits
  kept_bytes agg.Sum (Least n) fits = cc
  kept_bytes agg.Max (Least n) fits = cc
  kept_bytes agg.Sum (Greatest n) fits = cc
  kept_bytes agg.Min (Greatest n) fits = cc

  state_level : (a : Agg) (level : Value-F Value) → passes_state (is_state_of a passes) level ≡ true → AreBytes (state_at argument level)
  state_level a (Value-F.Num n) fits = All-nil IsByte
  state_level a (Value-F.Huge n) fits = All-nil IsByte
  state_level a (Value-F.Text bytes) fits = All-nil IsByte
  state_level a Value-F.Null fits = All-nil IsByte
  state_level a (Value-F.List items) fits = All-nil IsByte
  state_level a (Value-F.State s) fits = kept_bytes a s fits

count_bytes : (s : AggState) → is_count s ≡ true → AreBytes (state_bytes (λ _. []) s)
count_bytes (Count n) fits = length_bytes n
count_bytes (Sum n) fits = cc
count_bytes (Least n) fits = cc
count_bytes (Greatest n) fits = cc

count_level : (level : Value-F Value) → passes_state is_count level ≡ true → AreBytes (state_at (λ _. []) level)
count_level (Value-F.Num n) fits = All-nil IsByte
count_level (Value-F.Huge n) fits = All-nil IsByte
count_level (Value-F.Text bytes) fits = All-nil IsByte
count_level Value-F.Null fits = All-nil IsByte
count_level (Value-F.List items) fits = All-nil IsByte
count_level (Value-F.State s) fits = count_bytes s fits

-- ---- items

abbrev ItemsAre : Ty → Type 0
ItemsAre t = (v : Value) → fits_of t v ≡ true → AreBytes (item_bytes t v)

abbrev Below : Type 0
Below = (t : Ty) × ItemsAre t

-- the types of a level
abbrev level_of : Ty-F Below → Ty-F Ty
level_of = map-Ty Below Ty (λ e. e.0)

item_level : (y : Ty-F Below) (v : Value) → fits_step (map-Ty Ty (Value → Bool) fits_of (level_of y)) v ≡ true → AreBytes (item_step (map-Ty Ty (Value → List ℕ) item_bytes (level_of y)) v)
item_level (Ty-F.UInt w) v fits = whole_bytes (width w) (out-Value v)
item_level (Ty-F.Int w) v fits = whole_bytes (width w) (out-Value v)
item_level (Ty-F.FixedString n) v fits = fixed_bytes n (out-Value v) fits
item_level Ty-F.Str v fits = text_bytes (out-Value v) fits
item_level Ty-F.Date v fits = whole_bytes w16 (out-Value v)
item_level Ty-F.Moment v fits = whole_bytes w32 (out-Value v)
item_level (Ty-F.Nullable t) v fits = All-nil IsByte
item_level (Ty-F.Array t) v fits = All-nil IsByte
item_level (Ty-F.State a t) v fits = state_level (item_bytes t.0) (fits_of t.0) (λ n. t.1 (Num n)) a (out-Value v) fits
item_level Ty-F.CountState v fits = count_level (out-Value v) fits

item_rolled : (y : Ty-F Below) → ItemsAre (roll-Ty (level_of y))
item_rolled y v fits =
    subst AreBytes (sym (ap (λ (f : Value → List ℕ). f v) (fold-roll-Ty (Value → List ℕ) item_step (level_of y))))
    (item_level y v (ap (λ (f : Value → Bool). f v) (sym (fold-roll-Ty (Value → Bool) fits_step (level_of y))) ∙ fits))

-- the item of a value that fits
pub item_is_bytes : (t : Ty) → ItemsAre t
item_is_bytes = ind-Ty ItemsAre (λ x y is. subst (λ l. ItemsAre (roll-Ty l)) is (item_rolled y))

pub items_are_bytes : (t : Ty) (values : List Value) → list_all (fits_of t) values ≡ true → AreBytes (flat_map (item_bytes t) values)
items_are_bytes t [] fit = All-nil IsByte
items_are_bytes t (v ∷ values) fit =
    let both = and_parts (fits_of t v) (list_all (fits_of t) values) fit in
    All-append IsByte (item_bytes t v) (flat_map (item_bytes t) values) (item_is_bytes t v both.0) (items_are_bytes t values both.1)
