-- Where substreams follow each other, no fault is that bytes are left.
use Rattle.std.proofs.Common.{◌≡◌, ◌≢◌, ℕ, zero, suc, ◌+◌, ◌-◌, ◌*◌, ◌≤◌, Bool, true, false, List, [], ◌∷◌, length, take, drop, sum, Result, Ok, Err, refl, ap, sym, ◌∙◌, subst, arith, Some, None}
use Rattle.std.specs.Prelude.{◌==◌, ℤ, pos, nat_le, nat_lt, not, if◌then◌else◌}
use Rattle.std.specs.Int.{Width as Bits, w16, w32, w64, byte_len, from_le_bytes, cast_signed}
use Rattle.mt_types.specs.declared.limits.TheConstants.{MAX_TEXT, MAX_ELEMENTS}
use Rattle.mt_types.specs.declared.ty.Agg.{Agg}
use Rattle.mt_types.specs.declared.ty.Agg.TheVariants.{Sum, Min, Max}
use Rattle.mt_types.specs.declared.ty.Ty.{Ty, out-Ty}
use Rattle.mt_types.specs.declared.ty.Ty.TheOpen.{Ty-F}
use Rattle.mt_types.specs.declared.ty.Ty.TheVariants.{Nullable, Array, outs-Nullable, outs-Array}
use Rattle.mt_types.specs.declared.value.AggState.TheVariants as state
use Rattle.mt_types.specs.declared.value.Value.{Value}
use Rattle.mt_types.specs.declared.value.Value.TheVariants.{Text, State}
use Rattle.mt_types.specs.Fits.{number_value}
use Rattle.mt_types.specs.Items.{width}
use Rattle.mt_types.specs.Profile.{is_profile}
use Rattle.mt_types.specs.Steps.{◌>>=◌, require, at}
use Rattle.mt_types.proofs.Levels.{same_level}
use Rattle.mt_item.specs.declared.fault.CodecWhy.{CodecWhy}
use Rattle.mt_item.specs.declared.fault.CodecWhy.TheVariants.{Short, Over, Length, NullByte, HasByte, TooLong}
use Rattle.mt_item.specs.ItemReading.{First, read_as, bytes_front, whole_front, with_low, later_front, leb128_front, text_front, number_front, held_front, state_front, item_front, item_front_at}
use Rattle.mt_codec.specs.ColumnReading.{Read, Column, items_from, after_items, stream_from, null_front, size_front, nullable_from, array_from, nulled, arrays_from, column_from, front_reading, bytes_left}
use Rattle.mt_defs.specs.FileNames.{array_levels}
use Rattle.mt_codec.proofs.WrittenLemmas.{IsSingleLevel, nullable_level, array_inside}
use Rattle.mt_codec.proofs.ColumnLemmas.{column_Nullable, column_Array, column_single}

-- what is wrong, if anything, is such a thing
abbrev FailsOnly : {A E : Type 0} → (E → Type 0) → Result A E → Type 0
FailsOnly P (Ok x) = Unit {0}
FailsOnly P (Err e) = P e

then_only : {A B E : Type 0} (P : E → Type 0) (r : Result A E) (f : A → Result B E) → FailsOnly P r → ((x : A) → FailsOnly P (f x)) → FailsOnly P (r >>= f)
then_only P (Ok x) f first next = next x
then_only P (Err e) f first next = first

require_only : {E : Type 0} (P : E → Type 0) (b : Bool) (w : E) → P w → FailsOnly P (require b w)
require_only P true w p = tt
require_only P false w p = p

-- not that bytes are left
abbrev IsOther : CodecWhy → Type 0
IsOther why = why ≢ Over

short_other : IsOther Short
short_other e = cc

length_other : IsOther Length
length_other e = cc

null_other : IsOther NullByte
null_other e = cc

has_other : IsOther HasByte
has_other e = cc

long_other : IsOther TooLong
long_other e = cc

-- ---- items

as_only : {A B : Type 0} (f : A → B) (r : First A) → FailsOnly IsOther r → FailsOnly IsOther (read_as f r)
as_only f r first = then_only IsOther r (λ x. Ok (f x.0, x.1)) first (λ x. tt)

bytes_only : (count : ℕ) (bytes : List ℕ) → FailsOnly IsOther (bytes_front count bytes)
bytes_only count bytes = then_only IsOther (require (nat_le count (length bytes)) Short) (λ _. Ok (take count bytes, drop count bytes)) (require_only IsOther (nat_le count (length bytes)) Short short_other) (λ x. tt)

whole_only : (w : Bits) (bytes : List ℕ) → FailsOnly IsOther (whole_front w bytes)
whole_only w bytes = as_only (from_le_bytes w) (bytes_front (byte_len w) bytes) (bytes_only (byte_len w) bytes)

-- a byte that may end a number, or begin it
either_only : {A : Type 0} (b : Bool) (r s : First A) → FailsOnly IsOther r → FailsOnly IsOther s → FailsOnly IsOther (if b then r else s)
either_only true r s p q = p
either_only false r s p q = q

last_only : (b : Bool) (byte : ℕ) (rest : List ℕ) → FailsOnly IsOther (let r : First ℕ = (require b Length >>= λ _. Ok (byte, rest)) in r)
last_only true byte rest = tt
last_only false byte rest = length_other

later_only : (more : ℕ) (bytes : List ℕ) → FailsOnly IsOther (later_front more bytes)
unfolding later_front
later_only zero [] = short_other
later_only (suc more) [] = short_other
later_only zero (byte ∷ rest) = last_only (byte == 1) byte rest
later_only (suc more) (byte ∷ rest) =
    either_only (nat_lt byte 128) (require (not (byte == 0)) Length >>= λ _. Ok (byte, rest)) (with_low byte (later_front more rest))
    (last_only (not (byte == 0)) byte rest) (as_only (λ n. byte - 128 + 128 * n) (later_front more rest) (later_only more rest))

length_only : (bytes : List ℕ) → FailsOnly IsOther (leb128_front bytes)
unfolding leb128_front
length_only [] = short_other
length_only (byte ∷ rest) = either_only (nat_lt byte 128) (Ok (byte, rest)) (with_low byte (later_front 8 rest)) tt (as_only (λ n. byte - 128 + 128 * n) (later_front 8 rest) (later_only 8 rest))

text_only : (bytes : List ℕ) → FailsOnly IsOther (text_front bytes)
unfolding text_front
text_only bytes =
    then_only IsOther (leb128_front bytes) (λ size. (require (nat_le size.0 MAX_TEXT) TooLong >>= λ _. bytes_front size.0 size.1)) (length_only bytes) (λ size.
    then_only IsOther (require (nat_le size.0 MAX_TEXT) TooLong) (λ _. bytes_front size.0 size.1) (require_only IsOther (nat_le size.0 MAX_TEXT) TooLong long_other) (λ _. bytes_only size.0 size.1))

number_only : (level : Ty-F Ty) (bytes : List ℕ) → FailsOnly IsOther (number_front level bytes)
number_only (Ty-F.UInt w) bytes = as_only (λ n. pos n) (whole_front (width w) bytes) (whole_only (width w) bytes)
number_only (Ty-F.Int w) bytes = as_only (cast_signed (width w)) (whole_front (width w) bytes) (whole_only (width w) bytes)
number_only Ty-F.Date bytes = as_only (λ n. pos n) (whole_front w16 bytes) (whole_only w16 bytes)
number_only Ty-F.Moment bytes = as_only (λ n. pos n) (whole_front w32 bytes) (whole_only w32 bytes)
number_only (Ty-F.FixedString size) bytes = short_other
number_only Ty-F.Str bytes = short_other
number_only (Ty-F.Nullable u) bytes = short_other
number_only (Ty-F.Array u) bytes = short_other
number_only (Ty-F.State agg u) bytes = short_other
number_only Ty-F.CountState bytes = short_other

held_only : (number : List ℕ → First ℤ) → ((bytes : List ℕ) → FailsOnly IsOther (number bytes)) → (bytes : List ℕ) → FailsOnly IsOther (held_front number bytes)
unfolding held_front
held_only number only [] = short_other
held_only number only (byte ∷ rest) =
    then_only IsOther (require (nat_le byte 1) HasByte) (λ _. (if byte == 0 then Ok (None, rest) else read_as (λ n. Some n) (number rest))) (require_only IsOther (nat_le byte 1) HasByte has_other) (λ _.
    either_only (byte == 0) (Ok (None, rest)) (read_as (λ n. Some n) (number rest)) tt (as_only (λ n. Some n) (number rest) (only rest)))

state_only : (agg : Agg) (level : Ty-F Ty) (bytes : List ℕ) → FailsOnly IsOther (state_front agg level bytes)
state_only Sum level bytes = as_only (λ n. state.Sum n) (whole_front w64 bytes) (whole_only w64 bytes)
state_only Min level bytes = as_only (λ n. state.Least n) (held_front (number_front level) bytes) (held_only (number_front level) (number_only level) bytes)
state_only Max level bytes = as_only (λ n. state.Greatest n) (held_front (number_front level) bytes) (held_only (number_front level) (number_only level) bytes)

num_only : (level : Ty-F Ty) (bytes : List ℕ) → FailsOnly IsOther (read_as number_value (number_front level bytes))
num_only level bytes = as_only number_value (number_front level bytes) (number_only level bytes)

item_at_only : (level : Ty-F Ty) (bytes : List ℕ) → FailsOnly IsOther (item_front_at level bytes)
item_at_only (Ty-F.FixedString size) bytes = as_only (λ text. Text text) (bytes_front size bytes) (bytes_only size bytes)
item_at_only Ty-F.Str bytes = as_only (λ text. Text text) (text_front bytes) (text_only bytes)
item_at_only (Ty-F.State agg u) bytes = as_only (λ s. State s) (state_front agg (out-Ty u) bytes) (state_only agg (out-Ty u) bytes)
item_at_only Ty-F.CountState bytes = as_only (λ n. State (state.Count n)) (leb128_front bytes) (length_only bytes)
item_at_only (Ty-F.UInt w) bytes = num_only (Ty-F.UInt w) bytes
item_at_only (Ty-F.Int w) bytes = num_only (Ty-F.Int w) bytes
item_at_only Ty-F.Date bytes = num_only Ty-F.Date bytes
item_at_only Ty-F.Moment bytes = num_only Ty-F.Moment bytes
item_at_only (Ty-F.Nullable u) bytes = num_only (Ty-F.Nullable u) bytes
item_at_only (Ty-F.Array u) bytes = num_only (Ty-F.Array u) bytes

null_only : (bytes : List ℕ) → FailsOnly IsOther (null_front bytes)
unfolding null_front
null_only [] = short_other
null_only (byte ∷ rest) = then_only IsOther (require (nat_le byte 1) NullByte) (λ _. Ok (byte, rest)) (require_only IsOther (nat_le byte 1) NullByte null_other) (λ _. tt)

size_only : (bytes : List ℕ) → FailsOnly IsOther (size_front bytes)
unfolding size_front
size_only bytes =
    then_only IsOther (whole_front w64 bytes) (λ size. (require (nat_le size.0 MAX_ELEMENTS) TooLong >>= λ _. Ok size)) (whole_only w64 bytes) (λ size.
    then_only IsOther (require (nat_le size.0 MAX_ELEMENTS) TooLong) (λ _. Ok size) (require_only IsOther (nat_le size.0 MAX_ELEMENTS) TooLong long_other) (λ _. tt))

-- ---- substreams

abbrev ItemOther : ℕ × CodecWhy → Type 0
ItemOther e = IsOther e.1

abbrev SpotOther : ℕ × (ℕ × CodecWhy) → Type 0
SpotOther e = IsOther e.1.1

at_item : {A : Type 0} (item : ℕ) (r : Result A CodecWhy) → FailsOnly IsOther r → FailsOnly ItemOther (at item r)
at_item item (Ok x) only = tt
at_item item (Err why) only = only

at_stream : {A : Type 0} (stream : ℕ) (r : Result A (ℕ × CodecWhy)) → FailsOnly ItemOther r → FailsOnly SpotOther (at stream r)
at_stream stream (Ok x) only = tt
at_stream stream (Err e) only = only

items_only : {A : Type 0} (front : List ℕ → First A) → ((bytes : List ℕ) → FailsOnly IsOther (front bytes)) → (item count : ℕ) (bytes : List ℕ) → FailsOnly ItemOther (items_from front item count bytes)
unfolding items_from
items_only front only item zero bytes = tt
items_only front only item (suc count) bytes =
    then_only ItemOther (at item (front bytes)) (λ first. (items_from front (item + 1) count first.1 >>= λ more. Ok (first.0 ∷ more.0, more.1))) (at_item item (front bytes) (only bytes)) (λ first.
    then_only ItemOther (items_from front (item + 1) count first.1) (λ more. Ok (first.0 ∷ more.0, more.1)) (items_only front only (item + 1) count first.1) (λ more. tt))

after_only : (stream count : ℕ) (rest : List ℕ) (others : List (List ℕ)) → FailsOnly SpotOther (after_items false stream count rest others)
unfolding after_items
after_only stream count rest others = tt

stream_only : {A : Type 0} (front : List ℕ → First A) → ((bytes : List ℕ) → FailsOnly IsOther (front bytes)) → (stream count : ℕ) (streams : List (List ℕ)) → FailsOnly SpotOther (stream_from false front stream count streams)
unfolding stream_from
stream_only front only stream count [] = short_other
stream_only front only stream count (bytes ∷ others) =
    then_only SpotOther (at stream (items_from front 0 count bytes)) (λ read. (after_items false stream count read.1 others >>= λ left. Ok (read.0, left))) (at_stream stream (items_from front 0 count bytes) (items_only front only 0 count bytes)) (λ read.
    then_only SpotOther (after_items false stream count read.1 others) (λ left. Ok (read.0, left)) (after_only stream count read.1 others) (λ left. tt))

-- ---- columns

abbrev ColumnOther : Column → Type 0
ColumnOther column = (stream count : ℕ) (streams : List (List ℕ)) → FailsOnly SpotOther (column stream count streams)

nullable_only : (inner : Column) → ColumnOther inner → ColumnOther (nullable_from false inner)
unfolding nullable_from
nullable_only inner only stream count streams =
    then_only SpotOther (stream_from false null_front stream count streams) (λ nulls. (inner (stream + 1) count nulls.1 >>= λ values. Ok (nulled nulls.0 values.0, values.1))) (stream_only null_front null_only stream count streams) (λ nulls.
    then_only SpotOther (inner (stream + 1) count nulls.1) (λ values. Ok (nulled nulls.0 values.0, values.1)) (only (stream + 1) count nulls.1) (λ values. tt))

array_only : (inner : Column) → ColumnOther inner → ColumnOther (array_from false inner)
unfolding array_from
array_only inner only stream count streams =
    then_only SpotOther (stream_from false size_front stream count streams) (λ sizes. (inner (stream + 1) (sum sizes.0) sizes.1 >>= λ elements. Ok (arrays_from sizes.0 elements.0, elements.1))) (stream_only size_front size_only stream count streams) (λ sizes.
    then_only SpotOther (inner (stream + 1) (sum sizes.0) sizes.1) (λ elements. Ok (arrays_from sizes.0 elements.0, elements.1)) (only (stream + 1) (sum sizes.0) sizes.1) (λ elements. tt))

single_only : (t : Ty) (level : Ty-F Ty) → out-Ty t ≡ level → IsSingleLevel level → ColumnOther (column_from false t)
single_only t level is single = subst ColumnOther (sym (column_single false t level is single)) (stream_only (item_front t) (item_at_only (out-Ty t)))

column_only : (depth : ℕ) (t : Ty) (level : Ty-F Ty) → out-Ty t ≡ level → array_levels t ≤ depth → is_profile t ≡ true → ColumnOther (column_from false t)
column_only depth t (Ty-F.UInt w) is few profile = single_only t (Ty-F.UInt w) is tt
column_only depth t (Ty-F.Int w) is few profile = single_only t (Ty-F.Int w) is tt
column_only depth t (Ty-F.FixedString n) is few profile = single_only t (Ty-F.FixedString n) is tt
column_only depth t Ty-F.Str is few profile = single_only t Ty-F.Str is tt
column_only depth t Ty-F.Date is few profile = single_only t Ty-F.Date is tt
column_only depth t Ty-F.Moment is few profile = single_only t Ty-F.Moment is tt
column_only depth t (Ty-F.State agg u) is few profile = single_only t (Ty-F.State agg u) is tt
column_only depth t Ty-F.CountState is few profile = single_only t Ty-F.CountState is tt
column_only depth t (Ty-F.Nullable u) is few profile =
    let same : Nullable u ≡ t = sym (same_level t (Nullable u) (is ∙ sym (outs-Nullable u))) in
    let single = nullable_level u (ap is_profile same ∙ profile) in
    subst (λ (t : Ty). ColumnOther (column_from false t)) same (subst ColumnOther (sym (column_Nullable false u)) (nullable_only (column_from false u) (single_only u (out-Ty u) refl single)))
column_only zero t (Ty-F.Array u) is few profile =
    let same : Array u ≡ t = sym (same_level t (Array u) (is ∙ sym (outs-Array u))) in
    let more = (array_inside u (ap is_profile same ∙ profile)).1 in
    absurd (omega (arith, more, ap array_levels same))
column_only (suc depth) t (Ty-F.Array u) is few profile =
    let same : Array u ≡ t = sym (same_level t (Array u) (is ∙ sym (outs-Array u))) in
    let p = array_inside u (ap is_profile same ∙ profile) in
    let below : array_levels u ≤ depth = omega (arith, p.1, ap array_levels same) in
    subst (λ (t : Ty). ColumnOther (column_from false t)) same (subst ColumnOther (sym (column_Array false u)) (array_only (column_from false u) (column_only depth u (out-Ty u) refl below p.0)))

-- a fault of the values at the start of some bytes
pub front_not_over : (t : Ty) (rows : ℕ) (bytes : List ℕ) (stream item : ℕ) (why : CodecWhy) → is_profile t ≡ true → front_reading t rows bytes ≡ Err (stream, (item, why)) → why ≢ Over
front_not_over t rows bytes stream item why profile e =
    let only = then_only SpotOther (column_from false t 0 rows (bytes ∷ [])) (λ read. Ok (read.0, bytes_left read.1)) (column_only (array_levels t) t (out-Ty t) refl (omega arith) profile 0 rows (bytes ∷ [])) (λ read. tt) in
    subst (λ (r : Read (List Value × List ℕ)). FailsOnly SpotOther r) e only
