-- What the items of texts and counts are read as.
use Rattle.std.proofs.Common.{◌≡◌, ℕ, ◌<◌, ◌≤◌, List, length, take, drop, Ok, Err, ap, sym, ◌∙◌}
use Rattle.mt_types.specs.declared.ty.Ty.{Ty, out-Ty}
use Rattle.mt_types.specs.declared.ty.Ty.TheOpen.{Ty-F}
use Rattle.mt_types.specs.declared.ty.Ty.TheVariants.{FixedString, Str, CountState, outs-FixedString, outs-Str, outs-CountState}
use Rattle.mt_types.specs.declared.value.AggState.TheVariants as state
use Rattle.mt_types.specs.declared.value.Value.{Value}
use Rattle.mt_types.specs.declared.value.Value.TheVariants.{Text, State}
use Rattle.mt_item.specs.declared.fault.CodecWhy.{CodecWhy}
use Rattle.mt_item.specs.declared.fault.CodecWhy.TheVariants.{Short}
use Rattle.mt_item.specs.ItemReading.{First, read_as, leb128_front, text_front, item_front, item_front_at}
use Rattle.mt_item.proofs.ExactLemmas.{bytes_read, bytes_short}

-- what a type of this level is read as
at_level : (t : Ty) (level : Ty-F Ty) (bytes : List ℕ) → out-Ty t ≡ level → item_front t bytes ≡ item_front_at level bytes
at_level t level bytes is = ap (λ (l : Ty-F Ty). item_front_at l bytes) is

pub fixed_read : (size : ℕ) (bytes text rest list : List ℕ) → size ≤ length bytes → text ≡ take size bytes → rest ≡ drop size bytes → list ≡ text → item_front (FixedString size) bytes ≡ Ok (Text list, rest)
fixed_read size bytes text rest list long front back same =
    at_level (FixedString size) (Ty-F.FixedString size) bytes (outs-FixedString size) ∙ ap (read_as (λ text. Text text)) (bytes_read size bytes list rest long (same ∙ front) back)

pub fixed_short : (size : ℕ) (bytes : List ℕ) → length bytes < size → item_front (FixedString size) bytes ≡ Err Short
fixed_short size bytes short = at_level (FixedString size) (Ty-F.FixedString size) bytes (outs-FixedString size) ∙ ap (read_as (λ text. Text text)) (bytes_short size bytes short)

pub str_read : (bytes text rest list : List ℕ) → text_front bytes ≡ Ok (text, rest) → list ≡ text → item_front Str bytes ≡ Ok (Text list, rest)
str_read bytes text rest list is same =
    at_level Str Ty-F.Str bytes outs-Str ∙ ap (read_as (λ text. Text text)) is ∙ ap (λ (t : List ℕ). let r : First Value = Ok (Text t, rest) in r) (sym same)

pub str_wrong : (bytes : List ℕ) (why : CodecWhy) → text_front bytes ≡ Err why → item_front Str bytes ≡ Err why
str_wrong bytes why is = at_level Str Ty-F.Str bytes outs-Str ∙ ap (read_as (λ text. Text text)) is

pub count_read : (bytes : List ℕ) (n : ℕ) (rest : List ℕ) → leb128_front bytes ≡ Ok (n, rest) → item_front CountState bytes ≡ Ok (State (state.Count n), rest)
count_read bytes n rest is = at_level CountState Ty-F.CountState bytes outs-CountState ∙ ap (read_as (λ n. State (state.Count n))) is

pub count_wrong : (bytes : List ℕ) (why : CodecWhy) → leb128_front bytes ≡ Err why → item_front CountState bytes ≡ Err why
count_wrong bytes why is = at_level CountState Ty-F.CountState bytes outs-CountState ∙ ap (read_as (λ n. State (state.Count n))) is
