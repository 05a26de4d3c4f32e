-- The size of a value, by the outermost level of its type.
use Rattle.std.proofs.Common.{◌≡◌, ℕ, ◌+◌, ◌-◌, ◌<◌, ◌^◌, min, List, [], ◌∷◌, ◌++◌, length, map, replicate, refl, ap, sym, ◌∙◌, arith, append-nil}
use Rattle.std.specs.Prelude.{if◌then◌else◌}
use Rattle.std.specs.List.{sum, sum_by}
use Rattle.mt_facts.proofs.Numbers.{sum_single}
use Rattle.mt_types.specs.declared.ty.Ty.{Ty, out-Ty}
use Rattle.mt_types.specs.declared.ty.Ty.TheOpen.{Ty-F}
use Rattle.mt_types.specs.declared.ty.Ty.TheVariants.{Nullable, Array, FixedString, Str, outs-Nullable, outs-Array, outs-FixedString, outs-Str}
use Rattle.mt_types.specs.declared.value.Value.{Value, out-Value, roll-Value}
use Rattle.mt_types.specs.declared.value.Value.TheOpen.{Value-F}
use Rattle.mt_types.specs.declared.value.Value.TheViews.{roll-out-Value}
use Rattle.mt_types.specs.declared.value.Value.TheVariants.{Text, Null, List as Items, outs-Null, outs-List as outs-Items}
use Rattle.mt_types.specs.Defaults.{default_of, default_at}
use Rattle.mt_types.specs.Items.{item_bytes}
use Rattle.mt_defs.specs.Encoding.{is_null_at}
use Rattle.mt_defs.specs.WrittenStreams.{or_default, elements_at}
use Rattle.mt_codec.proofs.WrittenLemmas.{IsSingleLevel, single_of}
use Rattle.mt_layout.specs.Sizes.{saturated, value_size}
use Rattle.mt_layout.proofs.ItemLemmas.{fixed_zeros, empty_text}
use Rattle.mt_layout.proofs.StreamLemmas.{streams_size, streams_size_is, size_single, size_Nullable, size_Array}

-- a value of a type with one substream has its item's bytes
pub value_size_single : (t : Ty) (level : Ty-F Ty) → out-Ty t ≡ level → IsSingleLevel level → (value : Value) → value_size t value ≡ length (item_bytes t value)
unfolding value_size
value_size_single t level is single value = size_single t level is single (value ∷ []) ∙ ap length (append-nil (item_bytes t value))

-- a byte of the null map, and the bytes of the value or the default
pub value_size_Nullable : (t : Ty) (value : Value) → value_size (Nullable t) value ≡ 1 + value_size t (or_default (default_of t) value)
unfolding value_size
value_size_Nullable t value = size_Nullable t (value ∷ [])

-- the 8 bytes of a size, and the bytes of the elements
pub value_size_Array : (t : Ty) (value : Value) → value_size (Array t) value ≡ 8 + sum_by (value_size t) (elements_at (out-Value value))
unfolding value_size
value_size_Array t value =
    size_Array t (value ∷ []) ∙ ap (λ values. 8 + streams_size t values) (append-nil (elements_at (out-Value value)))
    ∙ ap (λ n. 8 + n) (streams_size_is t (elements_at (out-Value value)))

-- ---- by the type itself

pub nullable_size : (t u : Ty) (value : Value) → t ≡ Nullable u → value_size t value ≡ 1 + value_size u (or_default (default_of u) value)
nullable_size t u value is = ap (λ t. value_size t value) is ∙ value_size_Nullable u value

pub array_size : (t u : Ty) (value : Value) → t ≡ Array u → value_size t value ≡ 8 + sum_by (value_size u) (elements_at (out-Value value))
array_size t u value is = ap (λ t. value_size t value) is ∙ value_size_Array u value

pub single_size : (t : Ty) (value : Value) → ((u : Ty) → t ≡ Nullable u → ⊥) → ((u : Ty) → t ≡ Array u → ⊥) → value_size t value ≡ length (item_bytes t value)
unfolding value_size
single_size t value not_nullable not_array =
    ap (λ ss. sum (map length ss)) ((single_of t not_nullable not_array).written (value ∷ [])) ∙ sum_single (length (item_bytes t value ++ [])) ∙ ap length (append-nil (item_bytes t value))

-- NULL, and no other value, is under the default
pub or_default_null : (d value : Value) → value ≡ Null → or_default d value ≡ d
or_default_null d value is = ap (or_default d) is ∙ ap (λ (l : Value-F Value). if is_null_at l then d else Null) outs-Null

pub or_default_value : (d value : Value) (level : Value-F Value) → out-Value value ≡ level → (value ≡ Null → ⊥) → or_default d value ≡ value
or_default_value d value Value-F.Null is not_null = absurd (not_null (sym (roll-out-Value value) ∙ ap roll-Value (is ∙ sym outs-Null) ∙ roll-out-Value Null))
or_default_value d value (Value-F.Num n) is not_null = ap (λ (l : Value-F Value). if is_null_at l then d else value) is
or_default_value d value (Value-F.Huge n) is not_null = ap (λ (l : Value-F Value). if is_null_at l then d else value) is
or_default_value d value (Value-F.Text bytes) is not_null = ap (λ (l : Value-F Value). if is_null_at l then d else value) is
or_default_value d value (Value-F.List elements) is not_null = ap (λ (l : Value-F Value). if is_null_at l then d else value) is
or_default_value d value (Value-F.State state) is not_null = ap (λ (l : Value-F Value). if is_null_at l then d else value) is

-- the elements of an array, or none
pub elements_of_list : (value : Value) (elements : List Value) → value ≡ Items elements → elements_at (out-Value value) ≡ elements
elements_of_list value elements is = ap elements_at (ap out-Value is ∙ outs-Items elements)

pub elements_of_other : (value : Value) (level : Value-F Value) → out-Value value ≡ level → ((elements : List Value) → value ≡ Items elements → ⊥) → elements_at (out-Value value) ≡ []
elements_of_other value (Value-F.List elements) is not_list = absurd (not_list elements (sym (roll-out-Value value) ∙ ap roll-Value (is ∙ sym (outs-Items elements)) ∙ roll-out-Value (Items elements)))
elements_of_other value (Value-F.Num n) is not_list = ap elements_at is
elements_of_other value (Value-F.Huge n) is not_list = ap elements_at is
elements_of_other value (Value-F.Text bytes) is not_list = ap elements_at is
elements_of_other value Value-F.Null is not_list = ap elements_at is
elements_of_other value (Value-F.State state) is not_list = ap elements_at is

-- ---- defaults

pub default_single : (t : Ty) (level : Ty-F Ty) → out-Ty t ≡ level → IsSingleLevel level → (value : Value) → default_at level ≡ value → value_size t (default_of t) ≡ length (item_bytes t value)
default_single t level is single value default_is = value_size_single t level is single (default_of t) ∙ ap (λ v. length (item_bytes t v)) (ap default_at is ∙ default_is)

pub default_FixedString : (t : Ty) (size : ℕ) → t ≡ FixedString size → value_size t (default_of t) ≡ size
default_FixedString t size is = default_single t (Ty-F.FixedString size) (ap out-Ty is ∙ outs-FixedString size) tt (Text (replicate size 0)) refl ∙ fixed_zeros t size is

pub default_Str : (t : Ty) → t ≡ Str → value_size t (default_of t) ≡ 1
default_Str t is = default_single t Ty-F.Str (ap out-Ty is ∙ outs-Str) tt (Text []) refl ∙ empty_text t is

pub default_Nullable : (t u : Ty) → t ≡ Nullable u → value_size t (default_of t) ≡ 1 + value_size u (default_of u)
default_Nullable t u is =
    let null : default_of t ≡ Null = ap default_at (ap out-Ty is ∙ outs-Nullable u) in
    nullable_size t u (default_of t) is ∙ ap (λ v. 1 + value_size u v) (or_default_null (default_of u) (default_of t) null)

pub default_Array : (t u : Ty) → t ≡ Array u → value_size t (default_of t) ≡ 8
default_Array t u is =
    let empty : default_of t ≡ Items [] = ap default_at (ap out-Ty is ∙ outs-Array u) in
    array_size t u (default_of t) is ∙ ap (λ values. 8 + sum_by (value_size u) values) (elements_of_list (default_of t) [] empty)

-- ---- saturated sums

pub saturated-more : (both a k x whole : ℕ) → both ≡ min (a + k) (2 ^ 64 - 1) → a ≡ saturated x → whole ≡ k + x → both ≡ saturated whole
saturated-more both a k x whole s p q = omega arith

pub saturated-small : (n whole : ℕ) → n < 2 ^ 64 → whole ≡ n → n ≡ saturated whole
saturated-small n whole small is = omega arith
