-- The substreams of values that fit have at most so many bytes for each value and each element.
use Rattle.std.proofs.Common.{◌≡◌, ℕ, ◌+◌, ◌*◌, ◌≤◌, ◌^◌, true, List, [], ◌∷◌, length, refl, ap, sym, ◌∙◌, subst, arith}
use Rattle.std.specs.Prelude.{nat_le, ◌&&◌}
use Rattle.std.specs.List.{list_all, sum_by}
use Rattle.std.proofs.lemmas.Bool.{and_parts}
use Rattle.std.proofs.lemmas.List.Sums.{sum_by-cons}
use Rattle.mt_types.specs.declared.limits.TheConstants.{MAX_ELEMENTS}
use Rattle.mt_types.specs.declared.ty.Ty.{Ty, map-Ty, out-Ty, roll-Ty}
use Rattle.mt_types.specs.declared.ty.Ty.TheOpen.{Ty-F}
use Rattle.mt_types.specs.declared.ty.Ty.TheVariants.{Array, Nullable, outs-Array, outs-Nullable}
use Rattle.mt_types.specs.declared.ty.Ty.TheViews.{out-roll-Ty}
use Rattle.mt_types.specs.declared.ty.Ty.TheFolds.{ind-Ty}
use Rattle.mt_types.specs.declared.value.Value.{Value, out-Value}
use Rattle.mt_types.specs.declared.value.Value.TheOpen.{Value-F}
use Rattle.mt_types.specs.Defaults.{default_of}
use Rattle.mt_types.specs.Fits.{fits_of, list_at}
use Rattle.mt_types.specs.Profile.{is_profile}
use Rattle.mt_types.proofs.Levels.{same_level}
use Rattle.mt_defs.specs.Rows.{element_count}
use Rattle.mt_defs.specs.WrittenStreams.{elements_at, or_default}
use Rattle.mt_types.proofs.NumberLemmas.{fits_at}
use Rattle.mt_codec.proofs.WrittenLemmas.{IsSingleLevel, array_inside, default_fits_too, nullable_inside, nullable_level}
use Rattle.mt_layout.specs.Sizes.{value_size}
use Rattle.mt_layout.proofs.SizeLemmas.{value_size_Array, value_size_Nullable, value_size_single}
use Rattle.mt_layout.proofs.StreamLemmas.{streams_size, streams_size_is}
use Rattle.mt_law_written.proofs.CellSums.{cells_of, list_cells}
use Rattle.mt_law_written.proofs.ItemLimits.{item_within}

-- an item, and the byte of a null map or the 8 bytes of a size
abbrev pub cell_limit : ℕ
cell_limit = 2 ^ 25

-- a value of a type of the profile has at most as many bytes for itself and for each element
abbrev IsLimited : Ty → Type 0
IsLimited t = is_profile t ≡ true → (value : Value) → fits_of t value ≡ true → value_size t value ≤ cell_limit * (1 + element_count value)

-- ---- by the outermost level of the type

limited_single : (t : Ty) (level : Ty-F Ty) → out-Ty t ≡ level → IsSingleLevel level → IsLimited t
limited_single t level is single profile value fits = omega (arith, item_within t value profile fits, value_size_single t level is single value)

limited_Nullable : (t : Ty) → IsLimited (Nullable t)
limited_Nullable t profile value fits =
    let inner : Value = or_default (default_of t) value in
    let fits_too : fits_of t inner ≡ true = default_fits_too t value (ap (λ f. f value) (sym (fits_at (Nullable t) (Ty-F.Nullable t) (outs-Nullable t))) ∙ fits) in
    let size = value_size_single t (out-Ty t) refl (nullable_level t profile) inner in
    omega (arith, item_within t inner (nullable_inside t profile) fits_too, size, value_size_Nullable t value)

limited_values : (t : Ty) → IsLimited t → is_profile t ≡ true → (values : List Value) → list_all (fits_of t) values ≡ true → sum_by (value_size t) values ≤ cell_limit * cells_of values
limited_values t limited profile [] fit = omega arith
limited_values t limited profile (value ∷ values) fit =
    let both = and_parts (fits_of t value) (list_all (fits_of t) values) fit in
    let here = limited profile value both.0 in
    let rest = limited_values t limited profile values both.1 in
    omega (arith, here, rest, sum_by-cons (value_size t) value values, sum_by-cons element_count value values)

limited_elements : (t : Ty) → IsLimited t → is_profile t ≡ true → (value : Value) (level : Value-F Value) → out-Value value ≡ level
    → list_at (λ items. nat_le (length items) MAX_ELEMENTS && list_all (fits_of t) items) level ≡ true → sum_by (value_size t) (elements_at level) ≤ cell_limit * element_count value
limited_elements t limited profile value (Value-F.List items) is fits =
    let fit = (and_parts (nat_le (length items) MAX_ELEMENTS) (list_all (fits_of t) items) fits).1 in
    omega (arith, limited_values t limited profile items fit, list_cells value items is)
limited_elements t limited profile value (Value-F.Num n) is fits = cc
limited_elements t limited profile value (Value-F.Huge n) is fits = cc
limited_elements t limited profile value (Value-F.Text bytes) is fits = cc
limited_elements t limited profile value Value-F.Null is fits = cc
limited_elements t limited profile value (Value-F.State s) is fits = cc

limited_Array : (t : Ty) → IsLimited t → IsLimited (Array t)
limited_Array t limited profile value fits =
    let inside = (array_inside t profile).0 in
    let elements = limited_elements t limited inside value (out-Value value) refl (ap (λ f. f value) (sym (fits_at (Array t) (Ty-F.Array t) (outs-Array t))) ∙ fits) in
    omega (arith, elements, value_size_Array t value)

-- ---- all types

-- a type for which that holds
abbrev Below : Type 0
Below = (t : Ty) × IsLimited t

limited_level : (y : Ty-F Below) → IsLimited (roll-Ty (map-Ty Below Ty (λ b. b.0) y))
limited_level (Ty-F.UInt w) = limited_single _ (Ty-F.UInt w) (out-roll-Ty (Ty-F.UInt w)) tt
limited_level (Ty-F.Int w) = limited_single _ (Ty-F.Int w) (out-roll-Ty (Ty-F.Int w)) tt
limited_level (Ty-F.FixedString n) = limited_single _ (Ty-F.FixedString n) (out-roll-Ty (Ty-F.FixedString n)) tt
limited_level Ty-F.Str = limited_single _ Ty-F.Str (out-roll-Ty Ty-F.Str) tt
limited_level Ty-F.Date = limited_single _ Ty-F.Date (out-roll-Ty Ty-F.Date) tt
limited_level Ty-F.Moment = limited_single _ Ty-F.Moment (out-roll-Ty Ty-F.Moment) tt
limited_level (Ty-F.Nullable b) = subst IsLimited (same_level (Nullable b.0) (roll-Ty (Ty-F.Nullable b.0)) (outs-Nullable b.0 ∙ sym (out-roll-Ty (Ty-F.Nullable b.0)))) (limited_Nullable b.0)
limited_level (Ty-F.Array b) = subst IsLimited (same_level (Array b.0) (roll-Ty (Ty-F.Array b.0)) (outs-Array b.0 ∙ sym (out-roll-Ty (Ty-F.Array b.0)))) (limited_Array b.0 b.1)
limited_level (Ty-F.State agg b) = limited_single _ (Ty-F.State agg b.0) (out-roll-Ty (Ty-F.State agg b.0)) tt
limited_level Ty-F.CountState = limited_single _ Ty-F.CountState (out-roll-Ty Ty-F.CountState) tt

pub value_within : (t : Ty) → is_profile t ≡ true → (value : Value) → fits_of t value ≡ true → value_size t value ≤ cell_limit * (1 + element_count value)
value_within = ind-Ty IsLimited (λ x y is. subst (λ l. IsLimited (roll-Ty l)) is (limited_level y))

pub values_within : (t : Ty) (values : List Value) → is_profile t ≡ true → list_all (fits_of t) values ≡ true → streams_size t values ≤ cell_limit * cells_of values
values_within t values profile fit = omega (arith, limited_values t (value_within t) profile values fit, streams_size_is t values)
