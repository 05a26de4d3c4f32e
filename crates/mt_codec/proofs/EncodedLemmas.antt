-- The writer's substreams encode their values.
use Rattle.std.proofs.Common.{◌≡◌, ℕ, zero, suc, ◌≤◌, Bool, true, List, [], ◌∷◌, length, map, refl, ap, sym, ◌∙◌, subst, arith}
use Rattle.std.specs.Prelude.{◌&&◌, nat_le, if◌then◌else◌}
use Rattle.std.specs.List.{flat_map, list_all}
use Rattle.std.proofs.lemmas.List.Folds.{flat_map-map}
use Rattle.std.proofs.lemmas.Bool.{and_parts, and_from}
use Rattle.mt_types.specs.declared.limits.TheConstants.{MAX_ELEMENTS}
use Rattle.mt_types.specs.declared.ty.Ty.{Ty, out-Ty, roll-Ty}
use Rattle.mt_types.specs.declared.ty.Ty.TheOpen.{Ty-F}
use Rattle.mt_types.specs.declared.ty.Ty.TheViews.{roll-out-Ty}
use Rattle.mt_types.specs.declared.ty.Ty.TheVariants.{Nullable, Array, outs-Nullable, outs-Array}
use Rattle.mt_types.specs.declared.value.Value.{Value, out-Value, roll-Value}
use Rattle.mt_types.specs.declared.value.Value.TheOpen.{Value-F}
use Rattle.mt_types.specs.declared.value.Value.TheViews.{roll-out-Value}
use Rattle.mt_types.specs.declared.value.Value.TheVariants.{List as Items, outs-List as outs-Items}
use Rattle.mt_types.specs.Defaults.{default_of}
use Rattle.mt_types.specs.Fits.{fits_of, list_at}
use Rattle.mt_types.specs.Items.{item_bytes}
use Rattle.mt_types.specs.Profile.{is_profile}
use Rattle.mt_types.proofs.Levels.{same_level}
use Rattle.mt_defs.specs.Lists.{Pointwise}
use Rattle.mt_defs.specs.Encoding.{Encodes, EncodesAs, EncodesNullable, EncodesArray, EncodesItems, Encoding, IsItemFor, encoding_step, null_byte, size_bytes}
use Rattle.mt_defs.specs.WrittenStreams.{written_streams, or_default, arrays_of, elements_at}
use Rattle.mt_defs.proofs.Encoders.{EncodesAs_out}
use Rattle.mt_types.proofs.NumberLemmas.{fits_at}
use Rattle.mt_codec.specs.Runs.{fits_or_null}
use Rattle.mt_defs.specs.FileNames.{array_levels}
use Rattle.mt_codec.proofs.WrittenLemmas.{IsSingleLevel, single_at, written_Nullable, written_Array, default_fits_too, array_inside, nullable_fit, array_fit, nullable_level}

-- what substreams of a type of this level say
pub encodes_at : (t : Ty) (level : Ty-F Ty) → out-Ty t ≡ level → EncodesAs t ≡ encoding_step Ty (λ u. u) EncodesAs level
encodes_at t level is = EncodesAs_out t ∙ ap (encoding_step Ty (λ u. u) EncodesAs) is

-- ---- under a null map

item_for_value : (d v : Value) → IsItemFor v (or_default d v)
item_for_value d v not_null = sym (ap (λ (null : Bool). if null then d else v) not_null)

items_for : (d : Value) (values : List Value) → Pointwise IsItemFor values (map (or_default d) values)
items_for d [] = tt
items_for d (v ∷ values) = (item_for_value d v, items_for d values)

items_fit : (t : Ty) (values : List Value) → list_all (fits_or_null t) values ≡ true → list_all (fits_of t) (map (or_default (default_of t)) values) ≡ true
items_fit t [] fit = refl
items_fit t (v ∷ values) fit = let p = and_parts _ _ fit in and_from _ _ (default_fits_too t v p.0) (items_fit t values p.1)

-- ---- under sizes

array_value : (f : Value → Bool) (v : Value) (level : Value-F Value) → out-Value v ≡ level → list_at (λ items. nat_le (length items) MAX_ELEMENTS && list_all f items) level ≡ true → v ≡ Items (elements_at level)
array_value f v (Value-F.List items) is fit = sym (roll-out-Value v) ∙ ap roll-Value (is ∙ sym (outs-Items items)) ∙ roll-out-Value (Items items)
array_value f v (Value-F.Num n) is fit = cc
array_value f v (Value-F.Huge n) is fit = cc
array_value f v (Value-F.Text bytes) is fit = cc
array_value f v Value-F.Null is fit = cc
array_value f v (Value-F.State s) is fit = cc

array_values : (f : Value → Bool) (values : List Value) → list_all (λ v. list_at (λ items. nat_le (length items) MAX_ELEMENTS && list_all f items) (out-Value v)) values ≡ true → values ≡ map Items (arrays_of values)
array_values f [] fit = refl
array_values f (v ∷ values) fit =
    let p = and_parts _ _ fit in
    ap (λ x. x ∷ values) (array_value f v (out-Value v) refl p.0) ∙ ap (λ xs. Items (elements_at (out-Value v)) ∷ xs) (array_values f values p.1)

joined_fit : (f : Value → Bool) (values : List Value) → list_all f (flat_map (λ value. elements_at (out-Value value)) values) ≡ true → list_all f (flat_map (λ elements. elements) (arrays_of values)) ≡ true
joined_fit f values fit = ap (list_all f) (flat_map-map (λ elements. elements) (λ value. elements_at (out-Value value)) values) ∙ fit

-- ---- each level

-- the substreams of the type encode the values
abbrev IsEncoded : Ty → List Value → Type 0
IsEncoded t values = EncodesAs t values (written_streams t values)

pub single_encodes : (t : Ty) (level : Ty-F Ty) → out-Ty t ≡ level → IsSingleLevel level → EncodesAs t ≡ EncodesItems (item_bytes t)
single_encodes t level is single = at_level level is single
  where
    same : (level : Ty-F Ty) → out-Ty t ≡ level → EncodesItems (item_bytes (roll-Ty level)) ≡ EncodesItems (item_bytes t)
    same level is = ap (λ u. EncodesItems (item_bytes u)) (ap roll-Ty (sym is) ∙ roll-out-Ty t)

    at_level : (level : Ty-F Ty) → out-Ty t ≡ level → IsSingleLevel level → EncodesAs t ≡ EncodesItems (item_bytes t)
    at_level (Ty-F.Nullable u) is single = absurd single
    at_level (Ty-F.Array u) is single = absurd single
    at_level (Ty-F.UInt w) is single = encodes_at t (Ty-F.UInt w) is ∙ same (Ty-F.UInt w) is
    at_level (Ty-F.Int w) is single = encodes_at t (Ty-F.Int w) is ∙ same (Ty-F.Int w) is
    at_level (Ty-F.FixedString n) is single = encodes_at t (Ty-F.FixedString n) is ∙ same (Ty-F.FixedString n) is
    at_level Ty-F.Str is single = encodes_at t Ty-F.Str is ∙ same Ty-F.Str is
    at_level Ty-F.Date is single = encodes_at t Ty-F.Date is ∙ same Ty-F.Date is
    at_level Ty-F.Moment is single = encodes_at t Ty-F.Moment is ∙ same Ty-F.Moment is
    at_level (Ty-F.State agg u) is single = encodes_at t (Ty-F.State agg u) is ∙ same (Ty-F.State agg u) is
    at_level Ty-F.CountState is single = encodes_at t Ty-F.CountState is ∙ same Ty-F.CountState is

single_encoded : (t : Ty) (level : Ty-F Ty) → out-Ty t ≡ level → IsSingleLevel level → (values : List Value) → IsEncoded t values
single_encoded t level is single values = subst (λ (e : Encoding). e values (written_streams t values)) (sym (single_encodes t level is single)) ((single_at t level is single).written values)

nullable_encoded : (u : Ty) (values : List Value) → IsEncoded u (map (or_default (default_of u)) values) → list_all (fits_of (Nullable u)) values ≡ true → IsEncoded (Nullable u) values
nullable_encoded u values inner fit =
    let items : List Value = map (or_default (default_of u)) values in
    let parts : EncodesNullable (fits_of u) (EncodesAs u) values (map null_byte values ∷ written_streams u items) =
    (refl, (items, items_for (default_of u) values, items_fit u values (nullable_fit u values fit), inner)) in
    subst (λ (e : Encoding). e values (written_streams (Nullable u) values)) (sym (encodes_at (Nullable u) (Ty-F.Nullable u) (outs-Nullable u)))
    (subst (λ ss. EncodesNullable (fits_of u) (EncodesAs u) values ss) (sym (written_Nullable u values)) parts)

array_encoded : (u : Ty) (values : List Value) → IsEncoded u (flat_map (λ elements. elements) (arrays_of values)) → list_all (fits_of (Array u)) values ≡ true → IsEncoded (Array u) values
array_encoded u values inner fit =
    let all = ap (λ f. list_all f values) (sym (fits_at (Array u) (Ty-F.Array u) (outs-Array u))) ∙ fit in
    let parts : EncodesArray (EncodesAs u) values (size_bytes (arrays_of values) ∷ written_streams u (flat_map (λ elements. elements) (arrays_of values))) =
    (arrays_of values, array_values (fits_of u) values all, refl, inner) in
    subst (λ (e : Encoding). e values (written_streams (Array u) values)) (sym (encodes_at (Array u) (Ty-F.Array u) (outs-Array u)))
    (subst (λ ss. EncodesArray (EncodesAs u) values ss) (sym (written_Array u values)) parts)

-- what stands in a Nullable type of the profile has one substream
scalar_encoded : (u : Ty) → is_profile (Nullable u) ≡ true → (values : List Value) → IsEncoded u values
scalar_encoded u profile values = single_encoded u (out-Ty u) refl (nullable_level u profile) values

-- the law, for types of at most so many arrays
encoded_within : (depth : ℕ) (t : Ty) (level : Ty-F Ty) → out-Ty t ≡ level → array_levels t ≤ depth → is_profile t ≡ true → (values : List Value) → list_all (fits_of t) values ≡ true → IsEncoded t values
encoded_within depth t (Ty-F.UInt w) is few profile values fit = single_encoded t (Ty-F.UInt w) is tt values
encoded_within depth t (Ty-F.Int w) is few profile values fit = single_encoded t (Ty-F.Int w) is tt values
encoded_within depth t (Ty-F.FixedString n) is few profile values fit = single_encoded t (Ty-F.FixedString n) is tt values
encoded_within depth t Ty-F.Str is few profile values fit = single_encoded t Ty-F.Str is tt values
encoded_within depth t Ty-F.Date is few profile values fit = single_encoded t Ty-F.Date is tt values
encoded_within depth t Ty-F.Moment is few profile values fit = single_encoded t Ty-F.Moment is tt values
encoded_within depth t (Ty-F.State agg u) is few profile values fit = single_encoded t (Ty-F.State agg u) is tt values
encoded_within depth t Ty-F.CountState is few profile values fit = single_encoded t Ty-F.CountState is tt values
encoded_within depth t (Ty-F.Nullable u) is few profile values fit =
    let same : Nullable u ≡ t = sym (same_level t (Nullable u) (is ∙ sym (outs-Nullable u))) in
    let p : is_profile (Nullable u) ≡ true = ap is_profile same ∙ profile in
    let f : list_all (fits_of (Nullable u)) values ≡ true = ap (λ t. list_all (fits_of t) values) same ∙ fit in
    subst (λ t. IsEncoded t values) same (nullable_encoded u values (scalar_encoded u p (map (or_default (default_of u)) values)) f)
encoded_within zero t (Ty-F.Array u) is few profile values fit =
    let same : Array u ≡ t = sym (same_level t (Array u) (is ∙ sym (outs-Array u))) in
    let more = (array_inside u (ap is_profile same ∙ profile)).1 in
    absurd (omega (arith, more, ap array_levels same))
encoded_within (suc depth) t (Ty-F.Array u) is few profile values fit =
    let same : Array u ≡ t = sym (same_level t (Array u) (is ∙ sym (outs-Array u))) in
    let p = array_inside u (ap is_profile same ∙ profile) in
    let f : list_all (fits_of (Array u)) values ≡ true = ap (λ t. list_all (fits_of t) values) same ∙ fit in
    let below : array_levels u ≤ depth = omega (arith, p.1, ap array_levels same) in
    let all = joined_fit (fits_of u) values (array_fit u values f) in
    subst (λ t. IsEncoded t values) same (array_encoded u values (encoded_within depth u (out-Ty u) refl below p.0 (flat_map (λ elements. elements) (arrays_of values)) all) f)

-- the law
pub written_encodes : (t : Ty) (values : List Value) → is_profile t ≡ true → list_all (fits_of t) values ≡ true → Encodes t values (written_streams t values)
written_encodes t values profile fit = record { fit = fit; encoded = encoded_within (array_levels t) t (out-Ty t) refl (omega arith) profile values fit }
