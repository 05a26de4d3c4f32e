-- The writer's substreams of values that fit are bytes.
use Rattle.std.proofs.Common.{◌≡◌, ℕ, zero, suc, ◌<◌, ◌≤◌, Bool, true, false, List, [], ◌∷◌, length, refl, ap, sym, ◌∙◌, subst, arith, lit<}
use Rattle.std.specs.Prelude.{All, if◌then◌else◌}
use Rattle.std.specs.List.{flat_map, list_all}
use Rattle.std.specs.Int.{w64}
use Rattle.std.proofs.lemmas.Bool.{and_parts}
use Rattle.std.proofs.lemmas.List.Elements.{All-nil, All-cons, All-append}
use Rattle.mt_types.specs.declared.ty.Ty.{Ty, out-Ty}
use Rattle.mt_types.specs.declared.ty.Ty.TheOpen.{Ty-F}
use Rattle.mt_types.specs.declared.ty.Ty.TheVariants.{Nullable, Array, outs-Nullable, outs-Array}
use Rattle.mt_types.specs.declared.value.Value.{Value, out-Value}
use Rattle.mt_types.specs.Defaults.{default_of}
use Rattle.mt_types.specs.Fits.{fits_of}
use Rattle.mt_types.specs.Items.{item_bytes}
use Rattle.mt_types.specs.Profile.{is_profile}
use Rattle.mt_types.proofs.Levels.{same_level}
use Rattle.mt_defs.specs.Lists.{AreBytes}
use Rattle.mt_defs.specs.Encoding.{is_null, null_byte}
use Rattle.mt_defs.specs.WrittenStreams.{written_streams, or_default, elements_at}
use Rattle.mt_item.proofs.ItemBytes.{item_is_bytes, items_are_bytes, number_bytes, IsByte}
use Rattle.mt_codec.specs.Runs.{fits_or_null, null_item, size_item, written_item}
use Rattle.mt_defs.specs.FileNames.{array_levels}
use Rattle.mt_codec.proofs.WrittenLemmas.{IsSingleLevel, single_at, default_fits_too, nullable_fit, nullable_single, nullable_written, array_fit, array_inside, array_written}

null_bytes : (values : List Value) → AreBytes (flat_map null_item values)
null_bytes [] = All-nil IsByte
null_bytes (v ∷ values) = All-cons IsByte (null_byte v) (flat_map null_item values) (small (is_null v)) (null_bytes values)
  where
    small : (null : Bool) → (if null then 1 else 0) < 256
    small true = lit< tt
    small false = lit< tt

sizes_bytes : (values : List Value) → AreBytes (flat_map size_item values)
sizes_bytes [] = All-nil IsByte
sizes_bytes (v ∷ values) = All-append IsByte (size_item v) (flat_map size_item values) (number_bytes w64 (length (elements_at (out-Value v)))) (sizes_bytes values)

-- items under a null map, defaults in the place of NULL
written_bytes : (t : Ty) (values : List Value) → list_all (fits_or_null t) values ≡ true → AreBytes (flat_map (written_item t) values)
written_bytes t [] fit = All-nil IsByte
written_bytes t (v ∷ values) fit =
    let both = and_parts (fits_or_null t v) (list_all (fits_or_null t) values) fit in
    All-append IsByte (written_item t v) (flat_map (written_item t) values) (item_is_bytes t (or_default (default_of t) v) (default_fits_too t v both.0)) (written_bytes t values both.1)

abbrev StreamsAre : Ty → List Value → Type 0
StreamsAre t values = All AreBytes (written_streams t values)

single_bytes : (t : Ty) (level : Ty-F Ty) → out-Ty t ≡ level → IsSingleLevel level → (values : List Value) → list_all (fits_of t) values ≡ true → StreamsAre t values
single_bytes t level is single values fit =
    subst (All AreBytes) (sym ((single_at t level is single).written values)) (All-cons AreBytes (flat_map (item_bytes t) values) [] (items_are_bytes t values fit) (All-nil AreBytes))

nullable_bytes : (u : Ty) (values : List Value) → is_profile (Nullable u) ≡ true → list_all (fits_of (Nullable u)) values ≡ true → StreamsAre (Nullable u) values
nullable_bytes u values profile fit =
    subst (All AreBytes) (sym (nullable_written u (nullable_single u profile) values))
    (All-cons AreBytes (flat_map null_item values) (flat_map (written_item u) values ∷ []) (null_bytes values)
    (All-cons AreBytes (flat_map (written_item u) values) [] (written_bytes u values (nullable_fit u values fit)) (All-nil AreBytes)))

-- the substreams of types of at most so many arrays
bytes_within : (depth : ℕ) (t : Ty) (level : Ty-F Ty) → out-Ty t ≡ level → array_levels t ≤ depth → is_profile t ≡ true → (values : List Value) → list_all (fits_of t) values ≡ true → StreamsAre t values
bytes_within depth t (Ty-F.UInt w) is few profile values fit = single_bytes t (Ty-F.UInt w) is tt values fit
bytes_within depth t (Ty-F.Int w) is few profile values fit = single_bytes t (Ty-F.Int w) is tt values fit
bytes_within depth t (Ty-F.FixedString n) is few profile values fit = single_bytes t (Ty-F.FixedString n) is tt values fit
bytes_within depth t Ty-F.Str is few profile values fit = single_bytes t Ty-F.Str is tt values fit
bytes_within depth t Ty-F.Date is few profile values fit = single_bytes t Ty-F.Date is tt values fit
bytes_within depth t Ty-F.Moment is few profile values fit = single_bytes t Ty-F.Moment is tt values fit
bytes_within depth t (Ty-F.State a u) is few profile values fit = single_bytes t (Ty-F.State a u) is tt values fit
bytes_within depth t Ty-F.CountState is few profile values fit = single_bytes t Ty-F.CountState is tt values fit
bytes_within depth t (Ty-F.Nullable u) is few profile values fit =
    let same : Nullable u ≡ t = sym (same_level t (Nullable u) (is ∙ sym (outs-Nullable u))) in
    subst (λ t. StreamsAre t values) same (nullable_bytes u values (ap is_profile same ∙ profile) (ap (λ (u : Ty). list_all (fits_of u) values) same ∙ fit))
bytes_within zero t (Ty-F.Array u) is few profile values fit =
    let same : Array u ≡ t = sym (same_level t (Array u) (is ∙ sym (outs-Array u))) in
    let more = (array_inside u (ap is_profile same ∙ profile)).1 in
    absurd (omega (arith, more, ap array_levels same))
bytes_within (suc depth) t (Ty-F.Array u) is few profile values fit =
    let same : Array u ≡ t = sym (same_level t (Array u) (is ∙ sym (outs-Array u))) in
    let p = array_inside u (ap is_profile same ∙ profile) in
    let below : array_levels u ≤ depth = omega (arith, p.1, ap array_levels same) in
    let elements : List Value = flat_map (λ value. elements_at (out-Value value)) values in
    let inner = bytes_within depth u (out-Ty u) refl below p.0 elements (array_fit u values (ap (λ (u : Ty). list_all (fits_of u) values) same ∙ fit)) in
    subst (λ t. StreamsAre t values) same
    (subst (All AreBytes) (sym (array_written u values)) (All-cons AreBytes (flat_map size_item values) (written_streams u elements) (sizes_bytes values) inner))

-- the writer's substreams
pub streams_are_bytes : (t : Ty) (values : List Value) → is_profile t ≡ true → list_all (fits_of t) values ≡ true → StreamsAre t values
streams_are_bytes t values profile fit = bytes_within (array_levels t) t (out-Ty t) refl (omega arith) profile values fit
