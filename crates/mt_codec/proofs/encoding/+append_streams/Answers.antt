use Rattle.std.proofs.Common.{◌≡◌, ◌<◌, arith, [], ◌∷◌, true, sym, ◌∙◌, ap, subst, rules}
use Rattle.std.specs.Prelude.{OnOk}
use Rattle.std.specs.List.{flat_map, list_all}
use Rattle.mt_types.specs.declared.ty.Ty.TheVariants.{Nullable, Array}
use Rattle.mt_types.specs.declared.value.Value.{out-Value}
use Rattle.mt_types.specs.Fits.{fits_of}
use Rattle.mt_types.specs.Profile.{is_profile}
use Rattle.mt_defs.specs.WrittenStreams.{elements_at, written_streams}
use Rattle.mt_defs.specs.FileNames.{array_levels}
use Rattle.mt_codec.specs.Runs.{values_of, written_item, null_item, size_item}
use Rattle.mt_codec.proofs.WrittenLemmas.{single_items, single_of, fit_or_null, nullable_single, nullable_written, array_fit, array_written, written_items, one_more, two_more, more_after, array_inside}
use Rattle.mt_codec.proofs.encoding.+append_streams.Goals as goal

pub items_of-requires-in_default : goal.items_of-requires-in_default
items_of-requires-in_default t c = record { items = single_items c.args.ty.now c.requires.profile c.in_default.not-Nullable c.in_default.not-Array; fit = fit_or_null c.args.ty.now (values_of c.args.runs.now) c.requires.fit }

pub returns-in_ok-items_of-in-Nullable : goal.returns-in_ok-items_of-in-Nullable
returns-in_ok-items_of-in-Nullable t c =
    let inner = c.get.result.now in
    let values = values_of c.args.runs.now in
    let is : c.args.ty.now ≡ Nullable inner = c.in-Nullable.is ∙ ap (λ u. Nullable u) (sym c.get.ensures) in
    let single = nullable_single inner (ap is_profile (sym is) ∙ c.requires.profile) in
    let whole : written_streams c.args.ty.now values ≡ flat_map null_item values ∷ (flat_map (written_item inner) values ∷ []) = ap (λ u. written_streams u values) is ∙ nullable_written inner single values in
    subst (λ ss. OnOk c.push-in-Nullable.result (c.push-in-Nullable.new.self ≡ ss)) (two_more c.args.streams.now c.push.new.self _ _ _ _ _ (c.in_ok-push-in-Nullable.ensures.ok) (c.in_ok-null_map-in-Nullable.ensures) (c.in_ok-items_of-in-Nullable.ensures) whole) c.push-in-Nullable.ensures.ok

pub returns-in_ok-items_of-in_default : goal.returns-in_ok-items_of-in_default
returns-in_ok-items_of-in_default t c =
    let ty = c.args.ty.now in
    let values = values_of c.args.runs.now in
    let single = single_of ty c.in_default.not-Nullable c.in_default.not-Array in
    let whole : written_streams ty values ≡ flat_map (written_item ty) values ∷ [] = single.written values ∙ ap (λ bs. bs ∷ []) (sym (written_items ty single values c.requires.fit)) in
    subst (λ ss. OnOk c.push-in_default.result (c.push-in_default.new.self ≡ ss)) (one_more c.args.streams.now _ _ _ (c.in_ok-items_of-in_default.ensures) whole) c.push-in_default.ensures.ok

pub append_streams-requires : goal.append_streams-requires
append_streams-requires t c =
    let inner = c.get-in-Array.result.now in
    let is : c.args.ty.now ≡ Array inner = c.in-Array.is ∙ ap (λ u. Array u) (sym c.get-in-Array.ensures) in
    let values = values_of c.args.runs.now in
    let elements : values_of c.deref.result.now ≡ flat_map (λ value. elements_at (out-Value value)) values = ap values_of c.deref.ensures.value ∙ c.in_ok-elements-in-Array.ensures in
    let fit : list_all (fits_of inner) (values_of c.deref.result.now) ≡ true = ap (list_all (fits_of inner)) elements ∙ array_fit inner values (ap (λ u. list_all (fits_of u) values) (sym is) ∙ c.requires.fit) in
    let inside = array_inside inner (ap is_profile (sym is) ∙ c.requires.profile) in
    let less : array_levels inner < array_levels c.args.ty.now = omega (arith, inside.1, ap array_levels is) in
    (search rules, (inside.0, fit))

pub returns-in_ok-elements-in-Array : goal.returns-in_ok-elements-in-Array
returns-in_ok-elements-in-Array t c =
    let inner = c.get-in-Array.result.now in
    let is : c.args.ty.now ≡ Array inner = c.in-Array.is ∙ ap (λ u. Array u) (sym c.get-in-Array.ensures) in
    let values = values_of c.args.runs.now in
    let elements : values_of c.deref.result.now ≡ flat_map (λ value. elements_at (out-Value value)) values = ap values_of c.deref.ensures.value ∙ c.in_ok-elements-in-Array.ensures in
    let whole : written_streams c.args.ty.now values ≡ flat_map size_item values ∷ written_streams inner (values_of c.deref.result.now) = ap (λ u. written_streams u values) is ∙ array_written inner values ∙ ap (λ vs. flat_map size_item values ∷ written_streams inner vs) (sym elements) in
    subst (λ ss. OnOk c.append_streams.result (c.append_streams.new.streams ≡ ss)) (more_after c.args.streams.now c.push-in-Array.new.self _ _ _ _ (c.in_ok-push-in-Array.ensures.ok) (c.in_ok-sizes_of-in-Array.ensures) whole) c.append_streams.ensures
