use Rattle.std.proofs.Common.{◌≡◌, ◌<◌, ◌+◌, ◌-◌, ℕ, List, [], ◌∷◌, length, take, drop, true, ap, sym, subst, ◌∙◌, arith, rules}
use Rattle.std.specs.Prelude.{OnOk}
use Rattle.std.specs.List.{flat_map, list_all}
use Rattle.std.proofs.lemmas.List.{length-map}
use Rattle.mt_types.specs.declared.ty.Ty.TheVariants.{Array, Nullable}
use Rattle.mt_types.specs.declared.value.Value.{Value}
use Rattle.mt_types.specs.Defaults.{default_of}
use Rattle.mt_types.specs.Fits.{fits_of}
use Rattle.mt_types.specs.Items.{item_bytes}
use Rattle.mt_types.specs.Profile.{is_profile}
use Rattle.mt_defs.specs.WrittenStreams.{or_default, written_streams}
use Rattle.mt_cells.specs.Items.{default_item, items_in}
use Rattle.mt_columns.specs.Nesting.{AreNested, nested_values}
use Rattle.mt_columns.specs.Shapes.{shape_of}
use Rattle.mt_columns.proofs.NestLemmas.{nested_length}
use Rattle.mt_codec.specs.Runs.{null_item, size_item, written_item}
use Rattle.mt_codec.proofs.WrittenLemmas.{array_fit, array_inside, array_written, more_after, nullable_fit, nullable_items, nullable_single, nullable_written, one_more, single_items, single_of, two_more}
use Rattle.mt_column_codec.proofs.KindLemmas.{array_shape, flat_values, has_level, nullable_shape}
use Rattle.mt_column_codec.proofs.WrittenLemmas.{all_elements, flat_items_are, nullable_items_are, nullable_items_fit, nullable_items_written, nulls_written, range_elements, range_order, range_sizes, range_within}
use Rattle.mt_column_codec.proofs.encoding.+append_streams.Goals as goal

-- ---- neither NULL nor arrays

pub items_of-requires-in_default : goal.items_of-requires-in_default
items_of-requires-in_default t c =
    let ty = c.args.ty.now in
    let items = items_in c.items-in_default.result.now in
    let has = single_items ty c.requires.profile c.in_default.not-Nullable c.in_default.not-Array in
    let single = single_of ty c.in_default.not-Nullable c.in_default.not-Array in
    let same = flat_items_are ty c.args.levels.now (default_item c.args.leaf.now.kind) c.args.leaf.now.values items single has c.requires.depth c.requires.fit c.items-in_default.ensures.values in
    record {
      items = has;
      kind = c.items-in_default.ensures.kind ∙ c.requires.kind;
      fit = ap (list_all (fits_of ty)) same ∙ c.requires.fit;
      order = c.requires.order;
      within = omega (arith, ap (λ (vs : List Value). length vs) same, c.requires.within);
    }

pub returns-in_ok-items_of-in_default : goal.returns-in_ok-items_of-in_default
returns-in_ok-items_of-in_default t c =
    let ty = c.args.ty.now in
    let from = c.args.from in
    let to = c.args.to in
    let items = items_in c.items-in_default.result.now in
    let values = nested_values c.args.levels.now c.args.leaf.now.values in
    let has = single_items ty c.requires.profile c.in_default.not-Nullable c.in_default.not-Array in
    let single = single_of ty c.in_default.not-Nullable c.in_default.not-Array in
    let same = flat_items_are ty c.args.levels.now (default_item c.args.leaf.now.kind) c.args.leaf.now.values items single has c.requires.depth c.requires.fit c.items-in_default.ensures.values in
    let whole : written_streams ty (take (to - from) (drop from values)) ≡ flat_map (item_bytes ty) (take (to - from) (drop from items)) ∷ [] =
    single.written (take (to - from) (drop from values)) ∙ ap (λ (vs : List Value). flat_map (item_bytes ty) (take (to - from) (drop from vs)) ∷ []) (sym same) in
    subst (λ ss. OnOk c.push-in_default.result (c.push-in_default.new.self ≡ ss)) (one_more c.args.streams.now _ _ _ c.in_ok-items_of-in_default.ensures whole) c.push-in_default.ensures.ok

-- ---- values or NULL

pub null_map-requires : goal.null_map-requires
null_map-requires t c =
    let u = c.get-inner.result.now in
    let ty = c.args.ty.now in
    let is : ty ≡ Nullable u = c.in-Nullable.is ∙ ap (λ u. Nullable u) (sym c.get-inner.ensures) in
    let has = nullable_items u (ap is_profile (sym is) ∙ c.requires.profile) in
    let shape = nullable_shape ty u is has in
    let flat = flat_values c.args.levels.now c.args.leaf.now.values _ c.requires.depth shape.0 in
    record {
      nullable = c.requires.nullable ∙ shape.1;
      order = c.requires.order;
      within = omega (arith, ap (λ (vs : List Value). length vs) flat, c.requires.within);
    }

pub items_of-requires : goal.items_of-requires
items_of-requires t c =
    let u = c.get-inner.result.now in
    let ty = c.args.ty.now in
    let items = items_in c.items.result.now in
    let values = c.args.leaf.now.values in
    let is : ty ≡ Nullable u = c.in-Nullable.is ∙ ap (λ u. Nullable u) (sym c.get-inner.ensures) in
    let profile : is_profile (Nullable u) ≡ true = ap is_profile (sym is) ∙ c.requires.profile in
    let has = nullable_items u profile in
    let shape = nullable_shape ty u is has in
    let flat = flat_values c.args.levels.now values _ c.requires.depth shape.0 in
    let are = nullable_items_are u values items c.args.leaf.now.kind profile has (c.requires.kind ∙ shape.2) c.items.ensures.values in
    let fit : list_all (fits_of (Nullable u)) values ≡ true = ap (λ t. list_all (fits_of t) values) (sym is) ∙ ap (list_all (fits_of ty)) (sym flat) ∙ c.requires.fit in
    record {
      items = has;
      kind = c.items.ensures.kind ∙ c.requires.kind ∙ shape.2;
      fit = nullable_items_fit u values items (nullable_fit u values fit) are;
      order = c.requires.order;
      within = omega (arith, ap (λ (vs : List Value). length vs) are, length-map values (or_default (default_of u)), ap (λ (vs : List Value). length vs) flat, c.requires.within);
    }

pub returns-in_ok-items_of-in-Nullable : goal.returns-in_ok-items_of-in-Nullable
returns-in_ok-items_of-in-Nullable t c =
    let u = c.get-inner.result.now in
    let ty = c.args.ty.now in
    let from = c.args.from in
    let to = c.args.to in
    let items = items_in c.items.result.now in
    let values = c.args.leaf.now.values in
    let is : ty ≡ Nullable u = c.in-Nullable.is ∙ ap (λ u. Nullable u) (sym c.get-inner.ensures) in
    let profile : is_profile (Nullable u) ≡ true = ap is_profile (sym is) ∙ c.requires.profile in
    let has = nullable_items u profile in
    let shape = nullable_shape ty u is has in
    let flat = flat_values c.args.levels.now values _ c.requires.depth shape.0 in
    let are = nullable_items_are u values items c.args.leaf.now.kind profile has (c.requires.kind ∙ shape.2) c.items.ensures.values in
    let range = take (to - from) (drop from values) in
    let whole : written_streams ty (take (to - from) (drop from (nested_values c.args.levels.now values))) ≡ flat_map null_item range ∷ (flat_map (written_item u) range ∷ []) =
    ap (λ t. written_streams t (take (to - from) (drop from (nested_values c.args.levels.now values)))) is ∙ ap (λ (vs : List Value). written_streams (Nullable u) (take (to - from) (drop from vs))) flat ∙ nullable_written u (nullable_single u profile) range in
    subst (λ ss. OnOk c.push-in-Nullable.result (c.push-in-Nullable.new.self ≡ ss))
    (two_more c.args.streams.now c.push.new.self _ _ _ _ _ c.in_ok-push-in-Nullable.ensures.ok (c.in_ok-of_bytes-in-Nullable.ensures ∙ c.null_map.ensures ∙ nulls_written range)
    (c.in_ok-items_of-in-Nullable.ensures ∙ nullable_items_written u from (to - from) values items are) whole)
    c.push-in-Nullable.ensures.ok

-- ---- arrays

pub split_level-requires : goal.split_level-requires
split_level-requires t c =
    let u = c.get-inner-in-Array.result.now in
    has_level c.args.levels.now _ _ c.requires.depth (array_shape c.args.ty.now u (c.in-Array.is ∙ ap (λ u. Array u) (sym c.get-inner-in-Array.ensures))).0

pub sizes_of-requires-clause-within : goal.sizes_of-requires-clause-within
sizes_of-requires-clause-within t c = omega (arith, nested_length c.args.levels.now c.split_level.result.0.now c.split_level.result.1.now c.args.leaf.now.values c.split_level.ensures, c.requires.within)

pub start-start-requires : goal.start-start-requires
start-start-requires t c = omega (arith, nested_length c.args.levels.now c.split_level.result.0.now c.split_level.result.1.now c.args.leaf.now.values c.split_level.ensures, c.requires.order, c.requires.within)

pub start-end-requires : goal.start-end-requires
start-end-requires t c = omega (arith, nested_length c.args.levels.now c.split_level.result.0.now c.split_level.result.1.now c.args.leaf.now.values c.split_level.ensures, c.requires.within)

pub append_streams-requires : goal.append_streams-requires
append_streams-requires t c =
    let ty = c.args.ty.now in
    let u = c.get-inner-in-Array.result.now in
    let levels = c.args.levels.now in
    let first = c.split_level.result.0.now in
    let below = c.split_level.result.1.now in
    let leaf = c.args.leaf.now in
    let inner = nested_values below leaf.values in
    let split = c.split_level.ensures in
    let is : ty ≡ Array u = c.in-Array.is ∙ ap (λ u. Array u) (sym c.get-inner-in-Array.ensures) in
    let shape = array_shape ty u is in
    let nested = subst (λ (ls : List (List ℕ)). AreNested ls leaf.values) split c.requires.nested in
    let one : length levels ≡ length below + 1 = omega (arith, ap (λ (ls : List (List ℕ)). length ls) split) in
    let less : length below < length levels = omega (arith, one) in
    let elements = all_elements first inner (nested_values levels leaf.values) nested.0 (ap (λ (ls : List (List ℕ)). nested_values ls leaf.values) split) in
    let fit : list_all (fits_of u) inner ≡ true = ap (list_all (fits_of u)) (sym elements) ∙ array_fit u (nested_values levels leaf.values) (ap (λ t. list_all (fits_of t) (nested_values levels leaf.values)) (sym is) ∙ c.requires.fit) in
    let are = ap (λ (ls : List (List ℕ)). nested_values ls leaf.values) split in
    let order = range_order first inner (nested_values levels leaf.values) c.args.from c.args.to c.start-start.result c.start-end.result nested.0 are c.requires.order c.start-start.ensures c.start-end.ensures in
    let within = range_within first inner (nested_values levels leaf.values) c.args.from c.args.to c.start-start.result c.start-end.result nested.0 are c.requires.order c.start-start.ensures c.start-end.ensures in
    let depth : length below ≡ (shape_of u).depth = omega (arith, one, c.requires.depth, shape.0) in
    let inside = array_inside u (ap is_profile (sym is) ∙ c.requires.profile) in
    (search rules, (inside.0, (depth, (c.requires.nullable ∙ shape.1, (c.requires.kind ∙ shape.2, (nested.1, (fit, (order, within))))))))

pub returns-in_ok-push-in-Array : goal.returns-in_ok-push-in-Array
returns-in_ok-push-in-Array t c =
    let ty = c.args.ty.now in
    let u = c.get-inner-in-Array.result.now in
    let levels = c.args.levels.now in
    let first = c.split_level.result.0.now in
    let below = c.split_level.result.1.now in
    let leaf = c.args.leaf.now in
    let inner = nested_values below leaf.values in
    let values = nested_values levels leaf.values in
    let from = c.args.from in
    let to = c.args.to in
    let start = c.start-start.result in
    let end = c.start-end.result in
    let split = c.split_level.ensures in
    let is : ty ≡ Array u = c.in-Array.is ∙ ap (λ u. Array u) (sym c.get-inner-in-Array.ensures) in
    let nested = subst (λ (ls : List (List ℕ)). AreNested ls leaf.values) split c.requires.nested in
    let are = ap (λ (ls : List (List ℕ)). nested_values ls leaf.values) split in
    let elements = range_elements first inner values from to start end nested.0 are c.requires.order c.start-start.ensures c.start-end.ensures in
    let sizes = range_sizes first inner values from to start end nested.0 are c.requires.order c.start-start.ensures c.start-end.ensures in
    let range = take (to - from) (drop from values) in
    let whole : written_streams ty range ≡ flat_map size_item range ∷ written_streams u (take (end - start) (drop start inner)) =
    ap (λ t. written_streams t range) is ∙ array_written u range ∙ ap (λ (vs : List Value). flat_map size_item range ∷ written_streams u vs) elements in
    subst (λ ss. OnOk c.append_streams.result (c.append_streams.new.streams ≡ ss)) (more_after c.args.streams.now c.push-in-Array.new.self _ _ _ _ c.in_ok-push-in-Array.ensures.ok (c.in_ok-sizes_of-in-Array.ensures ∙ sym sizes) whole) c.append_streams.ensures
