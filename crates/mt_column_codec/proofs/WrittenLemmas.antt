-- The items and the sizes of a range of values.
use Rattle.std.proofs.Common.{◌≡◌, ℕ, zero, suc, ◌-◌, ◌≤◌, Bool, true, false, List, [], ◌∷◌, ◌++◌, length, map, take, drop, sum, refl, ap, ap₂, sym, ◌∙◌, arith, length-drop}
use Rattle.std.specs.Prelude.{if◌then◌else◌}
use Rattle.std.specs.List.{flat_map, list_all}
use Rattle.std.specs.Int.{w64, to_le_bytes}
use Rattle.std.proofs.lemmas.Bool.{and_from, and_parts}
use Rattle.std.proofs.lemmas.List.{drop-map, length-take-le, take-append-drop, take-map}
use Rattle.std.proofs.lemmas.List.Concat.{flat_map_single}
use Rattle.std.proofs.lemmas.List.Folds.{flat_map-map}
use Rattle.std.proofs.lemmas.List.Sums.{sum_by-take-drop}
use Rattle.mt_types.specs.declared.ty.Width.TheVariants.{W16, W32}
use Rattle.mt_types.specs.declared.ty.Agg.{Agg}
use Rattle.mt_types.specs.declared.ty.Agg.TheVariants.{Max, Min, Sum}
use Rattle.mt_types.specs.declared.ty.Ty.{Ty, map-Ty, out-Ty}
use Rattle.mt_types.specs.declared.ty.Ty.TheOpen.{Ty-F}
use Rattle.mt_types.specs.declared.ty.Ty.TheVariants.{FixedString, Int, Nullable, Str, UInt, outs-FixedString, outs-Int, outs-Str, outs-UInt}
use Rattle.mt_types.specs.declared.value.Value.{Value, out-Value}
use Rattle.mt_types.specs.declared.value.Value.TheVariants.{Text, List as Items, outs-List, outs-Text}
use Rattle.mt_types.specs.Defaults.{default_at, default_of}
use Rattle.mt_types.specs.Fits.{fits_of}
use Rattle.mt_types.specs.Items.{item_bytes, text_at}
use Rattle.mt_types.specs.Profile.{Kind as TypeKind, Whole, Day, Plain, Optional, Nested, Stored, Unknown, is_known, is_profile, kind_of, optional_kind, state_kind}
use Rattle.mt_types.proofs.Levels.{kind-Nullable, kind_at}
use Rattle.mt_types.proofs.NumberLemmas.{item_at}
use Rattle.mt_facts.proofs.Numbers.{sum_cons}
use Rattle.mt_defs.specs.Encoding.{null_byte}
use Rattle.mt_defs.specs.WrittenStreams.{elements_at, or_default}
use Rattle.mt_item.specs.ItemTypes.{has_items, has_items_at}
use Rattle.mt_cells.specs.declared.kind.Kind.{Kind}
use Rattle.mt_cells.specs.declared.kind.Kind.TheVariants as kind
use Rattle.mt_cells.specs.Items.{ItemKind, OfCells, OfStates, OfTexts, default_item}
use Rattle.mt_cells.specs.Kinds.{type_of}
use Rattle.mt_cells.specs.Pieces.{cut, text_item}
use Rattle.mt_cells.proofs.CutLemmas.{cut_range, range_sum}
use Rattle.mt_columns.specs.Shapes.{Shape, shape_of, shape_step}
use Rattle.mt_codec.specs.Runs.{fits_or_null, null_item, size_item, written_item}
use Rattle.mt_codec.proofs.WrittenLemmas.{IsSingle, default_fits_too}
use Rattle.mt_columns.specs.Nesting.{nested_values}
use Rattle.mt_column_codec.proofs.KindLemmas.{flat_depth, flat_values, item_text, items_at, same_kind}

-- ---- ranges

-- what holds of all holds of those of a range
pub all_in_range : {X : Type 0} (test : X → Bool) (from n : ℕ) (xs : List X) → list_all test xs ≡ true → list_all test (take n (drop from xs)) ≡ true
all_in_range {X} test from n xs all = front n (drop from xs) (behind from xs all)
  where
    front : (n : ℕ) (xs : List X) → list_all test xs ≡ true → list_all test (take n xs) ≡ true
    front zero xs all = refl
    front (suc n) [] all = refl
    front (suc n) (x ∷ xs) all = let p = and_parts (test x) (list_all test xs) all in and_from (test x) (list_all test (take n xs)) p.0 (front n xs p.1)

    behind : (n : ℕ) (xs : List X) → list_all test xs ≡ true → list_all test (drop n xs) ≡ true
    behind zero xs all = all
    behind (suc n) [] all = all
    behind (suc n) (x ∷ xs) all = behind n xs (and_parts (test x) (list_all test xs) all).1

range_map : {X Y : Type 0} (f : X → Y) (from n : ℕ) (xs : List X) → take n (drop from (map f xs)) ≡ map f (take n (drop from xs))
range_map f from n xs = ap (take n) (drop-map f from xs) ∙ take-map f n (drop from xs)

-- ---- items

-- items of a fixed width are those of the type
cells_at : (t : Ty) (level : Ty-F Ty) (k : Kind) → out-Ty t ≡ level → has_items_at t level ≡ true → (shape_of t).kind ≡ OfCells k → item_bytes (type_of k) ≡ item_bytes t
cells_at t (Ty-F.UInt w) k is items own = ap (λ (k : Kind). item_bytes (type_of k)) (same_kind k (kind.Unsigned w) (sym own ∙ items_at t (Ty-F.UInt w) is)) ∙ item_at (UInt w) (Ty-F.UInt w) (outs-UInt w) ∙ sym (item_at t (Ty-F.UInt w) is)
cells_at t (Ty-F.Int w) k is items own = ap (λ (k : Kind). item_bytes (type_of k)) (same_kind k (kind.Signed w) (sym own ∙ items_at t (Ty-F.Int w) is)) ∙ item_at (Int w) (Ty-F.Int w) (outs-Int w) ∙ sym (item_at t (Ty-F.Int w) is)
cells_at t (Ty-F.FixedString n) k is items own =
    ap (λ (k : Kind). item_bytes (type_of k)) (same_kind k (kind.Text n) (sym own ∙ items_at t (Ty-F.FixedString n) is)) ∙ item_at (FixedString n) (Ty-F.FixedString n) (outs-FixedString n) ∙ sym (item_at t (Ty-F.FixedString n) is)
cells_at t Ty-F.Date k is items own = ap (λ (k : Kind). item_bytes (type_of k)) (same_kind k (kind.Unsigned W16) (sym own ∙ items_at t Ty-F.Date is)) ∙ item_at (UInt W16) (Ty-F.UInt W16) (outs-UInt W16) ∙ sym (item_at t Ty-F.Date is)
cells_at t Ty-F.Moment k is items own = ap (λ (k : Kind). item_bytes (type_of k)) (same_kind k (kind.Unsigned W32) (sym own ∙ items_at t Ty-F.Moment is)) ∙ item_at (UInt W32) (Ty-F.UInt W32) (outs-UInt W32) ∙ sym (item_at t Ty-F.Moment is)
cells_at t Ty-F.Str k is items own = absurd (no_cells (sym (items_at t Ty-F.Str is) ∙ own))
  where
    no_cells : OfTexts ≡ OfCells k → ⊥
    no_cells e = cc
cells_at t (Ty-F.State agg u) k is items own = absurd (no_cells (sym (items_at t (Ty-F.State agg u) is) ∙ own))
  where
    no_cells : OfStates ≡ OfCells k → ⊥
    no_cells e = cc
cells_at t Ty-F.CountState k is items own = absurd (no_cells (sym (items_at t Ty-F.CountState is) ∙ own))
  where
    no_cells : OfStates ≡ OfCells k → ⊥
    no_cells e = cc
cells_at t (Ty-F.Nullable u) k is items own = cc
cells_at t (Ty-F.Array u) k is items own = cc

pub cells_written : (t : Ty) (k : Kind) (values : List Value) → has_items t ≡ true → (shape_of t).kind ≡ OfCells k → flat_map (item_bytes (type_of k)) values ≡ flat_map (item_bytes t) values
cells_written t k values items own = ap (λ f. flat_map f values) (cells_at t (out-Ty t) k refl items own)

pub texts_written : (t : Ty) (from n : ℕ) (texts : List (List ℕ)) → has_items t ≡ true → (shape_of t).kind ≡ OfTexts
    → flat_map text_item (take n (drop from texts)) ≡ flat_map (item_bytes t) (take n (drop from (map (λ (text : List ℕ). Text text) texts)))
texts_written t from n texts items own =
    each (take n (drop from texts)) ∙ ap (λ u. flat_map (item_bytes u) (map (λ (text : List ℕ). Text text) (take n (drop from texts)))) (sym (item_text t items own))
    ∙ ap (flat_map (item_bytes t)) (sym (range_map (λ (text : List ℕ). Text text) from n texts))
  where
    one : (text : List ℕ) → text_item text ≡ item_bytes Str (Text text)
    one text = sym (ap (λ f. f (Text text)) (item_at Str Ty-F.Str outs-Str) ∙ ap text_at (outs-Text text))

    each : (texts : List (List ℕ)) → flat_map text_item texts ≡ flat_map (item_bytes Str) (map (λ (text : List ℕ). Text text) texts)
    each [] = refl
    each (text ∷ texts) = ap₂ ◌++◌ (one text) (each texts)

-- ---- the default in the place of NULL

state_unknown : (agg : Agg) (k : TypeKind) → is_known (optional_kind (state_kind agg k)) ≡ false
state_unknown agg Whole = refl
state_unknown Sum Day = refl
state_unknown Min Day = refl
state_unknown Max Day = refl
state_unknown agg Plain = refl
state_unknown agg Optional = refl
state_unknown agg (Nested d) = refl
state_unknown agg Stored = refl
state_unknown agg Unknown = refl

no_optional : {Z : Type 0} (t : Ty) (k : TypeKind) → kind_of t ≡ k → is_profile (Nullable t) ≡ true → is_known (optional_kind k) ≡ false → Z
no_optional t k is profile unknown = let known : is_known (optional_kind k) ≡ true = sym (ap is_known (kind-Nullable t ∙ ap optional_kind is)) ∙ profile in cc

-- with the kind and the level of the type known
default_as : (t : Ty) (level : Ty-F Ty) → out-Ty t ≡ level → default_item (shape_step (map-Ty Ty Shape shape_of level)).kind ≡ default_at level → default_item (shape_of t).kind ≡ default_of t
default_as t level is same = ap default_item (items_at t level is) ∙ same ∙ sym (ap default_at is)

default_by : (t : Ty) (level : Ty-F Ty) → out-Ty t ≡ level → is_profile (Nullable t) ≡ true → has_items_at t level ≡ true → default_item (shape_of t).kind ≡ default_of t
default_by t (Ty-F.UInt w) is profile items = default_as t (Ty-F.UInt w) is (ap default_at (outs-UInt w))
default_by t (Ty-F.Int w) is profile items = default_as t (Ty-F.Int w) is (ap default_at (outs-Int w))
default_by t (Ty-F.FixedString n) is profile items = default_as t (Ty-F.FixedString n) is (ap default_at (outs-FixedString n))
default_by t Ty-F.Date is profile items = default_as t Ty-F.Date is (ap default_at (outs-UInt W16))
default_by t Ty-F.Moment is profile items = default_as t Ty-F.Moment is (ap default_at (outs-UInt W32))
default_by t Ty-F.Str is profile items = default_as t Ty-F.Str is (ap default_at outs-Str)
default_by t (Ty-F.State agg u) is profile items = no_optional t (state_kind agg (kind_of u)) (kind_at t (Ty-F.State agg u) is) profile (state_unknown agg (kind_of u))
default_by t Ty-F.CountState is profile items = no_optional t Stored (kind_at t Ty-F.CountState is) profile refl
default_by t (Ty-F.Nullable u) is profile items = cc
default_by t (Ty-F.Array u) is profile items = cc

-- the items under a null map are the values with the type's default in the place of NULL
pub nullable_items_are : (t : Ty) (values items : List Value) (k : ItemKind) → is_profile (Nullable t) ≡ true → has_items t ≡ true → k ≡ (shape_of t).kind → items ≡ map (or_default (default_item k)) values → items ≡ map (or_default (default_of t)) values
nullable_items_are t values items k profile has own is = is ∙ ap (λ (d : Value). map (or_default d) values) (ap default_item own ∙ default_by t (out-Ty t) refl profile has)

pub nullable_items_fit : (t : Ty) (values items : List Value) → list_all (fits_or_null t) values ≡ true → items ≡ map (or_default (default_of t)) values → list_all (fits_of t) items ≡ true
nullable_items_fit t values items fit is = ap (list_all (fits_of t)) is ∙ each values fit
  where
    each : (values : List Value) → list_all (fits_or_null t) values ≡ true → list_all (fits_of t) (map (or_default (default_of t)) values) ≡ true
    each [] fit = refl
    each (v ∷ values) fit =
        let p = and_parts (fits_or_null t v) (list_all (fits_or_null t) values) fit in
        and_from (fits_of t (or_default (default_of t) v)) (list_all (fits_of t) (map (or_default (default_of t)) values)) (default_fits_too t v p.0) (each values p.1)

pub nullable_items_written : (t : Ty) (from n : ℕ) (values items : List Value) → items ≡ map (or_default (default_of t)) values → flat_map (item_bytes t) (take n (drop from items)) ≡ flat_map (written_item t) (take n (drop from values))
nullable_items_written t from n values items is =
    ap (λ (vs : List Value). flat_map (item_bytes t) (take n (drop from vs))) is ∙ ap (flat_map (item_bytes t)) (range_map (or_default (default_of t)) from n values)
    ∙ flat_map-map (item_bytes t) (or_default (default_of t)) (take n (drop from values))

-- a null map's bytes, one by one
pub nulls_written : (values : List Value) → map null_byte values ≡ flat_map null_item values
nulls_written values = sym (flat_map_single null_byte values)

-- where no value is NULL the items are the values
pub plain_items_are : (t : Ty) (d : Value) (values items : List Value) → IsSingle t → list_all (fits_of t) values ≡ true → items ≡ map (or_default d) values → items ≡ values
plain_items_are t d values items single fit is = is ∙ each values fit
  where
    each : (values : List Value) → list_all (fits_of t) values ≡ true → map (or_default d) values ≡ values
    each [] fit = refl
    each (v ∷ values) fit =
        let p = and_parts (fits_of t v) (list_all (fits_of t) values) fit in
        ap₂ (λ (x : Value) (xs : List Value). x ∷ xs) (ap (λ (null : Bool). if null then d else v) (single.no_null v p.0)) (each values p.1)

-- the items of values that are neither NULL nor in arrays
pub flat_items_are : (t : Ty) (levels : List (List ℕ)) (d : Value) (values items : List Value) → IsSingle t → has_items t ≡ true → length levels ≡ (shape_of t).depth → list_all (fits_of t) (nested_values levels values) ≡ true → items ≡ map (or_default d) values
    → items ≡ nested_values levels values
flat_items_are t levels d values items single has many fit is =
    let flat = flat_values levels values (shape_of t).depth many (flat_depth t has) in
    plain_items_are t d values items single (ap (list_all (fits_of t)) (sym flat) ∙ fit) is ∙ sym flat

-- ---- arrays

lengths_cut : (sizes : List ℕ) (xs : List Value) → length xs ≡ sum sizes → map (λ (ys : List Value). length ys) (cut sizes xs) ≡ sizes
unfolding cut
lengths_cut [] xs long = refl
lengths_cut (size ∷ sizes) xs long =
    let total = sum_cons size sizes in
    let left : length (drop size xs) ≡ sum sizes = omega (arith, long, total, length-drop size xs) in
    ap₂ (λ (n : ℕ) (ns : List ℕ). n ∷ ns) (length-take-le size xs (omega (arith, long, total))) (lengths_cut sizes (drop size xs) left)

elements_cut : (sizes : List ℕ) (xs : List Value) → length xs ≡ sum sizes → flat_map (λ (ys : List Value). ys) (cut sizes xs) ≡ xs
unfolding cut
elements_cut [] [] long = refl
elements_cut [] (x ∷ xs) long = absurd (omega (arith, long))
elements_cut (size ∷ sizes) xs long =
    let total = sum_cons size sizes in
    let left : length (drop size xs) ≡ sum sizes = omega (arith, long, total, length-drop size xs) in
    ap (λ (ys : List Value). take size xs ++ ys) (elements_cut sizes (drop size xs) left) ∙ take-append-drop size xs

-- what is in arrays, and how many
elements_in : (arrays : List (List Value)) → flat_map (λ value. elements_at (out-Value value)) (map (λ (xs : List Value). Items xs) arrays) ≡ flat_map (λ (xs : List Value). xs) arrays
elements_in [] = refl
elements_in (xs ∷ arrays) = ap₂ ◌++◌ (ap elements_at (outs-List xs)) (elements_in arrays)

sizes_in : (arrays : List (List Value)) → flat_map size_item (map (λ (xs : List Value). Items xs) arrays) ≡ flat_map (to_le_bytes w64) (map (λ (xs : List Value). length xs) arrays)
sizes_in [] = refl
sizes_in (xs ∷ arrays) = ap₂ ◌++◌ (ap (λ (ys : List Value). to_le_bytes w64 (length ys)) (ap elements_at (outs-List xs))) (sizes_in arrays)

-- all elements of all arrays
pub all_elements : (sizes : List ℕ) (inner values : List Value) → length inner ≡ sum sizes → values ≡ map (λ (xs : List Value). Items xs) (cut sizes inner) → flat_map (λ value. elements_at (out-Value value)) values ≡ inner
all_elements sizes inner values long are = ap (flat_map (λ value. elements_at (out-Value value))) are ∙ elements_in (cut sizes inner) ∙ elements_cut sizes inner long

module _ (sizes : List ℕ) (inner values : List Value) (from to start end : ℕ) (long : length inner ≡ sum sizes) (are : values ≡ map (λ (xs : List Value). Items xs) (cut sizes inner))
    (order : from ≤ to) (s : start ≡ sum (take from sizes)) (e : end ≡ sum (take to sizes)) where
  -- a range of arrays is the arrays of a range of sizes and of elements
  range_are : take (to - from) (drop from values) ≡ map (λ (xs : List Value). Items xs) (cut (take (to - from) (drop from sizes)) (take (end - start) (drop start inner)))
  range_are =
      ap (λ (vs : List Value). take (to - from) (drop from vs)) are ∙ range_map (λ (xs : List Value). Items xs) from (to - from) (cut sizes inner)
      ∙ ap (map (λ (xs : List Value). Items xs)) (cut_range sizes inner from to start end order s e)

  pub range_order : start ≤ end
  range_order = omega (arith, s, e, range_sum sizes from to order)

  pub range_within : end ≤ length inner
  range_within = omega (arith, e, long, sum_by-take-drop (λ (n : ℕ). n) sizes to)

  range_long : length (take (end - start) (drop start inner)) ≡ sum (take (to - from) (drop from sizes))
  range_long =
      length-take-le (end - start) (drop start inner) (omega (arith, range_order, range_within, length-drop start inner))
      ∙ (let d : end - start ≡ sum (take (to - from) (drop from sizes)) = omega (arith, s, e, range_sum sizes from to order) in d)

  pub range_elements : flat_map (λ value. elements_at (out-Value value)) (take (to - from) (drop from values)) ≡ take (end - start) (drop start inner)
  range_elements =
      ap (flat_map (λ value. elements_at (out-Value value))) range_are ∙ elements_in (cut (take (to - from) (drop from sizes)) (take (end - start) (drop start inner)))
      ∙ elements_cut (take (to - from) (drop from sizes)) (take (end - start) (drop start inner)) range_long

  pub range_sizes : flat_map size_item (take (to - from) (drop from values)) ≡ flat_map (to_le_bytes w64) (take (to - from) (drop from sizes))
  range_sizes =
      ap (flat_map size_item) range_are ∙ sizes_in (cut (take (to - from) (drop from sizes)) (take (end - start) (drop start inner)))
      ∙ ap (flat_map (to_le_bytes w64)) (lengths_cut (take (to - from) (drop from sizes)) (take (end - start) (drop start inner)) range_long)
