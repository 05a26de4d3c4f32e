-- The writer's substreams, by the outermost level of the type.
use Rattle.std.proofs.Common.{◌≡◌, ℕ, ℤ, Bool, true, false, List, [], ◌∷◌, ◌++◌, length, map, refl, ap, sym, ◌∙◌, subst, append_assoc, suc, ◌+◌, add-one}
use Rattle.std.specs.Prelude.{◌||◌, ◌&&◌, ◌==◌, nat_le, nat_lt, if◌then◌else◌}
use Rattle.std.specs.Int.{w64, to_le_bytes}
use Rattle.std.specs.List.{flat_map, list_all}
use Rattle.std.proofs.lemmas.List.Concat.{flat_map_single}
use Rattle.std.proofs.lemmas.List.Folds.{flat_map-map, list_all-append}
use Rattle.std.proofs.lemmas.Bool.{and_parts, and_from, or_right}
use Rattle.mt_types.specs.declared.limits.TheConstants.{MAX_TEXT, MAX_ELEMENTS, MAX_ARRAY_DEPTH}
use Rattle.mt_types.specs.Bytes.{is_byte}
use Rattle.mt_types.specs.declared.ty.Width.{Width}
use Rattle.mt_types.specs.declared.ty.Width.TheVariants.{W8, W16, W32, W64, W128}
use Rattle.mt_types.specs.declared.ty.Ty.{Ty, map-Ty, out-Ty, roll-Ty}
use Rattle.mt_types.specs.declared.ty.Ty.TheOpen.{Ty-F}
use Rattle.mt_types.specs.declared.ty.Ty.TheVariants.{Nullable, Array, outs-UInt, outs-Int, outs-Date, outs-Moment, outs-Str, outs-FixedString, outs-Nullable, outs-Array}
use Rattle.mt_types.specs.declared.ty.Ty.TheFolds.{fold-Ty, fold_out-Ty, fold-roll-Ty, ind-Ty}
use Rattle.mt_types.specs.declared.value.AggState.{AggState}
use Rattle.mt_types.specs.declared.value.Value.{Value, out-Value}
use Rattle.mt_types.specs.declared.value.Value.TheOpen.{Value-F}
use Rattle.mt_types.specs.Defaults.{default_of}
use Rattle.mt_types.specs.Fits.{fits_of, fits_step, bits, natural_at, is_unsigned, is_signed, num_at, text_at, list_at, state_at, is_state_of, is_count}
use Rattle.mt_types.specs.Items.{item_bytes}
use Rattle.mt_types.specs.Profile.{Kind, Whole, Day, Plain, Optional, Nested, Stored, Unknown, kind_of, optional_kind, array_kind, is_known, is_profile}
use Rattle.mt_types.proofs.DefaultLemmas.{default_fits}
use Rattle.mt_types.proofs.Levels.{same_level, kind-Nullable, kind-Array}
use Rattle.mt_types.proofs.KindLemmas.{IsScalar, Known, unsigned, signed, day, moment, text, fixed, optional, nested, stored, counted, outside, known}
use Rattle.mt_types.proofs.NumberLemmas.{fits_at}
use Rattle.mt_defs.specs.Encoding.{is_null, is_null_at, null_byte, size_bytes}
use Rattle.mt_defs.specs.WrittenStreams.{Encoder, encoder_step, streams_step, written_streams, or_default, arrays_of, elements_at}
use Rattle.mt_item.specs.ItemTypes.{has_items, has_items_at}
use Rattle.mt_defs.specs.FileNames.{array_levels, levels_of_kind}
use Rattle.mt_codec.specs.Runs.{null_item, size_item, written_item, fits_or_null}

-- an encoder is of its own type
abbrev IsOfType : Ty → Type 0
IsOfType t = (fold-Ty Encoder encoder_step t).ty ≡ t

abbrev Below : Type 0
Below = (t : Ty) × IsOfType t

abbrev IsOfLevel : Ty-F Ty → Type 0
IsOfLevel x = map-Ty Encoder Ty (λ e. e.ty) (map-Ty Ty Encoder (fold-Ty Encoder encoder_step) x) ≡ x

level_of_type : (y : Ty-F Below) → IsOfLevel (map-Ty Below Ty (λ e. e.0) y)
level_of_type (Ty-F.UInt w) = refl
level_of_type (Ty-F.Int w) = refl
level_of_type (Ty-F.FixedString n) = refl
level_of_type Ty-F.Str = refl
level_of_type Ty-F.Date = refl
level_of_type Ty-F.Moment = refl
level_of_type (Ty-F.Nullable t) = ap (λ u. Ty-F.Nullable u) t.1
level_of_type (Ty-F.Array t) = ap (λ u. Ty-F.Array u) t.1
level_of_type (Ty-F.State agg t) = ap (λ u. Ty-F.State agg u) t.1
level_of_type Ty-F.CountState = refl

encoder_type : (t : Ty) → IsOfType t
encoder_type = ind-Ty IsOfType (λ x y is. ap (λ (e : Encoder). e.ty) (fold-roll-Ty Encoder encoder_step x) ∙ ap roll-Ty (subst IsOfLevel is (level_of_type y)))

-- the substreams of a type of this level
written_at : (t : Ty) (level : Ty-F Ty) (values : List Value) → out-Ty t ≡ level → written_streams t values ≡ streams_step t (map-Ty Ty Encoder (fold-Ty Encoder encoder_step) level) values
written_at t level values is =
    let step : Ty-F Ty → Encoder = λ l. encoder_step (map-Ty Ty Encoder (fold-Ty Encoder encoder_step) l) in
    let whole : fold-Ty Encoder encoder_step t ≡ step level = fold_out-Ty Encoder encoder_step t ∙ ap step is in
    let ty_is : (step level).ty ≡ t = ap (λ (e : Encoder). e.ty) (sym whole) ∙ encoder_type t in
    ap (λ (e : Encoder). e.streams values) whole ∙ ap (λ u. streams_step u (map-Ty Ty Encoder (fold-Ty Encoder encoder_step) level) values) ty_is

pub written_Nullable : (t : Ty) (values : List Value) → written_streams (Nullable t) values ≡ map null_byte values ∷ written_streams t (map (or_default (default_of t)) values)
written_Nullable t values = written_at (Nullable t) (Ty-F.Nullable t) values (outs-Nullable t) ∙ ap (λ u. map null_byte values ∷ written_streams t (map (or_default (default_of u)) values)) (encoder_type t)

pub written_Array : (t : Ty) (values : List Value) → written_streams (Array t) values ≡ size_bytes (arrays_of values) ∷ written_streams t (flat_map (λ elements. elements) (arrays_of values))
written_Array t values = written_at (Array t) (Ty-F.Array t) values (outs-Array t)

-- ---- what fits

-- the default in the place of NULL fits
pub default_fits_too : (t : Ty) (v : Value) → fits_or_null t v ≡ true → fits_of t (or_default (default_of t) v) ≡ true
default_fits_too t v fits = at_test (is_null v) refl fits
  where
    at_test : (null : Bool) → is_null v ≡ null → (null || fits_of t v) ≡ true → fits_of t (if null then default_of t else v) ≡ true
    at_test true is fits = default_fits t
    at_test false is fits = fits

-- a type with one substream
pub record IsSingle (t : Ty) : Type 0 where
  pub written : (values : List Value) → written_streams t values ≡ flat_map (item_bytes t) values ∷ []
  pub no_null : (v : Value) → fits_of t v ≡ true → is_null v ≡ false

num_not_null : (test : ℤ → Bool) (l : Value-F Value) → num_at test l ≡ true → is_null_at l ≡ false
num_not_null test (Value-F.Num n) e = refl
num_not_null test (Value-F.Huge n) e = refl
num_not_null test (Value-F.Text bytes) e = refl
num_not_null test Value-F.Null e = cc
num_not_null test (Value-F.List items) e = refl
num_not_null test (Value-F.State s) e = refl

natural_not_null : (w : Width) (l : Value-F Value) → natural_at w l ≡ true → is_null_at l ≡ false
natural_not_null w (Value-F.Num n) e = refl
natural_not_null w (Value-F.Huge n) e = refl
natural_not_null w (Value-F.Text bytes) e = refl
natural_not_null W8 Value-F.Null e = cc
natural_not_null W16 Value-F.Null e = cc
natural_not_null W32 Value-F.Null e = cc
natural_not_null W64 Value-F.Null e = cc
natural_not_null W128 Value-F.Null e = cc
natural_not_null w (Value-F.List items) e = refl
natural_not_null w (Value-F.State s) e = refl

text_not_null : (test : List ℕ → Bool) (l : Value-F Value) → text_at test l ≡ true → is_null_at l ≡ false
text_not_null test (Value-F.Num n) e = refl
text_not_null test (Value-F.Huge n) e = refl
text_not_null test (Value-F.Text bytes) e = refl
text_not_null test Value-F.Null e = cc
text_not_null test (Value-F.List items) e = refl
text_not_null test (Value-F.State s) e = refl

state_not_null : (test : AggState → Bool) (l : Value-F Value) → state_at test l ≡ true → is_null_at l ≡ false
state_not_null test (Value-F.Num n) e = refl
state_not_null test (Value-F.Huge n) e = refl
state_not_null test (Value-F.Text bytes) e = refl
state_not_null test Value-F.Null e = cc
state_not_null test (Value-F.List items) e = refl
state_not_null test (Value-F.State s) e = refl

-- a level with one substream
abbrev pub IsSingleLevel : Ty-F Ty → Type 0
IsSingleLevel (Ty-F.Nullable u) = ⊥
IsSingleLevel (Ty-F.Array u) = ⊥
IsSingleLevel _ = Unit {0}

single_written : (t : Ty) (level : Ty-F Ty) → out-Ty t ≡ level → IsSingleLevel level → (values : List Value) → written_streams t values ≡ flat_map (item_bytes t) values ∷ []
single_written t (Ty-F.Nullable u) is single values = absurd single
single_written t (Ty-F.Array u) is single values = absurd single
single_written t (Ty-F.UInt w) is single values = written_at t (Ty-F.UInt w) values is
single_written t (Ty-F.Int w) is single values = written_at t (Ty-F.Int w) values is
single_written t (Ty-F.FixedString n) is single values = written_at t (Ty-F.FixedString n) values is
single_written t Ty-F.Str is single values = written_at t Ty-F.Str values is
single_written t Ty-F.Date is single values = written_at t Ty-F.Date values is
single_written t Ty-F.Moment is single values = written_at t Ty-F.Moment values is
single_written t (Ty-F.State agg u) is single values = written_at t (Ty-F.State agg u) values is
single_written t Ty-F.CountState is single values = written_at t Ty-F.CountState values is

single_not_null : (level : Ty-F Ty) → IsSingleLevel level → (v : Value) → fits_step (map-Ty Ty (Value → Bool) fits_of level) v ≡ true → is_null v ≡ false
single_not_null (Ty-F.Nullable u) single v fits = absurd single
single_not_null (Ty-F.Array u) single v fits = absurd single
single_not_null (Ty-F.UInt w) single v fits = natural_not_null w (out-Value v) fits
single_not_null (Ty-F.Int w) single v fits = num_not_null (is_signed (bits w)) (out-Value v) fits
single_not_null (Ty-F.FixedString n) single v fits = text_not_null (λ bytes. length bytes == n && list_all is_byte bytes) (out-Value v) fits
single_not_null Ty-F.Str single v fits = text_not_null (λ bytes. nat_le (length bytes) MAX_TEXT && list_all is_byte bytes) (out-Value v) fits
single_not_null Ty-F.Date single v fits = num_not_null (is_unsigned 16) (out-Value v) fits
single_not_null Ty-F.Moment single v fits = num_not_null (is_unsigned 32) (out-Value v) fits
single_not_null (Ty-F.State agg u) single v fits = state_not_null (is_state_of agg (fits_of u)) (out-Value v) fits
single_not_null Ty-F.CountState single v fits = state_not_null is_count (out-Value v) fits

pub single_at : (t : Ty) (level : Ty-F Ty) → out-Ty t ≡ level → IsSingleLevel level → IsSingle t
single_at t level is single = record {
  written = single_written t level is single;
  no_null = λ v fits. single_not_null level single v (ap (λ f. f v) (sym (fits_at t level is)) ∙ fits);
}

level_single : (t : Ty) → ((u : Ty) → t ≡ Nullable u → ⊥) → ((u : Ty) → t ≡ Array u → ⊥) → (level : Ty-F Ty) → out-Ty t ≡ level → IsSingleLevel level
level_single t not_nullable not_array (Ty-F.Nullable u) is = not_nullable u (same_level t (Nullable u) (is ∙ sym (outs-Nullable u)))
level_single t not_nullable not_array (Ty-F.Array u) is = not_array u (same_level t (Array u) (is ∙ sym (outs-Array u)))
level_single t not_nullable not_array (Ty-F.UInt w) is = tt
level_single t not_nullable not_array (Ty-F.Int w) is = tt
level_single t not_nullable not_array (Ty-F.FixedString n) is = tt
level_single t not_nullable not_array Ty-F.Str is = tt
level_single t not_nullable not_array Ty-F.Date is = tt
level_single t not_nullable not_array Ty-F.Moment is = tt
level_single t not_nullable not_array (Ty-F.State agg u) is = tt
level_single t not_nullable not_array Ty-F.CountState is = tt

-- a type that is neither Nullable nor an Array
pub single_of : (t : Ty) → ((u : Ty) → t ≡ Nullable u → ⊥) → ((u : Ty) → t ≡ Array u → ⊥) → IsSingle t
single_of t not_nullable not_array = single_at t (out-Ty t) refl (level_single t not_nullable not_array (out-Ty t) refl)

-- a type that may stand in Nullable
scalar_level : (t : Ty) → Known t → IsScalar (kind_of t) → IsSingleLevel (out-Ty t)
scalar_level t (unsigned w is k) scalar = subst IsSingleLevel (sym (ap out-Ty is ∙ outs-UInt w)) tt
scalar_level t (signed w is k) scalar = subst IsSingleLevel (sym (ap out-Ty is ∙ outs-Int w)) tt
scalar_level t (day is k) scalar = subst IsSingleLevel (sym (ap out-Ty is ∙ outs-Date)) tt
scalar_level t (moment is k) scalar = subst IsSingleLevel (sym (ap out-Ty is ∙ outs-Moment)) tt
scalar_level t (text is k) scalar = subst IsSingleLevel (sym (ap out-Ty is ∙ outs-Str)) tt
scalar_level t (fixed n is low high k) scalar = subst IsSingleLevel (sym (ap out-Ty is ∙ outs-FixedString n)) tt
scalar_level t (optional inner is s k) scalar = absurd (subst IsScalar k scalar)
scalar_level t (nested inner depth is e k) scalar = absurd (subst IsScalar k scalar)
scalar_level t (stored agg inner is e k) scalar = absurd (subst IsScalar k scalar)
scalar_level t (counted is k) scalar = absurd (subst IsScalar k scalar)
scalar_level t (outside k) scalar = absurd (subst IsScalar k scalar)

optional_scalar : (k : Kind) → is_known (optional_kind k) ≡ true → IsScalar k
optional_scalar Whole e = tt
optional_scalar Day e = tt
optional_scalar Plain e = tt
optional_scalar Optional e = cc
optional_scalar (Nested depth) e = cc
optional_scalar Stored e = cc
optional_scalar Unknown e = cc

-- what stands in a Nullable type of the profile
pub nullable_level : (t : Ty) → is_profile (Nullable t) ≡ true → IsSingleLevel (out-Ty t)
nullable_level t profile = scalar_level t (known t) (optional_scalar (kind_of t) (ap is_known (sym (kind-Nullable t)) ∙ profile))

pub nullable_single : (t : Ty) → is_profile (Nullable t) ≡ true → IsSingle t
nullable_single t profile = single_at t (out-Ty t) refl (nullable_level t profile)

-- a type with one substream has items
pub level_items : (t : Ty) (level : Ty-F Ty) → is_profile t ≡ true → IsSingleLevel level → has_items_at t level ≡ true
level_items t (Ty-F.Nullable u) profile single = absurd single
level_items t (Ty-F.Array u) profile single = absurd single
level_items t (Ty-F.UInt w) profile single = refl
level_items t (Ty-F.Int w) profile single = refl
level_items t (Ty-F.FixedString n) profile single = refl
level_items t Ty-F.Str profile single = refl
level_items t Ty-F.Date profile single = refl
level_items t Ty-F.Moment profile single = refl
level_items t (Ty-F.State agg u) profile single = profile
level_items t Ty-F.CountState profile single = refl

pub single_items : (t : Ty) → is_profile t ≡ true → ((u : Ty) → t ≡ Nullable u → ⊥) → ((u : Ty) → t ≡ Array u → ⊥) → has_items t ≡ true
single_items t profile not_nullable not_array = level_items t (out-Ty t) profile (level_single t not_nullable not_array (out-Ty t) refl)

scalar_known : (k : Kind) → IsScalar k → is_known k ≡ true
scalar_known Whole scalar = refl
scalar_known Day scalar = refl
scalar_known Plain scalar = refl
scalar_known Optional scalar = absurd scalar
scalar_known (Nested depth) scalar = absurd scalar
scalar_known Stored scalar = absurd scalar
scalar_known Unknown scalar = absurd scalar

-- what stands in a Nullable type of the profile has items, and is of the profile
pub nullable_inside : (t : Ty) → is_profile (Nullable t) ≡ true → is_profile t ≡ true
nullable_inside t profile = scalar_known (kind_of t) (optional_scalar (kind_of t) (ap is_known (sym (kind-Nullable t)) ∙ profile))

pub nullable_items : (t : Ty) → is_profile (Nullable t) ≡ true → has_items t ≡ true
nullable_items t profile = level_items t (out-Ty t) (nullable_inside t profile) (nullable_level t profile)

-- the kinds of what stands in an array
array_of_kind : (k : Kind) → is_known (array_kind k) ≡ true → (is_known k ≡ true) × (levels_of_kind (array_kind k) ≡ suc (levels_of_kind k))
array_of_kind Whole e = (refl, refl)
array_of_kind Day e = (refl, refl)
array_of_kind Plain e = (refl, refl)
array_of_kind Optional e = (refl, refl)
array_of_kind (Nested depth) e = at_test (nat_lt depth MAX_ARRAY_DEPTH) e
  where
    at_test : (test : Bool) → is_known (if test then Nested (depth + 1) else Unknown) ≡ true → (is_known (Nested depth) ≡ true) × (levels_of_kind (if test then Nested (depth + 1) else Unknown) ≡ suc depth)
    at_test true e = (refl, add-one depth)
    at_test false e = cc
array_of_kind Stored e = cc
array_of_kind Unknown e = cc

-- what stands in an array of the profile is of the profile, and has one array less
pub array_inside : (t : Ty) → is_profile (Array t) ≡ true → (is_profile t ≡ true) × (array_levels (Array t) ≡ suc (array_levels t))
array_inside t profile =
    let p = array_of_kind (kind_of t) (ap is_known (sym (kind-Array t)) ∙ profile) in
    (p.0, ap levels_of_kind (kind-Array t) ∙ p.1)

-- ---- each level

-- values without NULL are written as they are
pub written_items : (t : Ty) → IsSingle t → (values : List Value) → list_all (fits_of t) values ≡ true → flat_map (written_item t) values ≡ flat_map (item_bytes t) values
written_items t single [] fit = refl
written_items t single (v ∷ values) fit =
    let p = and_parts _ _ fit in
    let same : or_default (default_of t) v ≡ v = ap (λ (null : Bool). if null then default_of t else v) (single.no_null v p.0) in
    ap (λ x. item_bytes t x ++ flat_map (written_item t) values) same ∙ ap (λ bs. item_bytes t v ++ bs) (written_items t single values p.1)

pub fit_or_null : (t : Ty) (values : List Value) → list_all (fits_of t) values ≡ true → list_all (fits_or_null t) values ≡ true
fit_or_null t [] fit = refl
fit_or_null t (v ∷ values) fit = let p = and_parts _ _ fit in and_from _ _ (or_right _ _ p.0) (fit_or_null t values p.1)

pub nullable_fit : (t : Ty) (values : List Value) → list_all (fits_of (Nullable t)) values ≡ true → list_all (fits_or_null t) values ≡ true
nullable_fit t values fit = ap (λ f. list_all f values) (sym (fits_at (Nullable t) (Ty-F.Nullable t) (outs-Nullable t))) ∙ fit

pub nullable_written : (t : Ty) → IsSingle t → (values : List Value) → written_streams (Nullable t) values ≡ flat_map null_item values ∷ (flat_map (written_item t) values ∷ [])
nullable_written t single values =
    written_Nullable t values ∙ ap (λ s. map null_byte values ∷ s) (single.written (map (or_default (default_of t)) values))
    ∙ ap (λ bs. bs ∷ (flat_map (item_bytes t) (map (or_default (default_of t)) values) ∷ [])) (sym (flat_map_single null_byte values))
    ∙ ap (λ bs. flat_map null_item values ∷ (bs ∷ [])) (flat_map-map (item_bytes t) (or_default (default_of t)) values)

array_elements_fit : (f : Value → Bool) (l : Value-F Value) → list_at (λ items. nat_le (length items) MAX_ELEMENTS && list_all f items) l ≡ true → list_all f (elements_at l) ≡ true
array_elements_fit f (Value-F.List items) fit = (and_parts _ _ fit).1
array_elements_fit f (Value-F.Num n) fit = cc
array_elements_fit f (Value-F.Huge n) fit = cc
array_elements_fit f (Value-F.Text bytes) fit = cc
array_elements_fit f Value-F.Null fit = cc
array_elements_fit f (Value-F.State s) fit = cc

elements_fit : (f : Value → Bool) (values : List Value) → list_all (λ v. list_at (λ items. nat_le (length items) MAX_ELEMENTS && list_all f items) (out-Value v)) values ≡ true → list_all f (flat_map (λ value. elements_at (out-Value value)) values) ≡ true
elements_fit f [] fit = refl
elements_fit f (v ∷ values) fit =
    let p = and_parts _ _ fit in
    list_all-append f (elements_at (out-Value v)) (flat_map (λ value. elements_at (out-Value value)) values) ∙ and_from _ _ (array_elements_fit f (out-Value v) p.0) (elements_fit f values p.1)

pub array_fit : (t : Ty) (values : List Value) → list_all (fits_of (Array t)) values ≡ true → list_all (fits_of t) (flat_map (λ value. elements_at (out-Value value)) values) ≡ true
array_fit t values fit = elements_fit (fits_of t) values (ap (λ f. list_all f values) (sym (fits_at (Array t) (Ty-F.Array t) (outs-Array t))) ∙ fit)

pub array_written : (t : Ty) (values : List Value) → written_streams (Array t) values ≡ flat_map size_item values ∷ written_streams t (flat_map (λ value. elements_at (out-Value value)) values)
array_written t values =
    written_Array t values ∙ ap (λ bs. bs ∷ written_streams t (flat_map (λ elements. elements) (arrays_of values))) (flat_map-map (λ elements. to_le_bytes w64 (length elements)) (λ value. elements_at (out-Value value)) values)
    ∙ ap (λ vs. flat_map size_item values ∷ written_streams t vs) (flat_map-map (λ elements. elements) (λ value. elements_at (out-Value value)) values)

-- ---- streams appended one by one

pub one_more : (streams : List (List ℕ)) (pushed bytes : List ℕ) (whole : List (List ℕ)) → pushed ≡ bytes → whole ≡ bytes ∷ [] → streams ++ pushed ∷ [] ≡ streams ++ whole
one_more streams pushed bytes whole is w = rw (is, w) refl

pub two_more : (streams middle : List (List ℕ)) (first second bytes items : List ℕ) (whole : List (List ℕ))
    → middle ≡ streams ++ first ∷ [] → first ≡ bytes → second ≡ items → whole ≡ bytes ∷ (items ∷ []) → middle ++ second ∷ [] ≡ streams ++ whole
two_more streams middle first second bytes items whole m f s w = rw (m, f, s, w) (append_assoc streams (bytes ∷ []) (items ∷ []))

pub more_after : (streams middle : List (List ℕ)) (first bytes : List ℕ) (others whole : List (List ℕ))
    → middle ≡ streams ++ first ∷ [] → first ≡ bytes → whole ≡ bytes ∷ others → middle ++ others ≡ streams ++ whole
more_after streams middle first bytes others whole m f w = rw (m, f, w) (append_assoc streams (bytes ∷ []) others)
