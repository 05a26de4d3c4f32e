-- Two serializations of the same values differ only under NULL.
use Rattle.std.proofs.Common.{◌≡◌, ℕ, zero, suc, ◌≤◌, Bool, true, false, List, [], ◌∷◌, map, refl, ap, sym, ◌∙◌, subst, arith}
use Rattle.std.specs.Prelude.{if◌then◌else◌}
use Rattle.std.specs.List.{flat_map}
use Rattle.mt_types.specs.declared.ty.Ty.{Ty, map-Ty, out-Ty}
use Rattle.mt_types.specs.declared.ty.Ty.TheOpen.{Ty-F}
use Rattle.mt_types.specs.declared.ty.Ty.TheViews.{roll-out-Ty}
use Rattle.mt_types.specs.declared.ty.Ty.TheFolds.{rec-roll-Ty}
use Rattle.mt_types.specs.declared.ty.Ty.TheVariants.{Nullable, Array, outs-Nullable, outs-Array}
use Rattle.mt_types.specs.declared.value.Value.{Value, out-Value}
use Rattle.mt_types.specs.declared.value.Value.TheVariants.{List as Items, outs-List as outs-Items}
use Rattle.mt_types.specs.Items.{item_bytes}
use Rattle.mt_types.specs.Parts.{items_in}
use Rattle.mt_types.specs.Fits.{fits_of}
use Rattle.mt_types.specs.Profile.{is_profile}
use Rattle.mt_types.proofs.Levels.{same_level}
use Rattle.mt_defs.specs.Lists.{Pointwise}
use Rattle.mt_defs.specs.Encoding.{Encoding, Encodes, EncodesAs, EncodesNullable, EncodesArray, IsItemFor, is_null, null_byte, size_bytes}
use Rattle.mt_codec.specs.UnderNull.{Alike, AgreeUnder, AlikeNullable, AlikeArray, DifferUnderNull, alike_step}
use Rattle.mt_defs.specs.FileNames.{array_levels}
use Rattle.mt_codec.proofs.WrittenLemmas.{IsSingleLevel, array_inside}
use Rattle.mt_codec.proofs.EncodedLemmas.{encodes_at, single_encodes}

step_natural : (X : Type 0) (type_of : X → Ty) (alike : Ty → Alike) (level : Ty-F X)
    → alike_step X type_of (λ u. alike (type_of u)) level ≡ alike_step Ty (λ u. u) alike (map-Ty X Ty type_of level)
step_natural X type_of alike (Ty-F.UInt w) = refl
step_natural X type_of alike (Ty-F.Int w) = refl
step_natural X type_of alike (Ty-F.FixedString n) = refl
step_natural X type_of alike Ty-F.Str = refl
step_natural X type_of alike Ty-F.Date = refl
step_natural X type_of alike Ty-F.Moment = refl
step_natural X type_of alike (Ty-F.Nullable u) = refl
step_natural X type_of alike (Ty-F.Array u) = refl
step_natural X type_of alike (Ty-F.State agg u) = refl
step_natural X type_of alike Ty-F.CountState = refl

alike_at : (t : Ty) (level : Ty-F Ty) → out-Ty t ≡ level → DifferUnderNull t ≡ alike_step Ty (λ u. u) DifferUnderNull level
alike_at t level is = ap DifferUnderNull (sym (roll-out-Ty t)) ∙ rec-roll-Ty Alike alike_step step_natural (out-Ty t) ∙ ap (alike_step Ty (λ u. u) DifferUnderNull) is

-- the substreams of the type that encode the same values
abbrev AreAlike : Ty → Type 0
AreAlike t = (values : List Value) (streams streams' : List (List ℕ)) → EncodesAs t values streams → EncodesAs t values streams' → DifferUnderNull t streams streams'

-- ---- one substream

single_same : (t : Ty) (level : Ty-F Ty) → out-Ty t ≡ level → IsSingleLevel level → DifferUnderNull t ≡ (λ streams streams'. streams ≡ streams')
single_same t (Ty-F.Nullable u) is single = absurd single
single_same t (Ty-F.Array u) is single = absurd single
single_same t (Ty-F.UInt w) is single = alike_at t (Ty-F.UInt w) is
single_same t (Ty-F.Int w) is single = alike_at t (Ty-F.Int w) is
single_same t (Ty-F.FixedString n) is single = alike_at t (Ty-F.FixedString n) is
single_same t Ty-F.Str is single = alike_at t Ty-F.Str is
single_same t Ty-F.Date is single = alike_at t Ty-F.Date is
single_same t Ty-F.Moment is single = alike_at t Ty-F.Moment is
single_same t (Ty-F.State agg u) is single = alike_at t (Ty-F.State agg u) is
single_same t Ty-F.CountState is single = alike_at t Ty-F.CountState is

single_alike : (t : Ty) (level : Ty-F Ty) → out-Ty t ≡ level → IsSingleLevel level → AreAlike t
single_alike t level is single values streams streams' encodes encodes' =
    let first : streams ≡ flat_map (item_bytes t) values ∷ [] = subst (λ (e : Encoding). e values streams) (single_encodes t level is single) encodes in
    let second : streams' ≡ flat_map (item_bytes t) values ∷ [] = subst (λ (e : Encoding). e values streams') (single_encodes t level is single) encodes' in
    subst (λ (a : Alike). a streams streams') (sym (single_same t level is single)) (first ∙ sym second)

-- ---- under a null map

not_null : (v : Value) (null : Bool) → is_null v ≡ null → (let n : ℕ = (if null then 1 else 0) in n) ≡ 0 → is_null v ≡ false
not_null v true is zero' = absurd (omega (arith, zero'))
not_null v false is zero' = is

agree : (values xs ys : List Value) → Pointwise IsItemFor values xs → Pointwise IsItemFor values ys → AgreeUnder (map null_byte values) xs ys
agree [] [] [] p q = tt
agree [] [] (y ∷ ys) p q = absurd q
agree [] (x ∷ xs) ys p q = absurd p
agree (v ∷ values) [] ys p q = absurd p
agree (v ∷ values) (x ∷ xs) [] p q = absurd q
agree (v ∷ values) (x ∷ xs) (y ∷ ys) p q = ((λ zero'. let real = not_null v (is_null v) refl zero' in sym (p.0 real) ∙ q.0 real), agree values xs ys p.1 q.1)

nulls_alike : (fits : Value → Bool) (inner : Encoding) (values : List Value) (streams streams' : List (List ℕ)) → EncodesNullable fits inner values streams → EncodesNullable fits inner values streams' → AlikeNullable inner streams streams'
nulls_alike fits inner values [] streams' encodes encodes' = absurd encodes
nulls_alike fits inner values (nulls ∷ streams) [] encodes encodes' = absurd encodes'
nulls_alike fits inner values (nulls ∷ streams) (nulls' ∷ streams') (is, (xs, p, f, e)) (is', (ys, q, g, e')) =
    (is ∙ sym is', (xs, (ys, e, e', subst (λ (bs : List ℕ). AgreeUnder bs xs ys) (sym is) (agree values xs ys p q))))

nullable_alike : (u : Ty) → AreAlike (Nullable u)
nullable_alike u values streams streams' encodes encodes' =
    let is = encodes_at (Nullable u) (Ty-F.Nullable u) (outs-Nullable u) in
    let first : EncodesNullable (fits_of u) (EncodesAs u) values streams = subst (λ (e : Encoding). e values streams) is encodes in
    let second : EncodesNullable (fits_of u) (EncodesAs u) values streams' = subst (λ (e : Encoding). e values streams') is encodes' in
    subst (λ (a : Alike). a streams streams') (sym (alike_at (Nullable u) (Ty-F.Nullable u) (outs-Nullable u))) (nulls_alike (fits_of u) (EncodesAs u) values streams streams' first second)

-- ---- under sizes

items_same : (xs ys : List Value) → Items xs ≡ Items ys → xs ≡ ys
items_same xs ys e = sym (ap items_in (outs-Items xs)) ∙ ap (λ (v : Value). items_in (out-Value v)) e ∙ ap items_in (outs-Items ys)

arrays_same : (xs ys : List (List Value)) → map Items xs ≡ map Items ys → xs ≡ ys
arrays_same [] [] e = refl
arrays_same [] (y ∷ ys) e = cc
arrays_same (x ∷ xs) [] e = cc
arrays_same (x ∷ xs) (y ∷ ys) e =
    let head : Items x ≡ Items y = cc in
    let tail : map Items xs ≡ map Items ys = cc in
    ap (λ (z : List Value). z ∷ xs) (items_same x y head) ∙ ap (λ (zs : List (List Value)). y ∷ zs) (arrays_same xs ys tail)

sizes_alike : (inner : Encoding) (alike : Alike) → ((values : List Value) (streams streams' : List (List ℕ)) → inner values streams → inner values streams' → alike streams streams')
    → (values : List Value) (streams streams' : List (List ℕ)) → EncodesArray inner values streams → EncodesArray inner values streams' → AlikeArray alike streams streams'
sizes_alike inner alike same values [] streams' encodes encodes' = absurd encodes
sizes_alike inner alike same values (sizes ∷ streams) [] encodes encodes' = absurd encodes'
sizes_alike inner alike same values (sizes ∷ streams) (sizes' ∷ streams') (xs, v, z, e) (ys, v', z', e') =
    let arrays : xs ≡ ys = arrays_same xs ys (sym v ∙ v') in (
      z ∙ ap size_bytes arrays ∙ sym z',
      same (flat_map (λ elements. elements) ys) streams streams' (subst (λ (zs : List (List Value)). inner (flat_map (λ elements. elements) zs) streams) arrays e) e',
    )

array_alike : (u : Ty) → AreAlike u → AreAlike (Array u)
array_alike u inner values streams streams' encodes encodes' =
    let is = encodes_at (Array u) (Ty-F.Array u) (outs-Array u) in
    let first : EncodesArray (EncodesAs u) values streams = subst (λ (e : Encoding). e values streams) is encodes in
    let second : EncodesArray (EncodesAs u) values streams' = subst (λ (e : Encoding). e values streams') is encodes' in
    subst (λ (a : Alike). a streams streams') (sym (alike_at (Array u) (Ty-F.Array u) (outs-Array u))) (sizes_alike (EncodesAs u) (DifferUnderNull u) inner values streams streams' first second)

-- ---- each type

alike_within : (depth : ℕ) (t : Ty) (level : Ty-F Ty) → out-Ty t ≡ level → array_levels t ≤ depth → is_profile t ≡ true → AreAlike t
alike_within depth t (Ty-F.UInt w) is few profile = single_alike t (Ty-F.UInt w) is tt
alike_within depth t (Ty-F.Int w) is few profile = single_alike t (Ty-F.Int w) is tt
alike_within depth t (Ty-F.FixedString n) is few profile = single_alike t (Ty-F.FixedString n) is tt
alike_within depth t Ty-F.Str is few profile = single_alike t Ty-F.Str is tt
alike_within depth t Ty-F.Date is few profile = single_alike t Ty-F.Date is tt
alike_within depth t Ty-F.Moment is few profile = single_alike t Ty-F.Moment is tt
alike_within depth t (Ty-F.State agg u) is few profile = single_alike t (Ty-F.State agg u) is tt
alike_within depth t Ty-F.CountState is few profile = single_alike t Ty-F.CountState is tt
alike_within depth t (Ty-F.Nullable u) is few profile = subst AreAlike (sym (same_level t (Nullable u) (is ∙ sym (outs-Nullable u)))) (nullable_alike u)
alike_within zero t (Ty-F.Array u) is few profile =
    let same : Array u ≡ t = sym (same_level t (Array u) (is ∙ sym (outs-Array u))) in
    let more = (array_inside u (ap is_profile same ∙ profile)).1 in
    absurd (omega (arith, more, ap array_levels same))
alike_within (suc depth) t (Ty-F.Array u) is few profile =
    let same : Array u ≡ t = sym (same_level t (Array u) (is ∙ sym (outs-Array u))) in
    let p = array_inside u (ap is_profile same ∙ profile) in
    let below : array_levels u ≤ depth = omega (arith, p.1, ap array_levels same) in
    subst AreAlike same (array_alike u (alike_within depth u (out-Ty u) refl below p.0))

pub differ_under_null : (t : Ty) (values : List Value) (streams streams' : List (List ℕ)) → is_profile t ≡ true → Encodes t values streams → Encodes t values streams' → DifferUnderNull t streams streams'
differ_under_null t values streams streams' profile e e' = alike_within (array_levels t) t (out-Ty t) refl (omega arith) profile values streams streams' e.encoded e'.encoded
