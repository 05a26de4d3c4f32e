-- The bytes of a type's substreams are the sum of those of each value.
use Rattle.std.proofs.Common.{◌≡◌, ℕ, ◌+◌, ◌*◌, List, [], ◌∷◌, ◌++◌, length, map, refl, ap, sym, ◌∙◌, subst, arith, length-append}
use Rattle.std.specs.Int.{w64, to_le_bytes}
use Rattle.std.specs.List.{flat_map, sum, sum_by}
use Rattle.std.proofs.lemmas.Grind.{flat_map-append}
use Rattle.std.proofs.lemmas.List.{length-map, map-append}
use Rattle.std.proofs.lemmas.List.Sums.{sum_by-cons, sum-map}
use Rattle.mt_facts.proofs.Numbers.{sum_single}
use Rattle.mt_types.specs.declared.ty.Ty.{Ty, map-Ty, out-Ty, roll-Ty}
use Rattle.mt_types.specs.declared.ty.Ty.TheOpen.{Ty-F}
use Rattle.mt_types.specs.declared.ty.Ty.TheVariants.{Nullable, Array, outs-Nullable, outs-Array}
use Rattle.mt_types.specs.declared.ty.Ty.TheViews.{out-roll-Ty}
use Rattle.mt_types.specs.declared.ty.Ty.TheFolds.{ind-Ty}
use Rattle.mt_types.specs.declared.value.Value.{Value, out-Value}
use Rattle.mt_types.specs.Defaults.{default_of}
use Rattle.mt_types.specs.Items.{item_bytes}
use Rattle.mt_types.proofs.Levels.{same_level}
use Rattle.mt_defs.specs.Encoding.{null_byte, size_bytes}
use Rattle.mt_defs.specs.WrittenStreams.{written_streams, or_default, arrays_of, elements_at}
use Rattle.mt_codec.proofs.WrittenLemmas.{IsSingleLevel, single_at, written_Nullable, written_Array}
use Rattle.mt_layout.specs.Sizes.{value_size}

-- the bytes of the substreams of some values
abbrev pub streams_size : Ty → List Value → ℕ
streams_size t values = sum (map length (written_streams t values))

-- ---- by the outermost level of the type

pub size_single : (t : Ty) (level : Ty-F Ty) → out-Ty t ≡ level → IsSingleLevel level → (values : List Value) → streams_size t values ≡ length (flat_map (item_bytes t) values)
size_single t level is single values = ap (λ ss. sum (map length ss)) ((single_at t level is single).written values) ∙ sum_single (length (flat_map (item_bytes t) values))

pub size_Nullable : (t : Ty) (values : List Value) → streams_size (Nullable t) values ≡ length values + streams_size t (map (or_default (default_of t)) values)
size_Nullable t values =
    ap (λ ss. sum (map length ss)) (written_Nullable t values)
    ∙ sum_by-cons (λ n. n) (length (map null_byte values)) (map length (written_streams t (map (or_default (default_of t)) values)))
    ∙ ap (λ n. n + streams_size t (map (or_default (default_of t)) values)) (length-map values null_byte)

-- a size has 8 bytes
length-size_bytes : (arrays : List (List Value)) → length (size_bytes arrays) ≡ 8 * length arrays
length-size_bytes [] = refl
length-size_bytes (elements ∷ arrays) =
    let rest : length (size_bytes arrays) ≡ 8 * length arrays = length-size_bytes arrays in
    length-append (to_le_bytes w64 (length elements)) (size_bytes arrays) ∙ omega (arith, rest)

-- the elements of some arrays, one after another
abbrev elements_of : List Value → List Value
elements_of values = flat_map (λ elements. elements) (arrays_of values)

pub size_Array : (t : Ty) (values : List Value) → streams_size (Array t) values ≡ 8 * length values + streams_size t (elements_of values)
size_Array t values =
    ap (λ ss. sum (map length ss)) (written_Array t values)
    ∙ sum_by-cons (λ n. n) (length (size_bytes (arrays_of values))) (map length (written_streams t (elements_of values)))
    ∙ ap (λ n. n + streams_size t (elements_of values)) (length-size_bytes (arrays_of values) ∙ ap (λ n. 8 * n) (length-map values (λ value. elements_at (out-Value value))))

-- ---- values after values

-- the bytes of values after others are added to theirs
abbrev IsAdditive : Ty → Type 0
IsAdditive t = (xs ys : List Value) → streams_size t (xs ++ ys) ≡ streams_size t xs + streams_size t ys

additive_single : (t : Ty) (level : Ty-F Ty) → out-Ty t ≡ level → IsSingleLevel level → IsAdditive t
additive_single t level is single xs ys =
    size_single t level is single (xs ++ ys)
    ∙ ap length (flat_map-append (item_bytes t) xs ys) ∙ length-append (flat_map (item_bytes t) xs) (flat_map (item_bytes t) ys)
    ∙ ap (λ n. n + length (flat_map (item_bytes t) ys)) (sym (size_single t level is single xs))
    ∙ ap (λ n. streams_size t xs + n) (sym (size_single t level is single ys))

pub regrouped : (whole count inner first second a b c d : ℕ) → whole ≡ count + inner → count ≡ a + b → inner ≡ c + d → first ≡ a + c → second ≡ b + d → whole ≡ first + second
regrouped whole count inner first second a b c d w n i f s = omega arith

additive_Nullable : (t : Ty) → IsAdditive t → IsAdditive (Nullable t)
additive_Nullable t inner xs ys =
    let f : Value → Value = or_default (default_of t) in
    regrouped _ _ _ _ _ _ _ _ _ (size_Nullable t (xs ++ ys)) (length-append xs ys)
    (ap (streams_size t) (map-append f xs ys) ∙ inner (map f xs) (map f ys))
    (size_Nullable t xs) (size_Nullable t ys)

eight : (n a b : ℕ) → n ≡ a + b → 8 * n ≡ 8 * a + 8 * b
eight n a b e = omega arith

elements_of-append : (xs ys : List Value) → elements_of (xs ++ ys) ≡ elements_of xs ++ elements_of ys
elements_of-append xs ys =
    ap (flat_map (λ elements. elements)) (map-append (λ value. elements_at (out-Value value)) xs ys)
    ∙ flat_map-append (λ elements. elements) (arrays_of xs) (arrays_of ys)

additive_Array : (t : Ty) → IsAdditive t → IsAdditive (Array t)
additive_Array t inner xs ys =
    regrouped _ _ _ _ _ _ _ _ _ (size_Array t (xs ++ ys)) (eight _ _ _ (length-append xs ys))
    (ap (streams_size t) (elements_of-append xs ys) ∙ inner (elements_of xs) (elements_of ys))
    (size_Array t xs) (size_Array t ys)

-- a type for which that holds
abbrev Below : Type 0
Below = (t : Ty) × IsAdditive t

additive_level : (y : Ty-F Below) → IsAdditive (roll-Ty (map-Ty Below Ty (λ b. b.0) y))
additive_level (Ty-F.UInt w) = additive_single _ (Ty-F.UInt w) (out-roll-Ty (Ty-F.UInt w)) tt
additive_level (Ty-F.Int w) = additive_single _ (Ty-F.Int w) (out-roll-Ty (Ty-F.Int w)) tt
additive_level (Ty-F.FixedString n) = additive_single _ (Ty-F.FixedString n) (out-roll-Ty (Ty-F.FixedString n)) tt
additive_level Ty-F.Str = additive_single _ Ty-F.Str (out-roll-Ty Ty-F.Str) tt
additive_level Ty-F.Date = additive_single _ Ty-F.Date (out-roll-Ty Ty-F.Date) tt
additive_level Ty-F.Moment = additive_single _ Ty-F.Moment (out-roll-Ty Ty-F.Moment) tt
additive_level (Ty-F.Nullable b) = subst IsAdditive (same_level (Nullable b.0) (roll-Ty (Ty-F.Nullable b.0)) (outs-Nullable b.0 ∙ sym (out-roll-Ty (Ty-F.Nullable b.0)))) (additive_Nullable b.0 b.1)
additive_level (Ty-F.Array b) = subst IsAdditive (same_level (Array b.0) (roll-Ty (Ty-F.Array b.0)) (outs-Array b.0 ∙ sym (out-roll-Ty (Ty-F.Array b.0)))) (additive_Array b.0 b.1)
additive_level (Ty-F.State agg b) = additive_single _ (Ty-F.State agg b.0) (out-roll-Ty (Ty-F.State agg b.0)) tt
additive_level Ty-F.CountState = additive_single _ Ty-F.CountState (out-roll-Ty Ty-F.CountState) tt

pub additive : (t : Ty) (xs ys : List Value) → streams_size t (xs ++ ys) ≡ streams_size t xs + streams_size t ys
additive = ind-Ty IsAdditive (λ x y is. subst (λ l. IsAdditive (roll-Ty l)) is (additive_level y))

-- ---- the sum

pub doubled : (n : ℕ) → n ≡ n + n → n ≡ 0
doubled n e = omega arith

pub streams_size_none : (t : Ty) → streams_size t [] ≡ 0
streams_size_none t = doubled (streams_size t []) (additive t [] [])

pub streams_size_is : (t : Ty) (values : List Value) → streams_size t values ≡ sum_by (value_size t) values
unfolding value_size
streams_size_is t [] = streams_size_none t
streams_size_is t (value ∷ values) =
    additive t (value ∷ []) values ∙ ap (λ n. streams_size t (value ∷ []) + n) (streams_size_is t values)
    ∙ sym (sum_by-cons (value_size t) value values)

pub streams_size_sum : (t : Ty) (values : List Value) → streams_size t values ≡ sum (map (value_size t) values)
streams_size_sum t values = streams_size_is t values ∙ sym (sum-map (value_size t) values)
