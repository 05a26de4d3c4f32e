-- Each type is read exactly.
use Rattle.std.proofs.Common.{◌≡◌, ℕ, zero, suc, ◌+◌, ◌≤◌, Bool, true, false, List, [], ◌∷◌, ◌++◌, length, Ok, refl, ap, sym, ◌∙◌, subst, arith, append-nil, append_assoc}
use Rattle.std.specs.Prelude.{◌||◌}
use Rattle.std.specs.List.{flat_map}
use Rattle.std.proofs.lemmas.List.{length-append}
use Rattle.mt_types.specs.declared.ty.Ty.{Ty, map-Ty, out-Ty}
use Rattle.mt_types.specs.declared.ty.Ty.TheOpen.{Ty-F}
use Rattle.mt_types.specs.declared.ty.Ty.TheFolds.{fold_out-Ty}
use Rattle.mt_types.specs.declared.ty.Ty.TheVariants.{Nullable, Array, outs-Nullable, outs-Array}
use Rattle.mt_types.specs.declared.value.Value.{Value, out-Value}
use Rattle.mt_types.specs.Fits.{fits_of, null_at}
use Rattle.mt_types.specs.Items.{item_bytes}
use Rattle.mt_types.specs.Profile.{is_profile}
use Rattle.mt_types.specs.Steps.{◌>>=◌}
use Rattle.mt_types.proofs.Levels.{same_level}
use Rattle.mt_types.proofs.StepLemmas.{ok_then, ok_pair, ok_one}
use Rattle.mt_defs.specs.Encoding.{Encodes, EncodesAs, EncodesItems, EncodesNullable, EncodesArray, Encoding, is_null}
use Rattle.mt_types.proofs.NumberLemmas.{fits_at}
use Rattle.mt_item.proofs.LengthLemmas.{Small}
use Rattle.mt_item.specs.ItemReading.{item_front}
use Rattle.mt_item.specs.ItemTypes.{has_items_at}
use Rattle.mt_item.proofs.ItemLemmas.{item_exact}
use Rattle.mt_codec.specs.declared.stream.Stream.{Stream}
use Rattle.mt_codec.specs.ColumnReading.{Read, Column, column_from, stream_from, nullable_from, array_from, decode_reading, front_reading, bytes_left}
use Rattle.mt_defs.specs.FileNames.{array_levels}
use Rattle.mt_codec.specs.StreamOrder.{order_step, streams_from, streams_of}
use Rattle.mt_codec.proofs.WrittenLemmas.{IsSingleLevel, single_at, nullable_level, nullable_inside, array_inside, level_items}
use Rattle.mt_codec.proofs.EncodedLemmas.{encodes_at, single_encodes}
use Rattle.mt_codec.proofs.ColumnLemmas.{column_Nullable, column_Array, column_single}
use Rattle.mt_codec.proofs.ExactLemmas.{IsExactColumn, AreSmall, before, before_all, single_exact, nullable_exact, array_exact, array_fits}

-- ---- how many substreams a type has

order_at : (t : Ty) (level : Ty-F Ty) (depth : ℕ) → out-Ty t ≡ level → streams_from t depth ≡ order_step (map-Ty Ty (ℕ → List Stream) streams_from level) depth
order_at t level depth is = ap (λ f. f depth) (fold_out-Ty (ℕ → List Stream) order_step t ∙ ap (λ l. order_step (map-Ty Ty (ℕ → List Stream) streams_from l)) is)

-- so many at each depth
abbrev HasStreams : Ty → ℕ → Type 0
HasStreams t width = (depth : ℕ) → length (streams_from t depth) ≡ width

single_streams : (t : Ty) (level : Ty-F Ty) → out-Ty t ≡ level → IsSingleLevel level → HasStreams t 1
single_streams t (Ty-F.Nullable u) is single depth = absurd single
single_streams t (Ty-F.Array u) is single depth = absurd single
single_streams t (Ty-F.UInt w) is single depth = ap (λ (s : List Stream). length s) (order_at t (Ty-F.UInt w) depth is)
single_streams t (Ty-F.Int w) is single depth = ap (λ (s : List Stream). length s) (order_at t (Ty-F.Int w) depth is)
single_streams t (Ty-F.FixedString n) is single depth = ap (λ (s : List Stream). length s) (order_at t (Ty-F.FixedString n) depth is)
single_streams t Ty-F.Str is single depth = ap (λ (s : List Stream). length s) (order_at t Ty-F.Str depth is)
single_streams t Ty-F.Date is single depth = ap (λ (s : List Stream). length s) (order_at t Ty-F.Date depth is)
single_streams t Ty-F.Moment is single depth = ap (λ (s : List Stream). length s) (order_at t Ty-F.Moment depth is)
single_streams t (Ty-F.State agg u) is single depth = ap (λ (s : List Stream). length s) (order_at t (Ty-F.State agg u) depth is)
single_streams t Ty-F.CountState is single depth = ap (λ (s : List Stream). length s) (order_at t Ty-F.CountState depth is)

nullable_streams : (u : Ty) (width : ℕ) → HasStreams u width → HasStreams (Nullable u) (suc width)
nullable_streams u width inner depth = ap (λ (s : List Stream). length s) (order_at (Nullable u) (Ty-F.Nullable u) depth (outs-Nullable u)) ∙ ap suc (inner depth)

array_streams : (u : Ty) (width : ℕ) → HasStreams u width → HasStreams (Array u) (suc width)
array_streams u width inner depth = ap (λ (s : List Stream). length s) (order_at (Array u) (Ty-F.Array u) depth (outs-Array u)) ∙ ap suc (inner (depth + 1))

-- ---- each type

-- the substreams of the type are read exactly where they encode
pub record IsReadExactly (apart : Bool) (t : Ty) : Type 0 where
  pub width : ℕ
  pub streams : HasStreams t width
  pub exact : IsExactColumn apart (column_from apart t) (fits_of t) (EncodesAs t) width

-- with one level of the type known
carried : (apart : Bool) (t : Ty) (c : Column) (f : Value → Bool) (s : Encoding) (width : ℕ) → column_from apart t ≡ c → fits_of t ≡ f → EncodesAs t ≡ s → IsExactColumn apart c f s width → IsExactColumn apart (column_from apart t) (fits_of t) (EncodesAs t) width
carried apart t c f s width ec ef es exact =
    subst (λ (c : Column). IsExactColumn apart c (fits_of t) (EncodesAs t) width) (sym ec)
    (subst (λ (f : Value → Bool). IsExactColumn apart c f (EncodesAs t) width) (sym ef)
    (subst (λ (s : Encoding). IsExactColumn apart c f s width) (sym es) exact))

single_read : (apart : Bool) (t : Ty) (level : Ty-F Ty) → is_profile t ≡ true → out-Ty t ≡ level → IsSingleLevel level → IsReadExactly apart t
single_read apart t level profile is single =
    let items = subst (λ (l : Ty-F Ty). has_items_at t l ≡ true) (sym is) (level_items t level profile single) in
    record {
      width = 1;
      streams = single_streams t level is single;
      exact = carried apart t (stream_from apart (item_front t)) (fits_of t) (EncodesItems (item_bytes t)) 1 (column_single apart t level is single) refl (single_encodes t level is single)
          (single_exact apart (item_front t) (fits_of t) (item_bytes t) (item_exact t items));
    }

nullable_read : (apart : Bool) (u : Ty) → ((w : Value) → fits_of u w ≡ true → is_null w ≡ false) → IsReadExactly apart u → IsReadExactly apart (Nullable u)
nullable_read apart u no_null inner = record {
  width = suc inner.width;
  streams = nullable_streams u inner.width inner.streams;
  exact = carried apart (Nullable u) (nullable_from apart (column_from apart u)) (λ v. null_at (out-Value v) || fits_of u v) (EncodesNullable (fits_of u) (EncodesAs u)) (suc inner.width)
      (column_Nullable apart u) (fits_at (Nullable u) (Ty-F.Nullable u) (outs-Nullable u)) (encodes_at (Nullable u) (Ty-F.Nullable u) (outs-Nullable u))
      (nullable_exact apart (column_from apart u) (fits_of u) (EncodesAs u) inner.width inner.exact no_null);
}

array_read : (apart : Bool) (u : Ty) → IsReadExactly apart u → IsReadExactly apart (Array u)
array_read apart u inner = record {
  width = suc inner.width;
  streams = array_streams u inner.width inner.streams;
  exact = carried apart (Array u) (array_from apart (column_from apart u)) (array_fits (fits_of u)) (EncodesArray (EncodesAs u)) (suc inner.width)
      (column_Array apart u) (fits_at (Array u) (Ty-F.Array u) (outs-Array u)) (encodes_at (Array u) (Ty-F.Array u) (outs-Array u))
      (array_exact apart (column_from apart u) (fits_of u) (EncodesAs u) inner.width inner.exact);
}

-- types of at most so many arrays
read_within : (apart : Bool) (depth : ℕ) (t : Ty) (level : Ty-F Ty) → out-Ty t ≡ level → array_levels t ≤ depth → is_profile t ≡ true → IsReadExactly apart t
read_within apart depth t (Ty-F.UInt w) is few profile = single_read apart t (Ty-F.UInt w) profile is tt
read_within apart depth t (Ty-F.Int w) is few profile = single_read apart t (Ty-F.Int w) profile is tt
read_within apart depth t (Ty-F.FixedString n) is few profile = single_read apart t (Ty-F.FixedString n) profile is tt
read_within apart depth t Ty-F.Str is few profile = single_read apart t Ty-F.Str profile is tt
read_within apart depth t Ty-F.Date is few profile = single_read apart t Ty-F.Date profile is tt
read_within apart depth t Ty-F.Moment is few profile = single_read apart t Ty-F.Moment profile is tt
read_within apart depth t (Ty-F.State agg u) is few profile = single_read apart t (Ty-F.State agg u) profile is tt
read_within apart depth t Ty-F.CountState is few profile = single_read apart t Ty-F.CountState profile is tt
read_within apart depth t (Ty-F.Nullable u) is few profile =
    let same : Nullable u ≡ t = sym (same_level t (Nullable u) (is ∙ sym (outs-Nullable u))) in
    let p : is_profile (Nullable u) ≡ true = ap is_profile same ∙ profile in
    let single = nullable_level u p in
    subst (IsReadExactly apart) same (nullable_read apart u (single_at u (out-Ty u) refl single).no_null (single_read apart u (out-Ty u) (nullable_inside u p) refl single))
read_within apart zero t (Ty-F.Array u) is few profile =
    let same : Array u ≡ t = sym (same_level t (Array u) (is ∙ sym (outs-Array u))) in
    let more = (array_inside u (ap is_profile same ∙ profile)).1 in
    absurd (omega (arith, more, ap array_levels same))
read_within apart (suc depth) t (Ty-F.Array u) is few profile =
    let same : Array u ≡ t = sym (same_level t (Array u) (is ∙ sym (outs-Array u))) in
    let p = array_inside u (ap is_profile same ∙ profile) in
    let below : array_levels u ≤ depth = omega (arith, p.1, ap array_levels same) in
    subst (IsReadExactly apart) same (array_read apart u (read_within apart depth u (out-Ty u) refl below p.0))

pub read_exactly : (apart : Bool) (t : Ty) → is_profile t ≡ true → IsReadExactly apart t
read_exactly apart t profile = read_within apart (array_levels t) t (out-Ty t) refl (omega arith) profile

-- ---- substreams in their own bytes

apart_is : (front more : List (List ℕ)) → before_all true front more ≡ front ++ more
apart_is [] more = refl
apart_is (bytes ∷ front) more = ap (λ (s : List (List ℕ)). bytes ∷ s) (apart_is front more)

nothing_left : (front more streams : List (List ℕ)) → streams ≡ front ++ more → length streams ≡ length front → front ≡ streams
nothing_left front more streams is many = sym (append-nil front) ∙ ap (λ (m : List (List ℕ)). front ++ m) (sym (no_more more (omega (arith, ap (λ (s : List (List ℕ)). length s) is, length-append front more)))) ∙ sym is
  where
    no_more : (more : List (List ℕ)) → length more ≡ 0 → more ≡ []
    no_more [] e = refl
    no_more (m ∷ more) e = absurd (omega arith)

-- what is read is what the substreams encode
pub decoded_encodes : (t : Ty) → is_profile t ≡ true → (rows : ℕ) (streams : List (List ℕ)) (values : List Value) → AreSmall streams → length streams ≡ length (streams_of t) → decode_reading t rows streams ≡ Ok values
    → (length values ≡ rows) × Encodes t values streams
decoded_encodes t profile rows streams values small each e =
    let r = read_exactly true t profile in
    ok_then (column_from true t 0 rows streams) (λ read. Ok read.0) values e (λ read is e.
    let same : values ≡ read.0 = ok_one _ _ e in
    let s = r.exact.sound 0 rows streams read.0 read.1 small is in
    let all : s.0 ≡ streams = nothing_left s.0 read.1 streams (s.1 ∙ apart_is s.0 read.1) (each ∙ r.streams 0 ∙ sym s.5) in
    (ap (λ (xs : List Value). length xs) same ∙ s.2, subst (λ (xs : List Value). Encodes t xs streams) (sym same) (record { fit = s.3; encoded = subst (EncodesAs t read.0) all s.4 })))

-- what substreams encode is read
pub encoded_decodes : (t : Ty) → is_profile t ≡ true → (rows : ℕ) (streams : List (List ℕ)) (values : List Value) → length values ≡ rows → Encodes t values streams → decode_reading t rows streams ≡ Ok values
encoded_decodes t profile rows streams values many encodes =
    let r = read_exactly true t profile in
    let all : column_from true t 0 (length values) (before_all true streams []) ≡ Ok (values, []) = r.exact.complete 0 values streams [] tt encodes.fit encodes.encoded in
    ap (λ (n : ℕ). decode_reading t n streams) (sym many)
    ∙ ap (decode_reading t (length values)) (sym (apart_is streams [] ∙ append-nil streams))
    ∙ ap (λ (q : Read (List Value × List (List ℕ))). q >>= λ read. Ok read.0) all

-- ---- substreams that follow each other

joined_is : (front : List (List ℕ)) (rest : List ℕ) → before_all false front (rest ∷ []) ≡ (flat_map (λ s. s) front ++ rest) ∷ []
joined_is [] rest = refl
joined_is (bytes ∷ front) rest = ap (before false bytes) (joined_is front rest) ∙ ap (λ (b : List ℕ). b ∷ []) (sym (append_assoc bytes (flat_map (λ s. s) front) rest))

-- what the one list of bytes is
left_before : (bytes : List ℕ) (more : List (List ℕ)) → bytes_left (before false bytes more) ≡ bytes ++ bytes_left more
left_before bytes [] = sym (append-nil bytes)
left_before bytes (rest ∷ others) = refl

left_all : (front more : List (List ℕ)) → bytes_left (before_all false front more) ≡ flat_map (λ s. s) front ++ bytes_left more
left_all [] more = refl
left_all (bytes ∷ front) more =
    left_before bytes (before_all false front more) ∙ ap (λ (b : List ℕ). bytes ++ b) (left_all front more) ∙ sym (append_assoc bytes (flat_map (λ s. s) front) (bytes_left more))

-- what is read of the bytes is what substreams at their start encode
pub front_encodes : (t : Ty) → is_profile t ≡ true → (rows : ℕ) (bytes : List ℕ) (values : List Value) (rest : List ℕ) → Small bytes → front_reading t rows bytes ≡ Ok (values, rest)
    → (streams : List (List ℕ)) × (bytes ≡ flat_map (λ s. s) streams ++ rest) × (length values ≡ rows) × Encodes t values streams
front_encodes t profile rows bytes values rest small e =
    let r = read_exactly false t profile in
    ok_then (column_from false t 0 rows (bytes ∷ [])) (λ read. Ok (read.0, bytes_left read.1)) (values, rest) e (λ read is e.
    let p = ok_pair _ _ _ _ e in
    let s = r.exact.sound 0 rows (bytes ∷ []) read.0 read.1 (small, tt) is in (
      s.0,
      ap bytes_left s.1 ∙ left_all s.0 read.1 ∙ ap (λ (b : List ℕ). flat_map (λ s. s) s.0 ++ b) (sym p.1),
      ap (λ (xs : List Value). length xs) p.0 ∙ s.2,
      subst (λ (xs : List Value). Encodes t xs s.0) (sym p.0) (record { fit = s.3; encoded = s.4 }),
    ))

-- what substreams at their start encode is read
pub encoded_front : (t : Ty) → is_profile t ≡ true → (rows : ℕ) (bytes : List ℕ) (values : List Value) (streams : List (List ℕ)) (rest : List ℕ) → length values ≡ rows → Encodes t values streams → bytes ≡ flat_map (λ s. s) streams ++ rest
    → front_reading t rows bytes ≡ Ok (values, rest)
encoded_front t profile rows bytes values streams rest many encodes is =
    let r = read_exactly false t profile in
    let all : column_from false t 0 (length values) (before_all false streams (rest ∷ [])) ≡ Ok (values, rest ∷ []) = r.exact.complete 0 values streams (rest ∷ []) tt encodes.fit encodes.encoded in
    ap (λ (n : ℕ). front_reading t n bytes) (sym many)
    ∙ ap (λ (q : Read (List Value × List (List ℕ))). q >>= λ read. Ok (read.0, bytes_left read.1)) (ap (column_from false t 0 (length values)) (ap (λ (b : List ℕ). b ∷ []) is ∙ sym (joined_is streams rest)) ∙ all)
