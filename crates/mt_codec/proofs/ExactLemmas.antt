-- Reading a column is exact: what is read is what the substreams serialize, and what they serialize is read.
use Rattle.std.proofs.Common.{◌≡◌, ℕ, zero, suc, ◌+◌, ◌<◌, ◌≤◌, Bool, true, false, List, [], ◌∷◌, ◌++◌, length, map, take, drop, sum, Ok, refl, ap, sym, ◌∙◌, subst, arith, append_assoc, append-nil, lit<}
use Rattle.std.specs.Prelude.{◌&&◌, ◌||◌, ◌==◌, nat_le, ◌^◌, if◌then◌else◌}
use Rattle.std.specs.List.{flat_map, list_all}
use Rattle.std.specs.Int.{w64, to_le_bytes}
use Rattle.std.proofs.lemmas.Bool.{leb-true, lt-ltb, and_parts, and_from, or_left, or_right, both_ways}
use Rattle.std.proofs.lemmas.List.{length-append, length-take, length-drop, length-map, take-append-drop}
use Rattle.std.proofs.lemmas.List.Folds.{list_all-append}
use Rattle.std.proofs.Math.Seq.{take-append_seam, drop-append_seam}
use Rattle.mt_facts.proofs.Numbers.{sum_cons}
use Rattle.mt_types.specs.declared.limits.TheConstants.{MAX_ELEMENTS}
use Rattle.mt_types.specs.declared.ty.Width.TheVariants.{W64}
use Rattle.mt_types.specs.declared.value.Value.{Value, out-Value, roll-Value}
use Rattle.mt_types.specs.declared.value.Value.TheOpen.{Value-F}
use Rattle.mt_types.specs.declared.value.Value.TheViews.{roll-out-Value}
use Rattle.mt_types.specs.declared.value.Value.TheVariants.{Null, outs-Null, List as Items, outs-List as outs-Items}
use Rattle.mt_types.specs.Fits.{list_at, null_at}
use Rattle.mt_types.specs.Steps.{◌>>=◌, require, at}
use Rattle.mt_types.proofs.StepLemmas.{ok_then, at_ok_then, ok_pair, ok_one, required}
use Rattle.mt_defs.specs.Lists.{Pointwise}
use Rattle.mt_defs.specs.Encoding.{Encoding, EncodesItems, EncodesNullable, EncodesArray, IsItemFor, is_null, is_null_at, null_byte, size_bytes}
use Rattle.mt_item.specs.declared.fault.CodecWhy.TheVariants.{NullByte, TooLong}
use Rattle.mt_item.specs.ItemReading.{First, whole_front}
use Rattle.mt_item.proofs.LengthLemmas.{Small}
use Rattle.mt_item.proofs.ExactLemmas.{IsExact, small_back}
use Rattle.mt_item.proofs.NumberLemmas.{whole_exact}
use Rattle.mt_codec.specs.ColumnReading.{Read, Column, items_from, after_items, stream_from, null_front, size_front, nullable_from, array_from, nulled, arrays_from}
use Rattle.mt_codec.proofs.LoopLemmas.{items_none, items_next, ReadItems}
use Rattle.mt_codec.proofs.StreamLemmas.{stream_none, stream_next, after_none, after_joined, null_read, size_read, size_next}
use Rattle.mt_codec.proofs.ColumnLemmas.{nullable_next, array_next}

-- ---- items

-- what is said of items that were read
pub record AreItems {A : Type 0} (fits : A → Bool) (item : A → List ℕ) (count : ℕ) (bytes : List ℕ) (vs : List A) (rest : List ℕ) : Type 0 where
  pub many : length vs ≡ count
  pub fit : list_all fits vs ≡ true
  pub whole : bytes ≡ flat_map item vs ++ rest

items_sound : {A : Type 0} (read : List ℕ → First A) (fits : A → Bool) (item : A → List ℕ) → IsExact read fits item → (i count : ℕ) (bytes : List ℕ) (vs : List A) (rest : List ℕ) → Small bytes → items_from read i count bytes ≡ Ok (vs, rest)
    → AreItems fits item count bytes vs rest
items_sound {A} read fits item exact i zero bytes vs rest small e =
    let p = ok_pair _ _ _ _ (sym (items_none read i bytes) ∙ e) in
    record { many = ap (λ (xs : List A). length xs) p.0; fit = ap (λ (xs : List A). list_all fits xs) p.0; whole = sym p.1 ∙ ap (λ (xs : List A). flat_map item xs ++ rest) (sym p.0) }
items_sound {A} read fits item exact i (suc count) bytes vs rest small e =
    at_ok_then i (read bytes) (λ here. (items_from read (i + 1) count here.1 >>= λ more. Ok (here.0 ∷ more.0, more.1))) (vs, rest) (sym (items_next read i count bytes) ∙ e) (λ here is e.
    ok_then (items_from read (i + 1) count here.1) (λ more. Ok (here.0 ∷ more.0, more.1)) (vs, rest) e (λ more are_more e.
    let p = ok_pair _ _ _ _ e in
    let first = exact.sound bytes here.0 here.1 small is in
    let others = items_sound read fits item exact (i + 1) count here.1 more.0 more.1 (small_back (item here.0) here.1 (subst Small first.1 small)) are_more in
    record {
      many = ap (λ (xs : List A). length xs) p.0 ∙ omega (arith, others.many);
      fit = ap (λ (xs : List A). list_all fits xs) p.0 ∙ and_from _ _ first.0 others.fit;
      whole = first.1 ∙ ap (λ (r : List ℕ). item here.0 ++ r) others.whole ∙ sym (append_assoc (item here.0) (flat_map item more.0) more.1)
          ∙ ap (λ (xs : List A). flat_map item xs ++ more.1) (sym p.0) ∙ ap (λ (r : List ℕ). flat_map item vs ++ r) (sym p.1);
    }))

items_complete : {A : Type 0} (read : List ℕ → First A) (fits : A → Bool) (item : A → List ℕ) → IsExact read fits item → (i : ℕ) (vs : List A) (rest : List ℕ) → list_all fits vs ≡ true
    → items_from read i (length vs) (flat_map item vs ++ rest) ≡ Ok (vs, rest)
items_complete read fits item exact i [] rest fit = items_none read i rest
items_complete {A} read fits item exact i (v ∷ vs) rest fit =
    let p = and_parts _ _ fit in
    let here : read ((item v ++ flat_map item vs) ++ rest) ≡ Ok (v, flat_map item vs ++ rest) = ap read (append_assoc (item v) (flat_map item vs) rest) ∙ exact.complete v (flat_map item vs ++ rest) p.0 in
    let more = items_complete read fits item exact (i + 1) vs rest p.1 in
    items_next read i (length vs) ((item v ++ flat_map item vs) ++ rest)
    ∙ ap (λ (r : First A). at i r >>= λ here. (items_from read (i + 1) (length vs) here.1 >>= λ more. Ok (here.0 ∷ more.0, more.1))) here
    ∙ ap (λ (r : ReadItems A). r >>= λ more. Ok (v ∷ more.0, more.1)) more

-- ---- a substream before others

-- in its own bytes, or before the bytes that follow it
abbrev pub before : Bool → List ℕ → List (List ℕ) → List (List ℕ)
before true bytes more = bytes ∷ more
before false bytes [] = bytes ∷ []
before false bytes (rest ∷ others) = (bytes ++ rest) ∷ others

-- some substreams before others
abbrev pub before_all : Bool → List (List ℕ) → List (List ℕ) → List (List ℕ)
before_all apart [] more = more
before_all apart (bytes ∷ front) more = before apart bytes (before_all apart front more)

-- something stands behind substreams that follow each other, if only no byte
abbrev pub IsOpen : Bool → List (List ℕ) → Type 0
IsOpen true more = Unit {0}
IsOpen false [] = ⊥
IsOpen false (rest ∷ others) = Unit {0}

-- all are bytes
abbrev pub AreSmall : List (List ℕ) → Type 0
AreSmall [] = Unit {0}
AreSmall (bytes ∷ streams) = Small bytes × AreSmall streams

open_before : (apart : Bool) (bytes : List ℕ) (more : List (List ℕ)) → IsOpen apart more → IsOpen apart (before apart bytes more)
open_before true bytes more o = tt
open_before false bytes [] o = absurd o
open_before false bytes (rest ∷ others) o = tt

open_all : (apart : Bool) (front more : List (List ℕ)) → IsOpen apart more → IsOpen apart (before_all apart front more)
open_all apart [] more o = o
open_all apart (bytes ∷ front) more o = open_before apart bytes (before_all apart front more) (open_all apart front more o)

small_before : (apart : Bool) (bytes : List ℕ) (more : List (List ℕ)) → AreSmall (before apart bytes more) → AreSmall more
small_before true bytes more small = small.1
small_before false bytes [] small = tt
small_before false bytes (rest ∷ others) small = (small_back bytes rest small.0, small.1)

small_rest : (apart : Bool) (bytes : List ℕ) (streams more : List (List ℕ)) → streams ≡ before apart bytes more → AreSmall streams → AreSmall more
small_rest apart bytes streams more is small = small_before apart bytes more (subst AreSmall is small)

-- ---- one substream

-- what is said of a substream that was read
pub record IsStreamOf {A : Type 0} (apart : Bool) (fits : A → Bool) (item : A → List ℕ) (count : ℕ) (streams : List (List ℕ)) (vs : List A) (more : List (List ℕ)) : Type 0 where
  pub many : length vs ≡ count
  pub fit : list_all fits vs ≡ true
  pub whole : streams ≡ before apart (flat_map item vs) more

no_stream : {A Z : Type 0} (apart : Bool) (read : List ℕ → First A) (stream count : ℕ) (y : List A × List (List ℕ)) → stream_from apart read stream count [] ≡ Ok y → Z
no_stream apart read stream count y e = let none = stream_none apart read stream count in cc

-- what is left after the items
left_is : (apart : Bool) (stream count : ℕ) (bytes rest : List ℕ) (others left : List (List ℕ)) (front : List ℕ) → after_items apart stream count rest others ≡ Ok left → bytes ≡ front ++ rest → bytes ∷ others ≡ before apart front left
unfolding after_items
left_is true stream count bytes [] others left front e is = ap (λ (b : List ℕ). b ∷ others) (is ∙ append-nil front) ∙ ap (λ (o : List (List ℕ)). front ∷ o) (sym (ok_one _ _ e))
left_is true stream count bytes (b ∷ rest) others left front e is = cc
left_is false stream count bytes rest others left front e is = ap (λ (b : List ℕ). b ∷ others) is ∙ ap (before false front) (sym (ok_one _ _ e))

stream_sound : {A : Type 0} (apart : Bool) (read : List ℕ → First A) (fits : A → Bool) (item : A → List ℕ) → IsExact read fits item → (stream count : ℕ) (streams : List (List ℕ)) (vs : List A) (more : List (List ℕ)) → AreSmall streams
    → stream_from apart read stream count streams ≡ Ok (vs, more) → IsStreamOf apart fits item count streams vs more
stream_sound apart read fits item exact stream count [] vs more small e = no_stream apart read stream count (vs, more) e
stream_sound {A} apart read fits item exact stream count (bytes ∷ others) vs more small e =
    at_ok_then stream (items_from read 0 count bytes) (λ read. (after_items apart stream count read.1 others >>= λ left. Ok (read.0, left))) (vs, more) (sym (stream_next apart read stream count bytes others) ∙ e) (λ got is e.
    ok_then (after_items apart stream count got.1 others) (λ left. Ok (got.0, left)) (vs, more) e (λ left is_left e.
    let p = ok_pair _ _ _ _ e in
    let items = items_sound read fits item exact 0 count bytes got.0 got.1 small.0 is in
    record {
      many = ap (λ (xs : List A). length xs) p.0 ∙ items.many;
      fit = ap (λ (xs : List A). list_all fits xs) p.0 ∙ items.fit;
      whole = left_is apart stream count bytes got.1 others left (flat_map item got.0) is_left items.whole
          ∙ ap (λ (xs : List A). before apart (flat_map item xs) left) (sym p.0) ∙ ap (before apart (flat_map item vs)) (sym p.1);
    }))

-- the substream is read of the bytes that it begins
stream_whole : {A : Type 0} (apart : Bool) (read : List ℕ → First A) (stream count : ℕ) (bytes : List ℕ) (others : List (List ℕ)) (vs : List A) (rest : List ℕ) (left : List (List ℕ)) → items_from read 0 count bytes ≡ Ok (vs, rest) → after_items apart stream count rest others ≡ Ok left
    → stream_from apart read stream count (bytes ∷ others) ≡ Ok (vs, left)
stream_whole {A} apart read stream count bytes others vs rest left got after =
    stream_next apart read stream count bytes others
    ∙ ap (λ (r : ReadItems A). at stream r >>= λ read. (after_items apart stream count read.1 others >>= λ left. Ok (read.0, left))) got
    ∙ ap (λ (r : Read (List (List ℕ))). r >>= λ left. Ok (vs, left)) after

stream_complete : {A : Type 0} (apart : Bool) (read : List ℕ → First A) (fits : A → Bool) (item : A → List ℕ) → IsExact read fits item → (stream : ℕ) (vs : List A) (more : List (List ℕ)) → IsOpen apart more → list_all fits vs ≡ true
    → stream_from apart read stream (length vs) (before apart (flat_map item vs) more) ≡ Ok (vs, more)
stream_complete {A} true read fits item exact stream vs more o fit =
    let got : items_from read 0 (length vs) (flat_map item vs) ≡ Ok (vs, []) = ap (items_from read 0 (length vs)) (sym (append-nil (flat_map item vs))) ∙ items_complete read fits item exact 0 vs [] fit in
    stream_whole true read stream (length vs) (flat_map item vs) more vs [] more got (after_none stream (length vs) [] more refl)
stream_complete {A} false read fits item exact stream vs [] o fit = absurd o
stream_complete {A} false read fits item exact stream vs (rest ∷ others) o fit =
    stream_whole false read stream (length vs) (flat_map item vs ++ rest) others vs rest (rest ∷ others) (items_complete read fits item exact 0 vs rest fit) (after_joined stream (length vs) rest others)

-- ---- columns

-- a column of so many substreams is read exactly where the first ones encode it
pub record IsExactColumn (apart : Bool) (column : Column) (fits : Value → Bool) (encodes : Encoding) (width : ℕ) : Type 0 where
  pub sound : (stream count : ℕ) (streams : List (List ℕ)) (vs : List Value) (more : List (List ℕ)) → AreSmall streams → column stream count streams ≡ Ok (vs, more)
      → (front : List (List ℕ)) × (streams ≡ before_all apart front more) × (length vs ≡ count) × (list_all fits vs ≡ true) × encodes vs front × (length front ≡ width)
  pub complete : (stream : ℕ) (vs : List Value) (front more : List (List ℕ)) → IsOpen apart more → list_all fits vs ≡ true → encodes vs front → column stream (length vs) (before_all apart front more) ≡ Ok (vs, more)

pub single_exact : (apart : Bool) (read : List ℕ → First Value) (fits : Value → Bool) (item : Value → List ℕ) → IsExact read fits item → IsExactColumn apart (stream_from apart read) fits (EncodesItems item) 1
single_exact apart read fits item exact = record {
  sound = λ stream count streams vs more small e.
      let s = stream_sound apart read fits item exact stream count streams vs more small e in
      (flat_map item vs ∷ [], s.whole, s.many, s.fit, refl, refl);
  complete = λ stream vs front more o fit encodes.
      ap (λ (f : List (List ℕ)). stream_from apart read stream (length vs) (before_all apart f more)) encodes ∙ stream_complete apart read fits item exact stream vs more o fit;
}

-- ---- under a null map

at_byte : (byte : ℕ) (bytes : List ℕ) (v : ℕ) (rest : List ℕ) (small : Bool) → nat_le byte 1 ≡ small → (let r : First ℕ = (require small NullByte >>= λ _. Ok (byte, bytes)) in r) ≡ Ok (v, rest) → (nat_le v 1 ≡ true) × (byte ∷ bytes ≡ v ∷ rest)
at_byte byte bytes v rest true is e =
    let p = ok_pair byte v bytes rest e in
    (ap (λ (b : ℕ). nat_le b 1) p.0 ∙ is, ap (λ (b : ℕ). b ∷ bytes) (sym p.0) ∙ ap (λ (bs : List ℕ). v ∷ bs) (sym p.1))
at_byte byte bytes v rest false is e = cc

null_sound : (bytes : List ℕ) (v : ℕ) (rest : List ℕ) → Small bytes → null_front bytes ≡ Ok (v, rest) → (nat_le v 1 ≡ true) × (bytes ≡ (v ∷ []) ++ rest)
unfolding null_front
null_sound [] v rest small e = cc
null_sound (byte ∷ bytes) v rest small e = at_byte byte bytes v rest (nat_le byte 1) refl e

pub null_exact : IsExact null_front (λ byte. nat_le byte 1) (λ byte. byte ∷ [])
null_exact = record { sound = null_sound; complete = λ byte rest fits. null_read byte rest (leb-true byte 1 fits) }

bytes_alone : (bytes : List ℕ) → flat_map (λ byte. byte ∷ []) bytes ≡ bytes
bytes_alone [] = refl
bytes_alone (byte ∷ bytes) = ap (λ (bs : List ℕ). byte ∷ bs) (bytes_alone bytes)

-- a value whose level is NULL is NULL
null_value : (v : Value) (level : Value-F Value) → out-Value v ≡ level → is_null_at level ≡ true → v ≡ Null
null_value v Value-F.Null is e = sym (roll-out-Value v) ∙ ap roll-Value (is ∙ sym outs-Null) ∙ roll-out-Value Null
null_value v (Value-F.Num n) is e = cc
null_value v (Value-F.Huge n) is e = cc
null_value v (Value-F.Text t) is e = cc
null_value v (Value-F.List xs) is e = cc
null_value v (Value-F.State s) is e = cc

null_is : is_null Null ≡ true
null_is = ap is_null_at outs-Null

-- what a byte of a null map and an item stand for
abbrev null_or : ℕ → Value → Value
null_or byte w = if byte == 1 then Null else w

record IsNulled (fits : Value → Bool) (bytes : List ℕ) (ws : List Value) : Type 0 where
  pub map_is : bytes ≡ map null_byte (nulled bytes ws)
  pub items : Pointwise IsItemFor (nulled bytes ws) ws
  pub many : length (nulled bytes ws) ≡ length ws
  pub fit : list_all (λ v. null_at (out-Value v) || fits v) (nulled bytes ws) ≡ true

one_nulled : (fits : Value → Bool) (byte : ℕ) (w : Value) → nat_le byte 1 ≡ true → fits w ≡ true → is_null w ≡ false → (byte ≡ null_byte (null_or byte w)) × IsItemFor (null_or byte w) w × ((null_at (out-Value (null_or byte w)) || fits (null_or byte w)) ≡ true)
one_nulled fits zero w small fit not_null = (sym (ap (λ (b : Bool). if b then 1 else 0) not_null), (λ e. refl), or_right _ _ fit)
one_nulled fits (suc zero) w small fit not_null = (sym (ap (λ (b : Bool). if b then 1 else 0) null_is), (λ e. absurd (both_ways _ e null_is)), or_left _ _ null_is)
one_nulled fits (suc (suc byte)) w small fit not_null = absurd (omega (arith, leb-true (suc (suc byte)) 1 small))

nulled_is : (fits : Value → Bool) → ((w : Value) → fits w ≡ true → is_null w ≡ false) → (bytes : List ℕ) (ws : List Value) → length bytes ≡ length ws → list_all (λ byte. nat_le byte 1) bytes ≡ true → list_all fits ws ≡ true → IsNulled fits bytes ws
nulled_is fits no_null [] [] e small fit = record { map_is = refl; items = tt; many = refl; fit = refl }
nulled_is fits no_null [] (w ∷ ws) e small fit = absurd (omega arith)
nulled_is fits no_null (b ∷ bytes) [] e small fit = absurd (omega arith)
nulled_is fits no_null (b ∷ bytes) (w ∷ ws) e small fit =
    let q = and_parts _ _ small in
    let p = and_parts _ _ fit in
    let here = one_nulled fits b w q.0 p.0 (no_null w p.0) in
    let more = nulled_is fits no_null bytes ws (omega arith) q.1 p.1 in
    record {
      map_is = ap (λ (x : ℕ). x ∷ bytes) here.0 ∙ ap (λ (bs : List ℕ). null_byte (null_or b w) ∷ bs) more.map_is;
      items = (here.1, more.items);
      many = omega (arith, more.many);
      fit = and_from _ _ here.2 more.fit;
    }

-- back from the values
record IsNullMap (vs ws : List Value) : Type 0 where
  pub small : list_all (λ byte. nat_le byte 1) (map null_byte vs) ≡ true
  pub values : nulled (map null_byte vs) ws ≡ vs
  pub many : length ws ≡ length vs
  pub long : length (map null_byte vs) ≡ length vs

one_back : (v w : Value) (null : Bool) → is_null v ≡ null → IsItemFor v w → (nat_le (if null then 1 else 0) 1 ≡ true) × (null_or (if null then 1 else 0) w ≡ v)
one_back v w true is item = (refl, sym (null_value v (out-Value v) refl is))
one_back v w false is item = (refl, sym (item is))

map_back : (vs ws : List Value) → Pointwise IsItemFor vs ws → IsNullMap vs ws
map_back [] [] items = record { small = refl; values = refl; many = refl; long = refl }
map_back [] (w ∷ ws) items = absurd items
map_back (v ∷ vs) [] items = absurd items
map_back (v ∷ vs) (w ∷ ws) items =
    let here = one_back v w (is_null v) refl items.0 in
    let more = map_back vs ws items.1 in
    record {
      small = and_from _ _ here.0 more.small;
      values = ap (λ (x : Value). x ∷ nulled (map null_byte vs) ws) here.1 ∙ ap (λ (xs : List Value). v ∷ xs) more.values;
      many = omega (arith, more.many);
      long = omega (arith, more.long);
    }

pub nullable_exact : (apart : Bool) (inner : Column) (fits : Value → Bool) (encodes : Encoding) (width : ℕ) → IsExactColumn apart inner fits encodes width → ((w : Value) → fits w ≡ true → is_null w ≡ false)
    → IsExactColumn apart (nullable_from apart inner) (λ v. null_at (out-Value v) || fits v) (EncodesNullable fits encodes) (suc width)
nullable_exact apart inner fits encodes width exact no_null = record { sound = sound; complete = complete }
  where
    sound : (stream count : ℕ) (streams : List (List ℕ)) (vs : List Value) (more : List (List ℕ)) → AreSmall streams → nullable_from apart inner stream count streams ≡ Ok (vs, more)
        → (front : List (List ℕ)) × (streams ≡ before_all apart front more) × (length vs ≡ count) × (list_all (λ v. null_at (out-Value v) || fits v) vs ≡ true) × EncodesNullable fits encodes vs front × (length front ≡ suc width)
    sound stream count streams vs more small e =
        ok_then (stream_from apart null_front stream count streams) (λ nulls. (inner (stream + 1) count nulls.1 >>= λ values. Ok (nulled nulls.0 values.0, values.1))) (vs, more) (sym (nullable_next apart inner stream count streams) ∙ e) (λ nulls is e.
        ok_then (inner (stream + 1) count nulls.1) (λ values. Ok (nulled nulls.0 values.0, values.1)) (vs, more) e (λ values are_values e.
        let p = ok_pair _ _ _ _ e in
        let s = stream_sound apart null_front (λ byte. nat_le byte 1) (λ byte. byte ∷ []) null_exact stream count streams nulls.0 nulls.1 small is in
        let v = exact.sound (stream + 1) count nulls.1 values.0 values.1 (small_rest apart (flat_map (λ byte. byte ∷ []) nulls.0) streams nulls.1 s.whole small) are_values in
        let n = nulled_is fits no_null nulls.0 values.0 (s.many ∙ sym v.2) s.fit v.3 in (
          nulls.0 ∷ v.0,
          s.whole ∙ ap (λ (b : List ℕ). before apart b nulls.1) (bytes_alone nulls.0) ∙ ap (before apart nulls.0) (v.1 ∙ ap (before_all apart v.0) (sym p.1)),
          ap (λ (xs : List Value). length xs) p.0 ∙ n.many ∙ v.2,
          ap (λ (xs : List Value). list_all (λ v. null_at (out-Value v) || fits v) xs) p.0 ∙ n.fit,
          (n.map_is ∙ ap (λ (xs : List Value). map null_byte xs) (sym p.0), (values.0, subst (λ (xs : List Value). Pointwise IsItemFor xs values.0) (sym p.0) n.items, v.3, v.4)),
          ap suc v.5,
        )))

    complete : (stream : ℕ) (vs : List Value) (front more : List (List ℕ)) → IsOpen apart more → list_all (λ v. null_at (out-Value v) || fits v) vs ≡ true → EncodesNullable fits encodes vs front
        → nullable_from apart inner stream (length vs) (before_all apart front more) ≡ Ok (vs, more)
    complete stream vs [] more o fit said = absurd said
    complete stream vs (nulls ∷ front) more o fit (map_is, (ws, items, fit_ws, said)) =
        let b = map_back vs ws items in
        let bytes : nulls ≡ flat_map (λ byte. byte ∷ []) (map null_byte vs) = map_is ∙ sym (bytes_alone (map null_byte vs)) in
        let first : stream_from apart null_front stream (length vs) (before apart nulls (before_all apart front more)) ≡ Ok (map null_byte vs, before_all apart front more) =
        ap (λ (n : ℕ). stream_from apart null_front stream n (before apart nulls (before_all apart front more))) (sym b.long)
        ∙ ap (λ (bs : List ℕ). stream_from apart null_front stream (length (map null_byte vs)) (before apart bs (before_all apart front more))) bytes
        ∙ stream_complete apart null_front (λ byte. nat_le byte 1) (λ byte. byte ∷ []) null_exact stream (map null_byte vs) (before_all apart front more) (open_all apart front more o) b.small in
        let second : inner (stream + 1) (length vs) (before_all apart front more) ≡ Ok (ws, more) = ap (λ (n : ℕ). inner (stream + 1) n (before_all apart front more)) (sym b.many) ∙ exact.complete (stream + 1) ws front more o fit_ws said in
        nullable_next apart inner stream (length vs) (before apart nulls (before_all apart front more))
        ∙ ap (λ (r : Read (List ℕ × List (List ℕ))). r >>= λ nulls. (inner (stream + 1) (length vs) nulls.1 >>= λ values. Ok (nulled nulls.0 values.0, values.1))) first
        ∙ ap (λ (r : Read (List Value × List (List ℕ))). r >>= λ values. Ok (nulled (map null_byte vs) values.0, values.1)) second
        ∙ ap (λ (xs : List Value). let r : Read (List Value × List (List ℕ)) = Ok (xs, more) in r) b.values

-- ---- under sizes

pub size_exact : IsExact size_front (λ n. nat_le n MAX_ELEMENTS) (to_le_bytes w64)
size_exact = record { sound = sound; complete = complete }
  where
    sound : (bytes : List ℕ) (n : ℕ) (rest : List ℕ) → Small bytes → size_front bytes ≡ Ok (n, rest) → (nat_le n MAX_ELEMENTS ≡ true) × (bytes ≡ to_le_bytes w64 n ++ rest)
    sound bytes n rest small e =
        ok_then (whole_front w64 bytes) (λ size. (require (nat_le size.0 MAX_ELEMENTS) TooLong >>= λ _. Ok size)) (n, rest) (sym (size_next bytes) ∙ e) (λ size is e.
        required (nat_le size.0 MAX_ELEMENTS) TooLong (λ _. Ok size) (n, rest) e (λ few e.
        let p = ok_pair _ _ _ _ e in
        let w = (whole_exact W64).sound bytes size.0 size.1 small is in
        (ap (λ (k : ℕ). nat_le k MAX_ELEMENTS) p.0 ∙ few, w.1 ∙ ap (λ (k : ℕ). to_le_bytes w64 k ++ size.1) (sym p.0) ∙ ap (λ (r : List ℕ). to_le_bytes w64 n ++ r) (sym p.1))))

    complete : (n : ℕ) (rest : List ℕ) → nat_le n MAX_ELEMENTS ≡ true → size_front (to_le_bytes w64 n ++ rest) ≡ Ok (n, rest)
    complete n rest fits =
        let few : n ≤ MAX_ELEMENTS = leb-true n MAX_ELEMENTS fits in
        let most : MAX_ELEMENTS < 2 ^ 64 = lit< tt in
        size_read (to_le_bytes w64 n ++ rest) n rest ((whole_exact W64).complete n rest (lt-ltb n (2 ^ 64) (omega (arith, few, most)))) few

abbrev pub array_fits : (Value → Bool) → Value → Bool
array_fits fits v = list_at (λ items. nat_le (length items) MAX_ELEMENTS && list_all fits items) (out-Value v)

-- lists of some sizes, cut of as many values
abbrev lists_of : List ℕ → List Value → List (List Value)
lists_of [] values = []
lists_of (n ∷ sizes) values = take n values ∷ lists_of sizes (drop n values)

arrays_are : (sizes : List ℕ) (values : List Value) → arrays_from sizes values ≡ map Items (lists_of sizes values)
arrays_are [] values = refl
arrays_are (n ∷ sizes) values = ap (λ (xs : List Value). Items (take n values) ∷ xs) (arrays_are sizes (drop n values))

record IsCut (fits : Value → Bool) (sizes : List ℕ) (values : List Value) : Type 0 where
  pub lengths : map (λ (xs : List Value). length xs) (lists_of sizes values) ≡ sizes
  pub whole : flat_map (λ xs. xs) (lists_of sizes values) ≡ values
  pub fit : list_all (array_fits fits) (map Items (lists_of sizes values)) ≡ true
  pub many : length (map Items (lists_of sizes values)) ≡ length sizes

items_fit : (fits : Value → Bool) (xs : List Value) → nat_le (length xs) MAX_ELEMENTS ≡ true → list_all fits xs ≡ true → array_fits fits (Items xs) ≡ true
items_fit fits xs few fit = ap (list_at (λ items. nat_le (length items) MAX_ELEMENTS && list_all fits items)) (outs-Items xs) ∙ and_from _ _ few fit

cut_is : (fits : Value → Bool) (sizes : List ℕ) (values : List Value) → sum sizes ≡ length values → list_all (λ n. nat_le n MAX_ELEMENTS) sizes ≡ true → list_all fits values ≡ true → IsCut fits sizes values
cut_is fits [] [] e few fit = record { lengths = refl; whole = refl; fit = refl; many = refl }
cut_is fits [] (v ∷ values) e few fit = absurd (omega arith)
cut_is fits (n ∷ sizes) values e few fit =
    let p = and_parts _ _ few in
    let both_sizes = sum_cons n sizes in
    let here : length (take n values) ≡ n = omega (arith, length-take n values) in
    let left : sum sizes ≡ length (drop n values) = omega (arith, length-drop n values) in
    let both : list_all fits (take n values ++ drop n values) ≡ true = ap (list_all fits) (take-append-drop n values) ∙ fit in
    let parts = and_parts _ _ (sym (list_all-append fits (take n values) (drop n values)) ∙ both) in
    let more = cut_is fits sizes (drop n values) left p.1 parts.1 in
    record {
      lengths = ap (λ (k : ℕ). k ∷ map (λ (xs : List Value). length xs) (lists_of sizes (drop n values))) here ∙ ap (λ (ks : List ℕ). n ∷ ks) more.lengths;
      whole = ap (λ (xs : List Value). take n values ++ xs) more.whole ∙ take-append-drop n values;
      fit = and_from _ _ (items_fit fits (take n values) (ap (λ (k : ℕ). nat_le k MAX_ELEMENTS) here ∙ p.0) parts.0) more.fit;
      many = omega (arith, more.many);
    }

sizes_are : (lists : List (List Value)) → flat_map (to_le_bytes w64) (map (λ (xs : List Value). length xs) lists) ≡ size_bytes lists
sizes_are [] = refl
sizes_are (xs ∷ lists) = ap (λ (bs : List ℕ). to_le_bytes w64 (length xs) ++ bs) (sizes_are lists)

-- back from the arrays
record IsJoined (fits : Value → Bool) (lists : List (List Value)) : Type 0 where
  pub few : list_all (λ n. nat_le n MAX_ELEMENTS) (map (λ (xs : List Value). length xs) lists) ≡ true
  pub fit : list_all fits (flat_map (λ xs. xs) lists) ≡ true
  pub total : sum (map (λ (xs : List Value). length xs) lists) ≡ length (flat_map (λ xs. xs) lists)
  pub cut : lists_of (map (λ (xs : List Value). length xs) lists) (flat_map (λ xs. xs) lists) ≡ lists

joined_is : (fits : Value → Bool) (lists : List (List Value)) → list_all (array_fits fits) (map Items lists) ≡ true → IsJoined fits lists
joined_is fits [] fit = record { few = refl; fit = refl; total = refl; cut = refl }
joined_is fits (xs ∷ lists) fit =
    let p = and_parts _ _ fit in
    let q = and_parts _ _ (sym (ap (list_at (λ items. nat_le (length items) MAX_ELEMENTS && list_all fits items)) (outs-Items xs)) ∙ p.0) in
    let more = joined_is fits lists p.1 in
    let all : List Value = flat_map (λ xs. xs) lists in
    let lens : List ℕ = map (λ (xs : List Value). length xs) lists in
    let sum_more : sum (length xs ∷ lens) ≡ length (xs ++ all) = sum_cons (length xs) lens ∙ ap (λ (k : ℕ). length xs + k) more.total ∙ sym (length-append xs all) in
    record {
      few = and_from _ _ q.0 more.few;
      fit = list_all-append fits xs all ∙ and_from _ _ q.1 more.fit;
      total = sum_more;
      cut = ap (λ (f : List Value). f ∷ lists_of (map (λ (ys : List Value). length ys) lists) (drop (length xs) (xs ++ all))) (take-append_seam xs all)
          ∙ ap (λ (r : List Value). xs ∷ lists_of (map (λ (ys : List Value). length ys) lists) r) (drop-append_seam xs all) ∙ ap (λ (ls : List (List Value)). xs ∷ ls) more.cut;
    }

pub array_exact : (apart : Bool) (inner : Column) (fits : Value → Bool) (encodes : Encoding) (width : ℕ) → IsExactColumn apart inner fits encodes width → IsExactColumn apart (array_from apart inner) (array_fits fits) (EncodesArray encodes) (suc width)
array_exact apart inner fits encodes width exact = record { sound = sound; complete = complete }
  where
    sound : (stream count : ℕ) (streams : List (List ℕ)) (vs : List Value) (more : List (List ℕ)) → AreSmall streams → array_from apart inner stream count streams ≡ Ok (vs, more)
        → (front : List (List ℕ)) × (streams ≡ before_all apart front more) × (length vs ≡ count) × (list_all (array_fits fits) vs ≡ true) × EncodesArray encodes vs front × (length front ≡ suc width)
    sound stream count streams vs more small e =
        ok_then (stream_from apart size_front stream count streams) (λ sizes. (inner (stream + 1) (sum sizes.0) sizes.1 >>= λ elements. Ok (arrays_from sizes.0 elements.0, elements.1))) (vs, more) (sym (array_next apart inner stream count streams) ∙ e) (λ sizes is e.
        ok_then (inner (stream + 1) (sum sizes.0) sizes.1) (λ elements. Ok (arrays_from sizes.0 elements.0, elements.1)) (vs, more) e (λ elements are_elements e.
        let p = ok_pair _ _ _ _ e in
        let values : vs ≡ map Items (lists_of sizes.0 elements.0) = p.0 ∙ arrays_are sizes.0 elements.0 in
        let s = stream_sound apart size_front (λ n. nat_le n MAX_ELEMENTS) (to_le_bytes w64) size_exact stream count streams sizes.0 sizes.1 small is in
        let v = exact.sound (stream + 1) (sum sizes.0) sizes.1 elements.0 elements.1 (small_rest apart (flat_map (to_le_bytes w64) sizes.0) streams sizes.1 s.whole small) are_elements in
        let c = cut_is fits sizes.0 elements.0 (sym v.2) s.fit v.3 in (
          flat_map (to_le_bytes w64) sizes.0 ∷ v.0,
          s.whole ∙ ap (before apart (flat_map (to_le_bytes w64) sizes.0)) (v.1 ∙ ap (before_all apart v.0) (sym p.1)),
          ap (λ (xs : List Value). length xs) values ∙ c.many ∙ s.many,
          ap (λ (xs : List Value). list_all (array_fits fits) xs) values ∙ c.fit,
          (lists_of sizes.0 elements.0, values, ap (flat_map (to_le_bytes w64)) (sym c.lengths) ∙ sizes_are (lists_of sizes.0 elements.0), subst (λ (xs : List Value). encodes xs v.0) (sym c.whole) v.4),
          ap suc v.5,
        )))

    complete : (stream : ℕ) (vs : List Value) (front more : List (List ℕ)) → IsOpen apart more → list_all (array_fits fits) vs ≡ true → EncodesArray encodes vs front
        → array_from apart inner stream (length vs) (before_all apart front more) ≡ Ok (vs, more)
    complete stream vs [] more o fit said = absurd said
    complete stream vs (sizes ∷ front) more o fit (lists, is, bytes, said) =
        let j = joined_is fits lists (ap (list_all (array_fits fits)) (sym is) ∙ fit) in
        let lens : List ℕ = map (λ (xs : List Value). length xs) lists in
        let all : List Value = flat_map (λ xs. xs) lists in
        let many : length lens ≡ length vs = length-map lists (λ (xs : List Value). length xs) ∙ sym (length-map lists Items) ∙ ap (λ (xs : List Value). length xs) (sym is) in
        let first : stream_from apart size_front stream (length vs) (before apart sizes (before_all apart front more)) ≡ Ok (lens, before_all apart front more) =
        ap (λ (n : ℕ). stream_from apart size_front stream n (before apart sizes (before_all apart front more))) (sym many)
        ∙ ap (λ (bs : List ℕ). stream_from apart size_front stream (length lens) (before apart bs (before_all apart front more))) (bytes ∙ sym (sizes_are lists))
        ∙ stream_complete apart size_front (λ n. nat_le n MAX_ELEMENTS) (to_le_bytes w64) size_exact stream lens (before_all apart front more) (open_all apart front more o) j.few in
        let second : inner (stream + 1) (sum lens) (before_all apart front more) ≡ Ok (all, more) = ap (λ (n : ℕ). inner (stream + 1) n (before_all apart front more)) j.total ∙ exact.complete (stream + 1) all front more o j.fit said in
        array_next apart inner stream (length vs) (before apart sizes (before_all apart front more))
        ∙ ap (λ (r : Read (List ℕ × List (List ℕ))). r >>= λ sizes. (inner (stream + 1) (sum sizes.0) sizes.1 >>= λ elements. Ok (arrays_from sizes.0 elements.0, elements.1))) first
        ∙ ap (λ (r : Read (List Value × List (List ℕ))). r >>= λ elements. Ok (arrays_from lens elements.0, elements.1)) second
        ∙ ap (λ (xs : List Value). let r : Read (List Value × List (List ℕ)) = Ok (xs, more) in r) (arrays_are lens all ∙ ap (map Items) j.cut ∙ sym is)
