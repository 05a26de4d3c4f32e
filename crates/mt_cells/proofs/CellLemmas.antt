-- What items of one size stand for.
use Rattle.std.proofs.Common.{◌≡◌, ℕ, zero, suc, ◌+◌, ◌-◌, ◌*◌, ◌<◌, ◌≤◌, List, [], ◌∷◌, ◌++◌, length, get_or, take, drop, map, replicate, refl, ap, ap₂, sym, ◌∙◌, subst, arith, length-append, length-drop}
use Rattle.std.specs.Prelude.{◌↔◌}
use Rattle.std.specs.List.{flat_map, All}
use Rattle.std.proofs.lemmas.List.Elements.{All-head, All-tail, All-weaker}
use Rattle.std.proofs.Math.Nat.{mul-le-mul_right}
use Rattle.std.proofs.lemmas.List.{map-append, length-map, get_or-map, take-map, drop-map, take_all, length-take-le, take-append-drop, length-replicate}
use Rattle.mt_types.specs.declared.value.Value.{Value}
use Rattle.mt_types.specs.declared.value.Value.TheVariants.{Null}
use Rattle.mt_types.specs.Defaults.{default_of}
use Rattle.mt_types.specs.Items.{item_bytes}
use Rattle.mt_cells.specs.declared.kind.Kind.{Kind}
use Rattle.mt_cells.specs.Kinds.{Typed, chunks, size_of, type_of, value_of, values_of}
use Rattle.mt_cells.proofs.Chunks.{length-chunks, chunks_at, chunks-append, chunks-drop, chunks-take}
use Rattle.mt_item.proofs.LengthLemmas.{Small}
use Rattle.mt_item.proofs.ExactLemmas.{small_taken}
use Rattle.mt_cells.proofs.NumberLemmas.{IsItemOf, small_drop, item_back, only_zeros_are, zeros_are}

-- ---- places

-- the bytes up to an item's end
pub within_items : (i count size : ℕ) → i ≤ count → i * size ≤ count * size
within_items i count size h = mul-le-mul_right size h

-- an item lies within the bytes
pub item_within : (i count size : ℕ) → i < count → i * size + size ≤ count * size
item_within i count size h = let m : suc i * size ≤ count * size = mul-le-mul_right size h in omega (arith, m)

-- a difference of places
pub minus_times : (from to size : ℕ) → from ≤ to → to * size - from * size ≡ (to - from) * size
minus_times from to size order =
    let split : to ≡ (to - from) + from = omega (arith, order) in
    let sum : ((to - from) + from) * size ≡ (to - from) * size + from * size = omega arith in
    let whole : to * size ≡ (to - from) * size + from * size = ap (λ (n : ℕ). n * size) split ∙ sum in
    omega (arith, whole)

-- ---- the values

pub length-values_of : (k : Kind) (count : ℕ) (bytes : List ℕ) → length (values_of k count bytes) ≡ count
length-values_of k count bytes = length-map (chunks (size_of k) count bytes) (value_of k) ∙ length-chunks (size_of k) count bytes

pub values_of_none : (k : Kind) (bytes : List ℕ) → values_of k 0 bytes ≡ []
unfolding chunks
values_of_none k bytes = refl

pub values_of_one : (k : Kind) (bytes : List ℕ) → length bytes ≡ size_of k → values_of k 1 bytes ≡ value_of k (take (size_of k) bytes) ∷ []
unfolding chunks
values_of_one k bytes e = refl

pub values_of_at : (k : Kind) (count i : ℕ) (bytes : List ℕ) (d : Value) → i < count → get_or (values_of k count bytes) i d ≡ value_of k (take (size_of k) (drop (i * size_of k) bytes))
values_of_at k count i bytes d h =
    let long = length-chunks (size_of k) count bytes in
    let there : i < length (chunks (size_of k) count bytes) = omega (arith, h, long) in
    get_or-map (value_of k) (chunks (size_of k) count bytes) i [] d there ∙ ap (value_of k) (chunks_at (size_of k) count i bytes [] h)

pub values_of-append : (k : Kind) (m n : ℕ) (a b : List ℕ) → length a ≡ m * size_of k → values_of k (m + n) (a ++ b) ≡ values_of k m a ++ values_of k n b
values_of-append k m n a b h = ap (map (value_of k)) (chunks-append (size_of k) m n a b h) ∙ map-append (value_of k) (chunks (size_of k) m a) (chunks (size_of k) n b)

-- so many from an index on
pub values_of-slice : (k : Kind) (from n count : ℕ) (bytes : List ℕ) → from + n ≤ count
    → take n (drop from (values_of k count bytes)) ≡ values_of k n (take (n * size_of k) (drop (from * size_of k) bytes))
values_of-slice k from n count bytes h =
    let size = size_of k in
    let left = count - (from + n) in
    let split : count ≡ from + (n + left) = omega (arith, h) in
    ap (take n) (drop-map (value_of k) from (chunks size count bytes))
    ∙ take-map (value_of k) n (drop from (chunks size count bytes))
    ∙ ap (map (value_of k)) (ap (λ (c : ℕ). take n (drop from (chunks size c bytes))) split ∙ ap (take n) (chunks-drop size from (n + left) bytes) ∙ chunks-take size n left (drop (from * size) bytes))

-- the items of the values are the bytes
pub items_back : (k : Kind) (n : ℕ) (bytes : List ℕ) → length bytes ≡ n * size_of k → Small bytes → flat_map (item_bytes (type_of k)) (values_of k n bytes) ≡ bytes
unfolding chunks
items_back k zero [] h small = refl
items_back k zero (b ∷ bytes) h small = absurd (omega (arith, h))
items_back k (suc n) bytes h small =
    let size = size_of k in
    let long : size ≤ length bytes = omega (arith, h) in
    let left : length (drop size bytes) ≡ n * size = omega (arith, h, length-drop size bytes) in
    ap₂ ◌++◌ (item_back k (take size bytes) (length-take-le size bytes long) (small_taken size bytes small)) (items_back k n (drop size bytes) left (small_drop size bytes small))
    ∙ take-append-drop size bytes

-- ---- one step of each call

-- items appended
pub record IsGrown (k : Kind) (total m n : ℕ) (out a b : List ℕ) : Type 0 where
  pub long : length out ≡ total * size_of k
  pub values : values_of k total out ≡ values_of k m a ++ values_of k n b

pub grown : (k : Kind) (total m n : ℕ) (out a b : List ℕ) → total ≡ m + n → out ≡ a ++ b → length a ≡ m * size_of k → length b ≡ n * size_of k → IsGrown k total m n out a b
grown k total m n out a b is_total is_out long_a long_b =
    let sum : length (a ++ b) ≡ (m + n) * size_of k = omega (arith, length-append a b, long_a, long_b) in
    record {
      long = ap (λ (bs : List ℕ). length bs) is_out ∙ sum ∙ ap (λ (c : ℕ). c * size_of k) (sym is_total);
      values = ap (values_of k total) is_out ∙ ap (λ (c : ℕ). values_of k c (a ++ b)) is_total ∙ values_of-append k m n a b long_a;
    }

-- items gathered
pub record IsGathered (k : Kind) (count : ℕ) (bytes order out : List ℕ) : Type 0 where
  pub long : length out ≡ length order * size_of k
  pub values : values_of k (length order) out ≡ map (λ i. get_or (values_of k count bytes) i Null) order

-- the items of some indexes
abbrev pub items_at : (size : ℕ) → (bytes order : List ℕ) → List ℕ
items_at size bytes order = flat_map (λ i. take size (drop (i * size) bytes)) order

pub item_long : (size count i : ℕ) (bytes : List ℕ) → length bytes ≡ count * size → i < count → length (take size (drop (i * size) bytes)) ≡ size
item_long size count i bytes long h = length-take-le size (drop (i * size) bytes) (omega (arith, length-drop (i * size) bytes, long, item_within i count size h))

pub gathered : (k : Kind) (count : ℕ) (bytes order : List ℕ) → length bytes ≡ count * size_of k → All (λ i. i < count) order → IsGathered k count bytes order (items_at (size_of k) bytes order)
unfolding chunks
gathered k count bytes [] long all = record { long = omega arith; values = refl }
gathered k count bytes (i ∷ order) long all =
    let size = size_of k in
    let here : i < count = All-head (λ i. i < count) i order all in
    let rest = gathered k count bytes order long (All-tail (λ i. i < count) i order all) in
    let item = take size (drop (i * size) bytes) in
    let one : length item ≡ size = item_long size count i bytes long here in
    let single : length item ≡ 1 * size = omega (arith, one) in
    let more : suc (length order) ≡ 1 + length order = omega arith in
    let whole : take size item ≡ item = take_all size item (omega (arith, one)) in
    record {
      long = omega (arith, length-append item (items_at size bytes order), one, rest.long);
      values =
          ap (λ (n : ℕ). values_of k n (item ++ items_at size bytes order)) more
          ∙ values_of-append k 1 (length order) item (items_at size bytes order) single
          ∙ ap₂ (λ (v : Value) (vs : List Value). v ∷ vs) (ap (value_of k) whole ∙ sym (values_of_at k count i bytes Null here)) rest.values;
    }

-- ---- items as they are seen

-- bytes that are seen as some items
pub record Holds (k : Kind) (count : ℕ) (bytes : List ℕ) (t : Typed) : Type 0 where
  pub long : length bytes ≡ count * size_of k
  pub kind : k ≡ t.kind
  pub values : values_of k count bytes ≡ t.values

pub holds : (k : Kind) (count : ℕ) (bytes : List ℕ) (t : Typed) → length bytes ≡ count * size_of k → (let seen : Typed = record { kind = k; values = values_of k count bytes } in seen) ≡ t → Holds k count bytes t
holds k count bytes t long is = record { long = long; kind = ap (λ (t : Typed). t.kind) is; values = ap (λ (t : Typed). t.values) is }

module _ (k : Kind) (count : ℕ) (bytes : List ℕ) (t : Typed) (h : Holds k count bytes t) where
  pub count_is : count ≡ length t.values
  count_is = sym (length-values_of k count bytes) ∙ ap (λ (vs : List Value). length vs) h.values

  pub size_is : size_of t.kind ≡ size_of k
  size_is = ap size_of (sym h.kind)

  pub appended : (total n : ℕ) (out more : List ℕ) → total ≡ count + n → out ≡ bytes ++ more → length more ≡ n * size_of t.kind
      → (length out ≡ total * size_of k) × (values_of k total out ≡ t.values ++ values_of t.kind n more)
  appended total n out more is_total is_out long =
      let g = grown k total count n out bytes more is_total is_out h.long (long ∙ ap (λ (s : ℕ). n * s) size_is) in
      (g.long, g.values ∙ ap₂ ◌++◌ h.values (ap (λ (k : Kind). values_of k n more) h.kind))

  -- where an item lies
  pub at_within : (i size : ℕ) → size ≡ size_of k → i < length t.values → i * size + size ≤ length bytes
  at_within i size e i_in =
      let inside : i < count = omega (arith, i_in, count_is) in
      let r = item_within i count (size_of k) inside in
      subst (λ (s : ℕ). i * s + s ≤ length bytes) (sym e) (omega (arith, r, h.long))

  pub at_long : (i size : ℕ) (item : List ℕ) → size ≡ size_of k → i < length t.values → item ≡ take size (drop (i * size) bytes) → length item ≡ size_of k
  at_long i size item e i_in is =
      ap (λ (bs : List ℕ). length bs) is ∙ ap (λ (s : ℕ). length (take s (drop (i * s) bytes))) e ∙ item_long (size_of k) count i bytes h.long (omega (arith, i_in, count_is))

  pub at_value : (i size : ℕ) (item : List ℕ) → size ≡ size_of k → i < length t.values → item ≡ take size (drop (i * size) bytes) → value_of k item ≡ get_or t.values i Null
  at_value i size item e i_in is =
      ap (value_of k) (is ∙ ap (λ (s : ℕ). take s (drop (i * s) bytes)) e) ∙ sym (values_of_at k count i bytes Null (omega (arith, i_in, count_is))) ∙ ap (λ (vs : List Value). get_or vs i Null) h.values

  -- where items lie
  pub to_within : (to size : ℕ) → size ≡ size_of k → to ≤ length t.values → to * size ≤ length bytes
  to_within to size e to_in =
      let r = within_items to count (size_of k) (omega (arith, to_in, count_is)) in
      subst (λ (s : ℕ). to * s ≤ length bytes) (sym e) (omega (arith, r, h.long))

  between : (from to size : ℕ) → from ≤ to → (to - from) * size + from * size ≡ to * size
  between from to size order = let split : to ≡ (to - from) + from = omega (arith, order) in sym (ap (λ (n : ℕ). n * size) split ∙ (let e : ((to - from) + from) * size ≡ (to - from) * size + from * size = omega arith in e))

  pub slice_long : (from to size : ℕ) (out : List ℕ) → size ≡ size_of k → from ≤ to → to ≤ length t.values → out ≡ take ((to - from) * size) (drop (from * size) bytes) → length out ≡ (to - from) * size_of t.kind
  slice_long from to size out e order to_in is =
      let b = between from to size order in
      let r = to_within to size e to_in in
      ap (λ (bs : List ℕ). length bs) is ∙ length-take-le ((to - from) * size) (drop (from * size) bytes) (omega (arith, length-drop (from * size) bytes, b, r))
      ∙ ap (λ (s : ℕ). (to - from) * s) (e ∙ sym size_is)

  pub slice_read : (from to size : ℕ) (out : List ℕ) → size ≡ size_of k → from ≤ to → to ≤ length t.values → out ≡ take ((to - from) * size) (drop (from * size) bytes) → values_of t.kind (to - from) out ≡ take (to - from) (drop from t.values)
  slice_read from to size out e order to_in is =
      ap (λ (k : Kind). values_of k (to - from) out) (sym h.kind)
      ∙ ap (values_of k (to - from)) (is ∙ ap (λ (s : ℕ). take ((to - from) * s) (drop (from * s) bytes)) e)
      ∙ sym (values_of-slice k from (to - from) count bytes (omega (arith, order, to_in, count_is)))
      ∙ ap (λ (vs : List Value). take (to - from) (drop from vs)) h.values

  pub slice_written : (from to size : ℕ) (out : List ℕ) → Small out → size ≡ size_of k → from ≤ to → to ≤ length t.values → out ≡ take ((to - from) * size) (drop (from * size) bytes)
      → out ≡ flat_map (item_bytes (type_of t.kind)) (take (to - from) (drop from t.values))
  slice_written from to size out small e order to_in is =
      sym (items_back t.kind (to - from) out (slice_long from to size out e order to_in is) small)
      ∙ ap (flat_map (item_bytes (type_of t.kind))) (slice_read from to size out e order to_in is)

  -- items gathered
  pub all_within : (order : List ℕ) (size : ℕ) → size ≡ size_of k → All (λ i. i < length t.values) order → All (λ i. i * size + size ≤ length bytes) order
  all_within order size e all = All-weaker (λ i. i < length t.values) (λ i. i * size + size ≤ length bytes) (λ i. at_within i size e) order all

  pub gathers : (order : List ℕ) (size : ℕ) (out : List ℕ) → size ≡ size_of k → All (λ i. i < length t.values) order → out ≡ items_at size bytes order
      → (length out ≡ length order * size_of k) × (values_of k (length order) out ≡ map (λ i. get_or t.values i Null) order)
  gathers order size out e all is =
      let bounded = All-weaker (λ i. i < length t.values) (λ i. i < count) (λ i (p : i < length t.values). (let q : i < count = omega (arith, p, count_is) in q)) order all in
      let g = gathered k count bytes order h.long bounded in
      let same : out ≡ items_at (size_of k) bytes order = is ∙ ap (λ (s : ℕ). items_at s bytes order) e in (
        ap (λ (bs : List ℕ). length bs) same ∙ g.long,
        ap (values_of k (length order)) same ∙ g.values ∙ ap (λ (vs : List Value). map (λ i. get_or vs i Null) order) h.values,
      )

-- an item of a value, as so many bytes
pub one_item : (k : Kind) (v : Value) (item : List ℕ) → IsItemOf k v item → (length item ≡ 1 * size_of k) × (values_of k 1 item ≡ v ∷ [])
one_item k v item is = (
  (let one : size_of k ≡ 1 * size_of k = omega arith in is.long ∙ one),
  values_of_one k item is.long ∙ ap (λ (bs : List ℕ). value_of k bs ∷ []) (take_all (size_of k) item (omega (arith, is.long))) ∙ ap (λ (w : Value). w ∷ []) is.value,
)

-- ---- the default

module _ (k : Kind) (count : ℕ) (bytes : List ℕ) (t : Typed) (h : Holds k count bytes t) where
  -- an item is zeros where its value is the default
  pub default_bytes : (i size : ℕ) (item : List ℕ) → size ≡ size_of k → i < length t.values → item ≡ take size (drop (i * size) bytes) → Small item
      → (item ≡ replicate (length item) 0) ↔ (get_or t.values i Null ≡ default_of (type_of t.kind))
  default_bytes i size item e i_in is small =
      let long = at_long k count bytes t h i size item e i_in is in
      let value = at_value k count bytes t h i size item e i_in is in
      let default : default_of (type_of k) ≡ default_of (type_of t.kind) = ap (λ (k : Kind). default_of (type_of k)) h.kind in
      let zeros : replicate (length item) 0 ≡ replicate (size_of k) 0 = ap (λ (n : ℕ). replicate n 0) long in (
        (λ z. sym value ∙ ap (value_of k) (z ∙ zeros) ∙ zeros_are k ∙ default),
        (λ d. only_zeros_are k item long small (value ∙ d ∙ sym default) ∙ sym zeros),
      )

  -- zeros behind
  pub default_behind : (total len end : ℕ) (out : List ℕ) → total ≡ count + 1 → len ≡ length bytes → end ≡ len + size_of k → out ≡ take end bytes ++ replicate (end - len) 0
      → values_of k total out ≡ t.values ++ default_of (type_of t.kind) ∷ []
  default_behind total len end out is_total is_len is_end is =
      let size = size_of t.kind in
      let zeros : List ℕ = replicate size 0 in
      let room : end - len ≡ size = omega (arith, is_end, ap size_of h.kind) in
      let whole : length bytes ≤ end = omega (arith, is_end, is_len) in
      let item = one_item t.kind (default_of (type_of t.kind)) zeros (record { long = length-replicate size 0; value = zeros_are t.kind }) in
      (appended k count bytes t h total 1 out zeros is_total (is ∙ ap₂ ◌++◌ (take_all end bytes whole) (ap (λ (n : ℕ). replicate n 0) room)) item.0).1
      ∙ ap (λ (vs : List Value). t.values ++ vs) item.1
