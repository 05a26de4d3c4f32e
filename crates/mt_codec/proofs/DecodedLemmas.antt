-- What `decode` and `decode_front` return.
use Rattle.std.proofs.Common.{◌≡◌, ℕ, ◌+◌, ◌-◌, ◌<◌, ◌≤◌, true, get_or, List, [], ◌∷◌, ◌++◌, length, drop, Result, Ok, Err, refl, ap, sym, ◌∙◌, subst, arith, ◌⊎◌, inl, inr, Bor}
use Rattle.std.specs.Prelude.{All}
use Rattle.std.specs.List.{flat_map}
use Rattle.std.proofs.lemmas.List.{get_or_default, get_or-map, length-map}
use Rattle.std.proofs.lemmas.List.Elements.{All-head, All-tail}
use Rattle.mt_defs.specs.Lists.{AreBytes}
use Rattle.mt_item.proofs.ExactLemmas.{small_of}
use Rattle.mt_codec.proofs.ExactLemmas.{AreSmall}
use Rattle.std.proofs.lemmas.List.{length-append, length-drop}
use Rattle.std.proofs.Math.Seq.{drop-append_seam}
use Rattle.mt_types.specs.declared.ty.Ty.{Ty}
use Rattle.mt_types.specs.declared.value.Value.{Value}
use Rattle.mt_types.specs.Profile.{is_profile}
use Rattle.mt_types.specs.Steps.{◌>>=◌}
use Rattle.mt_types.proofs.StepLemmas.{ok_pair, ok_one}
use Rattle.mt_item.proofs.LengthLemmas.{Small}
use Rattle.mt_codec.specs.declared.fault.CodecError.{CodecError}
use Rattle.mt_codec.specs.declared.fault.CodecError.TheVariants.{At, NoMemory}
use Rattle.mt_codec.specs.ColumnReading.{Read, front_reading}
use Rattle.mt_codec.specs.Results.{CodecFailsAs, bytes_of, GivesSubstreams, GivesFront, AreFirstValues, Returns}
use Rattle.mt_item.specs.declared.fault.CodecWhy.TheVariants.{Over}
use Rattle.mt_codec.proofs.NotOverLemmas.{front_not_over}
use Rattle.mt_codec.proofs.TypeLemmas.{front_encodes, encoded_front}

-- an error stays one
pub fails_on : {A B : Type 0} (e : CodecError) (r : Read A) (f : A → Read B) → CodecFailsAs e r → CodecFailsAs e (r >>= f)
fails_on {A} (At s i why) r f fails = ap (λ (q : Read A). q >>= f) fails
fails_on NoMemory r f fails = tt

ok_not : {A Z : Type 0} (r : Read A) (x : A) (fault : _) → r ≡ Ok x → r ≡ Err fault → Z
ok_not r x fault e f = cc

-- what is read is what is returned
pub returns_read : {A : Type 0} (reading : Read A) (found : A) (result : Result A CodecError) → GivesSubstreams result reading → reading ≡ Ok found → Returns found result
returns_read reading found (Ok x) gives is = ok_one found x (sym is ∙ gives)
returns_read reading found (Err (At s i why)) gives is = ok_not reading found (s, (i, why)) is gives
returns_read reading found (Err NoMemory) gives is = tt

-- the place after some bytes at the start
rest_at : (front rest bytes : List ℕ) → bytes ≡ front ++ rest → (length bytes - length rest ≡ length front) × (drop (length bytes - length rest) bytes ≡ rest)
rest_at front rest bytes is =
    let used : length bytes - length rest ≡ length front = omega (arith, ap (λ (b : List ℕ). length b) is, length-append front rest) in
    (used, ap (λ (n : ℕ). drop n bytes) used ∙ ap (drop (length front)) is ∙ drop-append_seam front rest)

-- the values at the start of the bytes, and how many bytes they take
pub front_found : (t : Ty) → is_profile t ≡ true → (rows : ℕ) (bytes : List ℕ) (values : List Value) (rest : List ℕ) → Small bytes → front_reading t rows bytes ≡ Ok (values, rest)
    → (length rest ≤ length bytes) × (drop (length bytes - length rest) bytes ≡ rest) × AreFirstValues t rows bytes values (length bytes - length rest)
front_found t profile rows bytes values rest small read =
    let f = front_encodes t profile rows bytes values rest small read in
    let all : List ℕ = flat_map (λ s. s) f.0 in
    let place = rest_at all rest bytes f.1 in (
      omega (arith, ap (λ (b : List ℕ). length b) f.1, length-append all rest),
      place.1,
      (f.2, (f.0, f.3, place.0, f.1 ∙ ap (λ (r : List ℕ). all ++ r) (sym place.1))),
    )

-- bytes that begin with the values are read as them
pub front_read : (t : Ty) → is_profile t ≡ true → (rows : ℕ) (bytes : List ℕ) (values : List Value) (used : ℕ) → AreFirstValues t rows bytes values used → (used ≤ length bytes) × (front_reading t rows bytes ≡ Ok (values, drop used bytes))
front_read t profile rows bytes values used (many, (streams, encodes, size, is)) = (
  omega (arith, size, ap (λ (b : List ℕ). length b) is, length-append (flat_map (λ s. s) streams) (drop used bytes)),
  encoded_front t profile rows bytes values streams (drop used bytes) many encodes is,
)

same_place : (m n : ℕ) (bytes : List ℕ) → m ≤ length bytes → n ≤ length bytes → drop m bytes ≡ drop n bytes → m ≡ n
same_place m n bytes few few' same = omega (arith, few, few', ap (λ (b : List ℕ). length b) same, length-drop m bytes, length-drop n bytes)

-- what is read is what is returned
pub returns_front : (bytes : List ℕ) (reading : Read (List Value × List ℕ)) (values : List Value) (used : ℕ) (result : Result (List Value × ℕ) CodecError) → GivesFront bytes result reading → used ≤ length bytes → reading ≡ Ok (values, drop used bytes) → Returns (values, used) result
returns_front bytes reading values used (Ok (found, place)) gives few is =
    let p = ok_pair values found (drop used bytes) (drop place bytes) (sym is ∙ gives.1) in
    let q = same_place place used bytes gives.0 few p.1 in
    rw (p.0, q) refl
returns_front bytes reading values used (Err (At s i why)) gives few is = ok_not reading (values, drop used bytes) (s, (i, why)) is gives
returns_front bytes reading values used (Err NoMemory) gives few is = tt

-- ---- lists of bytes

pub all_bytes : (streams : List (List ℕ)) (i : ℕ) → length streams ≤ i → ((k j : ℕ) → k < i → get_or (get_or streams k []) j 0 < 256) → All AreBytes streams
all_bytes streams i done are k d less j e inside =
    let row : get_or streams k d ≡ get_or streams k [] = get_or_default streams k d [] less in
    let inside' : j < length (get_or streams k []) = subst (λ (r : List ℕ). j < length r) row inside in
    let here : get_or (get_or streams k []) j 0 < 256 = are k j (omega (arith, less, done)) in
    subst (λ (r : List ℕ). get_or r j e < 256) (sym row) (subst (λ (n : ℕ). n < 256) (sym (get_or_default (get_or streams k []) j e 0 inside')) here)

pub small_lists : (streams : List (List ℕ)) → All AreBytes streams → AreSmall streams
small_lists [] are = tt
small_lists (bytes ∷ streams) are = (small_of bytes (All-head AreBytes bytes streams are), small_lists streams (All-tail AreBytes bytes streams are))

pub all_small : (bytes : List ℕ) → ((j : ℕ) → get_or bytes j 0 < 256) → AreBytes bytes
all_small bytes small j e inside = subst (λ (n : ℕ). n < 256) (sym (get_or_default bytes j e 0 inside)) (small j)

-- one list more
pub one_list : (streams : List (List ℕ)) (i : ℕ) (d bytes : List ℕ) → i < length streams → d ≡ get_or streams i d → bytes ≡ d → AreBytes bytes → ((k j : ℕ) → k < i → get_or (get_or streams k []) j 0 < 256) → (k j : ℕ) → k < i + 1 → get_or (get_or streams k []) j 0 < 256
one_list streams i d bytes inside is same small are k j less = elim (before_or k i less) [
  | inl below ↦ are k j below
  | inr here ↦ subst (λ (n : ℕ). get_or (get_or streams n []) j 0 < 256) (sym here) (subst (λ (b : List ℕ). get_or b j 0 < 256) (same ∙ is ∙ get_or_default streams i d [] inside) (small_of bytes small j))
]
  where
    before_or : (k i : ℕ) → k < i + 1 → (k < i) ⊎ (k ≡ i)
    before_or k i less = grind (arith, less)

-- some bytes begin with the values in one way
pub unique_front : (t : Ty) (rows : ℕ) (bytes : List ℕ) (values values' : List Value) (used used' : ℕ) → is_profile t ≡ true → AreFirstValues t rows bytes values used → AreFirstValues t rows bytes values' used' → (values ≡ values') × (used ≡ used')
unique_front t rows bytes values values' used used' profile first second =
    let r = front_read t profile rows bytes values used first in
    let s = front_read t profile rows bytes values' used' second in
    let p = ok_pair values' values (drop used' bytes) (drop used bytes) (sym s.1 ∙ r.1) in
    (p.0, same_place used used' bytes r.0 s.0 p.1)

-- no fault of substreams that follow each other is that bytes are left
pub never_over : (t : Ty) → is_profile t ≡ true → (rows : ℕ) (bytes : List ℕ) (result : Result (List Value × ℕ) CodecError) → GivesFront bytes result (front_reading t rows bytes) → (stream item : ℕ) → result ≡ Err (At stream item Over) → ⊥
never_over t profile rows bytes (Ok found) gives stream item is = cc
never_over t profile rows bytes (Err NoMemory) gives stream item is = cc
never_over t profile rows bytes (Err (At s i why)) gives stream item is =
    let same : why ≡ Over = cc in
    front_not_over t rows bytes s i why profile gives same

-- the same of slices, whose bytes these are
pub one_slice : (slices : List (Bor (List ℕ))) (i : ℕ) (d : Bor (List ℕ)) → i < length slices → d ≡ get_or slices i d → AreBytes d.now → ((k j : ℕ) → k < i → get_or (get_or (bytes_of slices) k []) j 0 < 256)
    → (k j : ℕ) → k < i + 1 → get_or (get_or (bytes_of slices) k []) j 0 < 256
one_slice slices i d inside is small are =
    one_list (bytes_of slices) i d.now d.now (omega (arith, length-map slices (λ (s : Bor (List ℕ)). s.now))) (ap (λ (s : Bor (List ℕ)). s.now) is ∙ sym (get_or-map (λ (s : Bor (List ℕ)). s.now) slices i d d.now inside)) refl small are

pub all_slices : (slices : List (Bor (List ℕ))) (i : ℕ) → length slices ≤ i → ((k j : ℕ) → k < i → get_or (get_or (bytes_of slices) k []) j 0 < 256) → All AreBytes (bytes_of slices)
all_slices slices i done are = all_bytes (bytes_of slices) i (omega (arith, length-map slices (λ (s : Bor (List ℕ)). s.now))) are
