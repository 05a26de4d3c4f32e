-- One substream, and what follows it.
use Rattle.std.proofs.Common.{◌≡◌, ◌≢◌, ℕ, ◌<◌, ◌≤◌, Bool, true, false, List, [], ◌∷◌, Result, Ok, Err, refl, ap, sym, ◌∙◌}
use Rattle.std.specs.Prelude.{nat_le}
use Rattle.std.specs.Int.{w64}
use Rattle.std.proofs.lemmas.Bool.{le-leb, lt-leb}
use Rattle.mt_types.specs.declared.limits.TheConstants.{MAX_ELEMENTS}
use Rattle.mt_types.specs.Steps.{◌>>=◌, require, at}
use Rattle.mt_item.specs.declared.fault.CodecWhy.{CodecWhy}
use Rattle.mt_item.specs.declared.fault.CodecWhy.TheVariants.{Short, Over, NullByte, TooLong}
use Rattle.mt_item.specs.ItemReading.{First, whole_front}
use Rattle.mt_codec.specs.declared.fault.CodecError.{CodecError}
use Rattle.mt_codec.specs.declared.fault.CodecError.TheVariants.{At, NoMemory}
use Rattle.mt_codec.specs.Results.{CodecFailsAs}
use Rattle.mt_codec.specs.ColumnReading.{Read, items_from, after_items, stream_from, null_front, size_front}

-- ---- items that are not values

pub null_none : null_front [] ≡ Err Short
unfolding null_front
null_none = refl

pub null_read : (byte : ℕ) (rest : List ℕ) → byte ≤ 1 → null_front (byte ∷ rest) ≡ Ok (byte, rest)
unfolding null_front
null_read byte rest small = ap (λ (b : Bool). require b NullByte >>= λ _. Ok (byte, rest)) (le-leb byte 1 small)

pub null_wrong : (byte : ℕ) (rest : List ℕ) → 1 < byte → null_front (byte ∷ rest) ≡ Err NullByte
unfolding null_front
null_wrong byte rest more = ap (λ (b : Bool). require b NullByte >>= λ _. Ok (byte, rest)) (lt-leb byte 1 more)

pub size_next : (bytes : List ℕ) → size_front bytes ≡ (whole_front w64 bytes >>= λ size. (require (nat_le size.0 MAX_ELEMENTS) TooLong >>= λ _. Ok size))
unfolding size_front
size_next bytes = refl

pub size_short : (bytes : List ℕ) (why : CodecWhy) → whole_front w64 bytes ≡ Err why → size_front bytes ≡ Err why
size_short bytes why is = size_next bytes ∙ ap (λ (r : First ℕ). r >>= λ size. (require (nat_le size.0 MAX_ELEMENTS) TooLong >>= λ _. Ok size)) is

pub size_read : (bytes : List ℕ) (size : ℕ) (rest : List ℕ) → whole_front w64 bytes ≡ Ok (size, rest) → size ≤ MAX_ELEMENTS → size_front bytes ≡ Ok (size, rest)
size_read bytes size rest is few =
    size_next bytes ∙ ap (λ (r : First ℕ). r >>= λ size. (require (nat_le size.0 MAX_ELEMENTS) TooLong >>= λ _. Ok size)) is
    ∙ ap (λ (b : Bool). require b TooLong >>= λ _. Ok (size, rest)) (le-leb size MAX_ELEMENTS few)

pub size_long : (bytes : List ℕ) (size : ℕ) (rest : List ℕ) → whole_front w64 bytes ≡ Ok (size, rest) → MAX_ELEMENTS < size → size_front bytes ≡ Err TooLong
size_long bytes size rest is more =
    size_next bytes ∙ ap (λ (r : First ℕ). r >>= λ size. (require (nat_le size.0 MAX_ELEMENTS) TooLong >>= λ _. Ok size)) is
    ∙ ap (λ (b : Bool). require b TooLong >>= λ _. Ok (size, rest)) (lt-leb size MAX_ELEMENTS more)

-- ---- what follows the items

pub after_none : (stream count : ℕ) (rest : List ℕ) (others : List (List ℕ)) → rest ≡ [] → after_items true stream count rest others ≡ Ok others
unfolding after_items
after_none stream count rest others none = rw none refl

pub after_over : (stream count : ℕ) (rest : List ℕ) (others : List (List ℕ)) → rest ≢ [] → after_items true stream count rest others ≡ Err (stream, (count, Over))
unfolding after_items
after_over stream count [] others some = absurd (some refl)
after_over stream count (byte ∷ rest) others some = refl

pub after_joined : (stream count : ℕ) (rest : List ℕ) (others : List (List ℕ)) → after_items false stream count rest others ≡ Ok (rest ∷ others)
unfolding after_items
after_joined stream count rest others = refl

-- ---- a substream

pub stream_none : {A : Type 0} (apart : Bool) (front : List ℕ → First A) (stream count : ℕ) → stream_from apart front stream count [] ≡ Err (stream, (0, Short))
unfolding stream_from
stream_none apart front stream count = refl

pub stream_next : {A : Type 0} (apart : Bool) (front : List ℕ → First A) (stream count : ℕ) (bytes : List ℕ) (others : List (List ℕ))
    → stream_from apart front stream count (bytes ∷ others) ≡ (at stream (items_from front 0 count bytes) >>= λ read. (after_items apart stream count read.1 others >>= λ left. Ok (read.0, left)))
unfolding stream_from
stream_next apart front stream count bytes others = refl

-- there is none
pub stream_missing : {A : Type 0} (apart : Bool) (front : List ℕ → First A) (stream count : ℕ) (streams : List (List ℕ)) → streams ≡ [] → stream_from apart front stream count streams ≡ Err (stream, (0, Short))
stream_missing apart front stream count streams none = ap (stream_from apart front stream count) none ∙ stream_none apart front stream count

-- an item is wrong
pub stream_wrong : {A : Type 0} (apart : Bool) (front : List ℕ → First A) (stream count : ℕ) (streams : List (List ℕ)) (bytes : List ℕ) (others : List (List ℕ)) (fault : ℕ × (ℕ × CodecWhy))
    → streams ≡ bytes ∷ others → at stream (items_from front 0 count bytes) ≡ Err fault → stream_from apart front stream count streams ≡ Err fault
stream_wrong {A} apart front stream count streams bytes others fault is wrong =
    ap (stream_from apart front stream count) is ∙ stream_next apart front stream count bytes others
    ∙ ap (λ (r : Read (List A × List ℕ)). r >>= λ read. (after_items apart stream count read.1 others >>= λ left. Ok (read.0, left))) wrong

-- bytes are left
pub stream_over : {A : Type 0} (apart : Bool) (front : List ℕ → First A) (stream count : ℕ) (streams : List (List ℕ)) (bytes : List ℕ) (others : List (List ℕ)) (items : List A) (rest : List ℕ) (fault : ℕ × (ℕ × CodecWhy))
    → streams ≡ bytes ∷ others → at stream (items_from front 0 count bytes) ≡ Ok (items, rest) → after_items apart stream count rest others ≡ Err fault → stream_from apart front stream count streams ≡ Err fault
stream_over {A} apart front stream count streams bytes others items rest fault is read wrong =
    ap (stream_from apart front stream count) is ∙ stream_next apart front stream count bytes others
    ∙ ap (λ (r : Read (List A × List ℕ)). r >>= λ read. (after_items apart stream count read.1 others >>= λ left. Ok (read.0, left))) read
    ∙ ap (λ (r : Read (List (List ℕ))). r >>= λ left. Ok (items, left)) wrong

-- all is well
pub stream_read : {A : Type 0} (apart : Bool) (front : List ℕ → First A) (stream count : ℕ) (streams : List (List ℕ)) (bytes : List ℕ) (others : List (List ℕ)) (items : List A) (rest : List ℕ) (left : List (List ℕ))
    → streams ≡ bytes ∷ others → at stream (items_from front 0 count bytes) ≡ Ok (items, rest) → after_items apart stream count rest others ≡ Ok left → stream_from apart front stream count streams ≡ Ok (items, left)
stream_read {A} apart front stream count streams bytes others items rest left is read after =
    ap (stream_from apart front stream count) is ∙ stream_next apart front stream count bytes others
    ∙ ap (λ (r : Read (List A × List ℕ)). r >>= λ read. (after_items apart stream count read.1 others >>= λ left. Ok (read.0, left))) read
    ∙ ap (λ (r : Read (List (List ℕ))). r >>= λ left. Ok (items, left)) after

-- ---- the same of an error

pub items_fail : {A : Type 0} (apart : Bool) (front : List ℕ → First A) (stream count : ℕ) (streams : List (List ℕ)) (bytes : List ℕ) (others : List (List ℕ)) (e : CodecError)
    → streams ≡ bytes ∷ others → CodecFailsAs e (at stream (items_from front 0 count bytes)) → CodecFailsAs e (stream_from apart front stream count streams)
items_fail apart front stream count streams bytes others (At s i why) is fails = stream_wrong apart front stream count streams bytes others (s, (i, why)) is fails
items_fail apart front stream count streams bytes others NoMemory is fails = tt

pub after_fails : {A : Type 0} (apart : Bool) (front : List ℕ → First A) (stream count size : ℕ) (streams : List (List ℕ)) (bytes : List ℕ) (others : List (List ℕ)) (items : List A) (rest : List ℕ) (e : CodecError)
    → streams ≡ bytes ∷ others → at stream (items_from front 0 count bytes) ≡ Ok (items, rest) → size ≡ count → CodecFailsAs e (after_items apart stream size rest others) → CodecFailsAs e (stream_from apart front stream count streams)
after_fails apart front stream count size streams bytes others items rest (At s i why) is read same fails =
    stream_over apart front stream count streams bytes others items rest (s, (i, why)) is read (ap (λ (n : ℕ). after_items apart stream n rest others) (sym same) ∙ fails)
after_fails apart front stream count size streams bytes others items rest NoMemory is read same fails = tt

-- the substream is read, and these substreams are left
pub all_read : {A : Type 0} (apart : Bool) (front : List ℕ → First A) (stream count size : ℕ) (streams : List (List ℕ)) (bytes : List ℕ) (others : List (List ℕ)) (items : List A) (rest : List ℕ) (left : List (List ℕ))
    → streams ≡ bytes ∷ others → at stream (items_from front 0 count bytes) ≡ Ok (items, rest) → size ≡ count → after_items apart stream size rest others ≡ Ok left → stream_from apart front stream count streams ≡ Ok (items, left)
all_read apart front stream count size streams bytes others items rest left is read same after =
    stream_read apart front stream count streams bytes others items rest left is read (ap (λ (n : ℕ). after_items apart stream n rest others) (sym same) ∙ after)

-- an item's fault, as that of its substream
pub at_fault : {A : Type 0} (stream item : ℕ) (why : CodecWhy) (r : Result A (ℕ × CodecWhy)) → r ≡ Err (item, why) → at stream r ≡ Err (stream, (item, why))
at_fault {A} stream item why r is = ap (λ (q : Result A (ℕ × CodecWhy)). at stream q) is

pub at_found : {A : Type 0} (stream : ℕ) (x : A) (r : Result A (ℕ × CodecWhy)) → r ≡ Ok x → at stream r ≡ Ok x
at_found {A} stream x r is = ap (λ (q : Result A (ℕ × CodecWhy)). at stream q) is
