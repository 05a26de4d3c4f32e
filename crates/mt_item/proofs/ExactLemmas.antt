-- Reading is exact: what is read is what the bytes begin with, and what they begin with is read.
use Rattle.std.proofs.Common.{◌≡◌, ℕ, zero, suc, ◌<◌, ◌≤◌, Bool, true, List, [], ◌∷◌, ◌++◌, length, take, drop, Option, Some, None, Result, Ok, Err, refl, ap, sym, ◌∙◌, subst, arith, lit<, append_assoc}
use Rattle.std.specs.Prelude.{◌==◌, ◌&&◌, ◌^◌, ℤ, nat_le, nat_lt, if◌then◌else◌}
use Rattle.std.specs.List.{list_all}
use Rattle.std.specs.Borrow.{Bor}
use Rattle.std.proofs.lemmas.Bool.{and_from, and_parts, leb-true, le-leb, lt-leb, eqb-true, eq-eqb, lt-ltb, ltb-true}
use Rattle.std.proofs.lemmas.List.{length-append, length-take, take-append-drop}
use Rattle.std.proofs.Math.Seq.{take-append_seam, drop-append_seam}
use Rattle.std.proofs.lemmas.List.Elements.{All-head, All-tail}
use Rattle.mt_defs.specs.Lists.{AreBytes}
use Rattle.mt_types.specs.declared.limits.TheConstants.{MAX_TEXT}
use Rattle.mt_types.specs.Bytes.{is_byte}
use Rattle.mt_types.specs.declared.ty.Ty.{Ty}
use Rattle.mt_types.specs.declared.value.Value.{Value}
use Rattle.mt_types.specs.Fits.{fits_of}
use Rattle.mt_types.specs.Items.{item_bytes}
use Rattle.mt_types.specs.Leb128.{leb128}
use Rattle.mt_types.specs.Steps.{◌>>=◌, require}
use Rattle.mt_types.proofs.StepLemmas.{ok_then, ok_pair, required, passed}
use Rattle.mt_item.specs.declared.fault.CodecWhy.{CodecWhy}
use Rattle.mt_item.specs.declared.fault.CodecWhy.TheVariants.{Short, Length, HasByte, TooLong}
use Rattle.mt_item.specs.declared.fault.ItemError.{ItemError}
use Rattle.mt_item.specs.declared.fault.ItemError.TheVariants.{Bad, NoMemory}
use Rattle.mt_item.specs.ItemReading.{First, read_as, bytes_front, leb128_front, text_front, held_front}
use Rattle.mt_item.specs.Results.{GivesItem, GivesFirstItem}
use Rattle.mt_item.proofs.LengthLemmas.{Small, IsLength, whole, cut, wrong, length_is, length_complete}

-- one value is read exactly where its item stands at the start
pub record IsExact {A : Type 0} (read : List ℕ → First A) (fits : A → Bool) (item : A → List ℕ) : Type 0 where
  pub sound : (bytes : List ℕ) (v : A) (rest : List ℕ) → Small bytes → read bytes ≡ Ok (v, rest) → (fits v ≡ true) × (bytes ≡ item v ++ rest)
  pub complete : (v : A) (rest : List ℕ) → fits v ≡ true → read (item v ++ rest) ≡ Ok (v, rest)

-- ---- what an exact reader gives is the first item

pub ok_other : {A Z : Type 0} (x : A) (why : CodecWhy) → (let r : Result A CodecWhy = Ok x in r) ≡ Err why → Z
ok_other x why e = cc

pub some_pair : {A : Type 0} (a b : A) (x y : List ℕ) → a ≡ b → x ≡ y → (let o : Option (A × List ℕ) = Some (a, x) in o) ≡ Some (b, y)
some_pair a b x y e f = rw (e, f) refl

pub first_item : (t : Ty) (read : List ℕ → First Value) → IsExact read (fits_of t) (item_bytes t) → (bytes : List ℕ) → Small bytes → (result : Result (Value × Bor (List ℕ)) ItemError)
    → GivesItem result (read bytes) → GivesFirstItem t bytes result
first_item t read exact bytes small (Ok (value, rest)) reads = record {
  found = exact.sound bytes value rest.now small reads;
  only = λ v more fits e.
      let p = ok_pair v value more rest.now (sym (ap read e ∙ exact.complete v more fits) ∙ reads) in
      some_pair value v rest.now more p.0 p.1;
}
first_item t read exact bytes small (Err (Bad why)) reads = record {
  found = tt;
  only = λ v more fits e. ok_other (v, more) why (sym (ap read e ∙ exact.complete v more fits) ∙ reads);
}
first_item t read exact bytes small (Err NoMemory) reads = tt

-- ---- what is read as another thing

-- the values of a type are made of those of another, which have the same items
pub record IsImage {A B : Type 0} (f : A → B) (fits : A → Bool) (item : A → List ℕ) (fits' : B → Bool) (item' : B → List ℕ) : Type 0 where
  pub values : (v : B) → fits' v ≡ true → (a : A) × (v ≡ f a) × (fits a ≡ true)
  pub fit : (a : A) → fits a ≡ true → fits' (f a) ≡ true
  pub items : (a : A) → fits a ≡ true → item' (f a) ≡ item a

pub as_exact : {A B : Type 0} (f : A → B) (read : List ℕ → First A) (fits : A → Bool) (item : A → List ℕ) (fits' : B → Bool) (item' : B → List ℕ)
    → IsImage f fits item fits' item' → IsExact read fits item → IsExact (λ bytes. read_as f (read bytes)) fits' item'
as_exact {A} {B} f read fits item fits' item' image exact = record {
  sound = λ bytes v rest small e.
      ok_then (read bytes) (λ first. Ok (f first.0, first.1)) (v, rest) e (λ first is e.
      let p = ok_pair _ _ _ _ e in
      let s = exact.sound bytes first.0 first.1 small is in
      (ap fits' p.0 ∙ image.fit first.0 s.0, s.1 ∙ ap (λ (bs : List ℕ). bs ++ first.1) (sym (image.items first.0 s.0)) ∙ ap (λ (x : B). item' x ++ first.1) (sym p.0) ∙ ap (λ (bs : List ℕ). item' v ++ bs) (sym p.1)));
  complete = λ v rest fit.
      let u = image.values v fit in
      let same = ap read (ap (λ (x : B). item' x ++ rest) u.1 ∙ ap (λ (bs : List ℕ). bs ++ rest) (image.items u.0 u.2)) in
      ap (read_as f) (same ∙ exact.complete u.0 rest u.2) ∙ ap (λ (x : B). let r : First B = Ok (x, rest) in r) (sym u.1);
}

-- reading as one thing and then as another is one step
pub read_twice : {A B C : Type 0} (f : B → C) (g : A → B) (read : First A) → read_as f (read_as g read) ≡ read_as (λ x. f (g x)) read
read_twice f g (Ok first) = refl
read_twice f g (Err why) = refl

-- a reader that reads the same is exact too
pub reads_alike : {A : Type 0} (read read' : List ℕ → First A) (fits : A → Bool) (item : A → List ℕ) → ((bytes : List ℕ) → read bytes ≡ read' bytes) → IsExact read' fits item → IsExact read fits item
reads_alike {A} read read' fits item same exact = record {
  sound = λ bytes v rest small e. exact.sound bytes v rest small (sym (same bytes) ∙ e);
  complete = λ v rest fit. same (item v ++ rest) ∙ exact.complete v rest fit;
}

-- ---- runs of bytes

pub small_taken : (n : ℕ) (bytes : List ℕ) → Small bytes → Small (take n bytes)
small_taken zero bytes small i = lit< tt
small_taken (suc n) [] small i = lit< tt
small_taken (suc n) (byte ∷ bytes) small zero = small 0
small_taken (suc n) (byte ∷ bytes) small (suc i) = small_taken n bytes (λ k. small (suc k)) i

pub small_front : (front rest : List ℕ) → Small (front ++ rest) → Small front
small_front [] rest small i = lit< tt
small_front (b ∷ front) rest small zero = small 0
small_front (b ∷ front) rest small (suc i) = small_front front rest (λ k. small (suc k)) i

pub small_back : (front rest : List ℕ) → Small (front ++ rest) → Small rest
small_back [] rest small = small
small_back (b ∷ front) rest small = small_back front rest (λ k. small (suc k))

pub small_test : (bytes : List ℕ) → Small bytes → list_all is_byte bytes ≡ true
small_test [] small = refl
small_test (b ∷ bytes) small = and_from (is_byte b) (list_all is_byte bytes) (lt-ltb b 256 (small 0)) (small_test bytes (λ k. small (suc k)))

-- a text that is read of bytes is of bytes
pub of_bytes : (read : List ℕ → First (List ℕ)) (test : List ℕ → Bool) (item : List ℕ → List ℕ) → ((text : List ℕ) → Small (item text) → Small text) → IsExact read test item → IsExact read (λ text. test text && list_all is_byte text) item
of_bytes read test item inside exact = record {
  sound = λ bytes text rest small e.
      let s = exact.sound bytes text rest small e in
      (and_from (test text) (list_all is_byte text) s.0 (small_test text (inside text (small_front (item text) rest (subst Small s.1 small)))), s.1);
  complete = λ text rest fits. exact.complete text rest (and_parts (test text) (list_all is_byte text) fits).0;
}

-- there are so many bytes
pub bytes_read : (count : ℕ) (bytes text rest : List ℕ) → count ≤ length bytes → text ≡ take count bytes → rest ≡ drop count bytes → bytes_front count bytes ≡ Ok (text, rest)
bytes_read count bytes text rest long front back = rw (front, back) (passed (nat_le count (length bytes)) Short (λ _. Ok (take count bytes, drop count bytes)) (le-leb count (length bytes) long))

-- there are fewer
pub bytes_short : (count : ℕ) (bytes : List ℕ) → length bytes < count → bytes_front count bytes ≡ Err Short
bytes_short count bytes short = ap (λ (b : Bool). require b Short >>= λ _. Ok (take count bytes, drop count bytes)) (lt-leb count (length bytes) short)

-- what was read of so many bytes
bytes_sound : (count : ℕ) (bytes text rest : List ℕ) → bytes_front count bytes ≡ Ok (text, rest) → (count ≤ length bytes) × (text ≡ take count bytes) × (rest ≡ drop count bytes)
bytes_sound count bytes text rest e =
    required (nat_le count (length bytes)) Short (λ _. Ok (take count bytes, drop count bytes)) (text, rest) e (λ long e.
    let p = ok_pair _ _ _ _ e in
    (leb-true count (length bytes) long, p.0, p.1))

pub bytes_exact : (count : ℕ) → IsExact (bytes_front count) (λ text. length text == count) (λ text. text)
bytes_exact count = record {
  sound = λ bytes text rest small e.
      let s = bytes_sound count bytes text rest e in (
        eq-eqb (length text) count (omega (arith, ap length s.1, length-take count bytes, s.0)),
        sym (take-append-drop count bytes) ∙ ap (λ (bs : List ℕ). bs ++ drop count bytes) (sym s.1) ∙ ap (λ (bs : List ℕ). text ++ bs) (sym s.2),
      );
  complete = λ text rest fits.
      let long : length text ≡ count = eqb-true (length text) count fits in
      bytes_read count (text ++ rest) text rest (omega (arith, long, length-append text rest))
      (sym (take-append_seam text rest) ∙ ap (λ (n : ℕ). take n (text ++ rest)) long)
      (sym (drop-append_seam text rest) ∙ ap (λ (n : ℕ). drop n (text ++ rest)) long);
}

-- ---- texts

pub length_exact : IsExact leb128_front (λ n. nat_lt n (2 ^ 64)) leb128
length_exact = record {
  sound = λ bytes n rest small e. at_length bytes n rest e (length_is bytes small);
  complete = λ n rest fits. length_complete n rest (ltb-true n (2 ^ 64) fits);
}
  where
    at_length : (bytes : List ℕ) (n : ℕ) (rest : List ℕ) → leb128_front bytes ≡ Ok (n, rest) → IsLength (2 ^ 64) bytes (leb128_front bytes) → (nat_lt n (2 ^ 64) ≡ true) × (bytes ≡ leb128 n ++ rest)
    at_length bytes n rest e (whole m more is few same) =
        let p = ok_pair m n more rest (sym is ∙ e) in
        (ap (λ (k : ℕ). nat_lt k (2 ^ 64)) p.0 ∙ lt-ltb m (2 ^ 64) few, same ∙ ap (λ (k : ℕ). leb128 k ++ more) (sym p.0) ∙ ap (λ (bs : List ℕ). leb128 n ++ bs) (sym p.1))
    at_length bytes n rest e (cut m more is few some same) = ok_other (n, rest) Short (sym e ∙ is)
    at_length bytes n rest e (wrong is) = ok_other (n, rest) Length (sym e ∙ is)

text_next : (bytes : List ℕ) → text_front bytes ≡ (leb128_front bytes >>= λ size. (require (nat_le size.0 MAX_TEXT) TooLong >>= λ _. bytes_front size.0 size.1))
unfolding text_front
text_next bytes = refl

-- its length is wrong
pub text_wrong : (bytes : List ℕ) (why : CodecWhy) → leb128_front bytes ≡ Err why → text_front bytes ≡ Err why
text_wrong bytes why is = text_next bytes ∙ ap (λ (r : First ℕ). r >>= λ size. (require (nat_le size.0 MAX_TEXT) TooLong >>= λ _. bytes_front size.0 size.1)) is

-- it is too long
pub text_long : (bytes : List ℕ) (size : ℕ) (rest : List ℕ) → leb128_front bytes ≡ Ok (size, rest) → MAX_TEXT < size → text_front bytes ≡ Err TooLong
text_long bytes size rest is more =
    text_next bytes ∙ ap (λ (r : First ℕ). r >>= λ size. (require (nat_le size.0 MAX_TEXT) TooLong >>= λ _. bytes_front size.0 size.1)) is
    ∙ ap (λ (b : Bool). require b TooLong >>= λ _. bytes_front size rest) (lt-leb size MAX_TEXT more)

-- its bytes decide
pub text_rest : (bytes : List ℕ) (size : ℕ) (rest : List ℕ) → leb128_front bytes ≡ Ok (size, rest) → size ≤ MAX_TEXT → text_front bytes ≡ bytes_front size rest
text_rest bytes size rest is few =
    text_next bytes ∙ ap (λ (r : First ℕ). r >>= λ size. (require (nat_le size.0 MAX_TEXT) TooLong >>= λ _. bytes_front size.0 size.1)) is
    ∙ passed (nat_le size MAX_TEXT) TooLong (λ _. bytes_front size rest) (le-leb size MAX_TEXT few)

pub text_exact : IsExact text_front (λ text. nat_le (length text) MAX_TEXT) (λ text. leb128 (length text) ++ text)
text_exact = record { sound = sound; complete = complete }
  where
    sound : (bytes text rest : List ℕ) → Small bytes → text_front bytes ≡ Ok (text, rest) → (nat_le (length text) MAX_TEXT ≡ true) × (bytes ≡ (leb128 (length text) ++ text) ++ rest)
    sound bytes text rest small e =
        ok_then (leb128_front bytes) (λ size. (require (nat_le size.0 MAX_TEXT) TooLong >>= λ _. bytes_front size.0 size.1)) (text, rest) (sym (text_next bytes) ∙ e) (λ size is e.
        required (nat_le size.0 MAX_TEXT) TooLong (λ _. bytes_front size.0 size.1) (text, rest) e (λ few e.
        let s = bytes_sound size.0 size.1 text rest e in
        let long : length text ≡ size.0 = omega (arith, ap length s.1, length-take size.0 size.1, s.0) in
        let all : size.1 ≡ text ++ rest = sym (take-append-drop size.0 size.1) ∙ ap (λ (bs : List ℕ). bs ++ drop size.0 size.1) (sym s.1) ∙ ap (λ (bs : List ℕ). text ++ bs) (sym s.2) in (
          ap (λ (n : ℕ). nat_le n MAX_TEXT) long ∙ few,
          (length_exact.sound bytes size.0 size.1 small is).1 ∙ ap (λ (n : ℕ). leb128 n ++ size.1) (sym long) ∙ ap (λ (bs : List ℕ). leb128 (length text) ++ bs) all ∙ sym (append_assoc (leb128 (length text)) text rest),
        )))

    complete : (text rest : List ℕ) → nat_le (length text) MAX_TEXT ≡ true → text_front ((leb128 (length text) ++ text) ++ rest) ≡ Ok (text, rest)
    complete text rest fits =
        let few : length text ≤ MAX_TEXT = leb-true (length text) MAX_TEXT fits in
        let most : MAX_TEXT < 2 ^ 64 = lit< tt in
        ap text_front (append_assoc (leb128 (length text)) text rest)
        ∙ text_rest (leb128 (length text) ++ (text ++ rest)) (length text) (text ++ rest) (length_complete (length text) (text ++ rest) (omega (arith, few, most))) few
        ∙ (bytes_exact (length text)).complete text rest (eq-eqb (length text) (length text) refl)

-- ---- what min and max have gathered

pub held_none : (number : List ℕ → First ℤ) → held_front number [] ≡ Err Short
unfolding held_front
held_none number = refl

pub held_nothing : (number : List ℕ → First ℤ) (rest : List ℕ) → held_front number (0 ∷ rest) ≡ Ok (None, rest)
unfolding held_front
held_nothing number rest = refl

pub held_some : (number : List ℕ → First ℤ) (rest : List ℕ) → held_front number (1 ∷ rest) ≡ read_as (λ n. Some n) (number rest)
unfolding held_front
held_some number rest = refl

pub held_bad : (number : List ℕ → First ℤ) (byte : ℕ) (rest : List ℕ) → 1 < byte → held_front number (byte ∷ rest) ≡ Err HasByte
unfolding held_front
held_bad number byte rest more = ap (λ (b : Bool). require b HasByte >>= λ _. (if byte == 0 then Ok (None, rest) else read_as (λ n. Some n) (number rest))) (lt-leb byte 1 more)

-- a test and an item of what min and max have gathered, by those of a number
abbrev pub held_fits : (ℤ → Bool) → Option ℤ → Bool
held_fits fits None = true
held_fits fits (Some n) = fits n

abbrev pub held_item : (ℤ → List ℕ) → Option ℤ → List ℕ
held_item item None = 0 ∷ []
held_item item (Some n) = 1 ∷ item n

pub held_exact : (number : List ℕ → First ℤ) (fits : ℤ → Bool) (item : ℤ → List ℕ) → IsExact number fits item → IsExact (held_front number) (held_fits fits) (held_item item)
held_exact number fits item exact = record { sound = sound; complete = complete }
  where
    some_sound : (bytes : List ℕ) (v : Option ℤ) (rest : List ℕ) → Small bytes → read_as (λ n. Some n) (number bytes) ≡ Ok (v, rest) → (held_fits fits v ≡ true) × (1 ∷ bytes ≡ held_item item v ++ rest)
    some_sound bytes v rest small e =
        ok_then (number bytes) (λ first. Ok (Some first.0, first.1)) (v, rest) e (λ first is e.
        let p = ok_pair _ _ _ _ e in
        let s = exact.sound bytes first.0 first.1 small is in
        (ap (held_fits fits) p.0 ∙ s.0, ap (λ (bs : List ℕ). 1 ∷ bs) s.1 ∙ ap (λ (x : Option ℤ). held_item item x ++ first.1) (sym p.0) ∙ ap (λ (bs : List ℕ). held_item item v ++ bs) (sym p.1)))

    sound : (bytes : List ℕ) (v : Option ℤ) (rest : List ℕ) → Small bytes → held_front number bytes ≡ Ok (v, rest) → (held_fits fits v ≡ true) × (bytes ≡ held_item item v ++ rest)
    sound [] v rest small e = ok_other (v, rest) Short (sym e ∙ held_none number)
    sound (zero ∷ bytes) v rest small e =
        let p = ok_pair None v bytes rest (sym (held_nothing number bytes) ∙ e) in
        (ap (held_fits fits) p.0, ap (λ (bs : List ℕ). 0 ∷ bs) (sym p.1) ∙ ap (λ (x : Option ℤ). held_item item x ++ rest) (sym p.0))
    sound (suc zero ∷ bytes) v rest small e = some_sound bytes v rest (λ i. small (suc i)) (sym (held_some number bytes) ∙ e)
    sound (suc (suc byte) ∷ bytes) v rest small e = ok_other (v, rest) HasByte (sym e ∙ held_bad number (suc (suc byte)) bytes (omega arith))

    complete : (v : Option ℤ) (rest : List ℕ) → held_fits fits v ≡ true → held_front number (held_item item v ++ rest) ≡ Ok (v, rest)
    complete None rest e = held_nothing number rest
    complete (Some n) rest e = held_some number (item n ++ rest) ∙ ap (read_as (λ n. Some n)) (exact.complete n rest e)

-- numbers that are bytes
pub small_of : (bytes : List ℕ) → AreBytes bytes → Small bytes
small_of [] are i = lit< tt
small_of (byte ∷ bytes) are zero = All-head (λ byte. byte < 256) byte bytes are
small_of (byte ∷ bytes) are (suc i) = small_of bytes (All-tail (λ byte. byte < 256) byte bytes are) i
