-- What is read of bytes is of bytes: the pieces of a text, and a text without its escapes.
use Rattle.std.proofs.Common.{◌≡◌, ◌⊎◌, inl, inr, ℕ, ◌-◌, List, [], ◌∷◌, ◌++◌, length, map, drop, Result, Ok, Err, Option, Some, None, All, Bool, true, false, cond, refl, sym, ap, subst, eqb}
use Rattle.std.specs.Prelude.{nat_le, replicate, if◌then◌else◌}
use Rattle.std.specs.List.{list_all, onto_first, slice_split}
use Rattle.std.proofs.lemmas.Bool.{and_from}
use Rattle.std.proofs.lemmas.List.Elements.{All-nil, All-cons, All-head, All-tail, All-append, All-take, All-drop, All-replicate}
use Rattle.mt_types.specs.Bytes.{is_byte}
use Rattle.mt_types.specs.Steps.{onto}
use Rattle.mt_types.proofs.StepLemmas.{both_true}
use Rattle.mt_tsv.specs.declared.ascii.TheConstants.{BACKSLASH}
use Rattle.mt_tsv.specs.declared.nesting.Nesting.{Nesting}
use Rattle.mt_tsv.specs.declared.nesting.Nesting.TheVariants.{Outside}
use Rattle.mt_tsv.specs.declared.fault.RowWhy.{RowWhy}
use Rattle.mt_tsv.specs.declared.fault.RowWhy.TheVariants.{TooLong, List as BadList}
use Rattle.mt_tsv.specs.Arrays.{elements_after, have_quotes, is_bracketed, is_space, level_of, middle, trimmed, unless_blank}
use Rattle.mt_tsv.specs.Nesting.{nesting_after, elements_from, is_comma, is_matched}
use Rattle.mt_tsv.specs.Texts.{bounded_text, escaped_byte, must_have, padded_text, text_after_backslash, text_of}
use Rattle.mt_tsv.proofs.RowLimits.{then_ok, passed, onto_ok}

-- a byte
abbrev IsByte : ℕ → Type 0
IsByte b = is_byte b ≡ true

-- a text of bytes
abbrev pub AreBytes : List ℕ → Type 0
AreBytes = All IsByte

pub from_test : (text : List ℕ) → list_all is_byte text ≡ true → AreBytes text
from_test [] e = All-nil IsByte
from_test (b ∷ text) e =
    let both = both_true (is_byte b) (list_all is_byte text) e in
    All-cons IsByte b text both.0 (from_test text both.1)

pub to_test : (text : List ℕ) → AreBytes text → list_all is_byte text ≡ true
to_test [] are = refl
to_test (b ∷ text) are = and_from (is_byte b) (list_all is_byte text) (All-head IsByte b text are) (to_test text (All-tail IsByte b text are))

-- ---- pieces

-- a byte more at the front of the first piece
onto_bytes : (b : ℕ) (parts : List (List ℕ)) → IsByte b → All AreBytes parts → All AreBytes (onto_first b parts)
onto_bytes b [] is are = All-cons AreBytes (b ∷ []) [] (All-cons IsByte b [] is (All-nil IsByte)) (All-nil AreBytes)
onto_bytes b (part ∷ parts) is are = All-cons AreBytes (b ∷ part) parts (All-cons IsByte b part is (All-head AreBytes part parts are)) (All-tail AreBytes part parts are)

-- a piece more, or a byte more
piece_bytes : (test : Bool) (b : ℕ) (others parts : List (List ℕ)) → IsByte b → All AreBytes others → All AreBytes parts → All AreBytes (cond test ([] ∷ others) (onto_first b parts))
piece_bytes true b others parts is are also = All-cons AreBytes [] others (All-nil IsByte) are
piece_bytes false b others parts is are also = onto_bytes b parts is also

-- lines and fields
pub split_bytes : (test : ℕ → Bool) (text : List ℕ) → AreBytes text → All AreBytes (slice_split test text)
split_bytes test [] are = All-cons AreBytes [] [] (All-nil IsByte) (All-nil AreBytes)
split_bytes test (b ∷ text) are =
    let rest = split_bytes test text (All-tail IsByte b text are) in
    piece_bytes (test b) b (slice_split test text) (slice_split test text) (All-head IsByte b text are) rest rest

elements_bytes : (nesting : Nesting) (text : List ℕ) → AreBytes text → All AreBytes (elements_from nesting text)
unfolding elements_from
elements_bytes nesting [] are = All-cons AreBytes [] [] (All-nil IsByte) (All-nil AreBytes)
elements_bytes nesting (b ∷ text) are =
    let rest = All-tail IsByte b text are in
    piece_bytes (is_comma nesting b) b (elements_from (Outside 0) text) (elements_from (nesting_after nesting b) text) (All-head IsByte b text are) (elements_bytes (Outside 0) text rest) (elements_bytes (nesting_after nesting b) text rest)

-- what stands between quotes or brackets
pub middle_bytes : (text : List ℕ) → AreBytes text → AreBytes (middle text)
middle_bytes text are = All-take IsByte _ (drop 1 text) (All-drop IsByte 1 text are)

trimmed_bytes : (texts : List (List ℕ)) → All AreBytes texts → All AreBytes (map trimmed texts)
trimmed_bytes [] are = All-nil AreBytes
trimmed_bytes (text ∷ texts) are =
    All-cons AreBytes (trimmed text) (map trimmed texts) (All-take IsByte _ (drop _ text) (All-drop IsByte _ text (All-head AreBytes text texts are))) (trimmed_bytes texts (All-tail AreBytes text texts are))

after_bytes : (content : List ℕ) (blank : Bool) → list_all is_space content ≡ blank → AreBytes content → All AreBytes (elements_after (unless_blank content))
after_bytes content true is are = let none : elements_after (unless_blank content) ≡ [] = rw is refl in subst (All AreBytes) (sym none) (All-nil AreBytes)
after_bytes content false is are =
    let some : elements_after (unless_blank content) ≡ map trimmed (elements_from (Outside 0) content) = rw is refl in
    subst (All AreBytes) (sym some) (trimmed_bytes (elements_from (Outside 0) content) (elements_bytes (Outside 0) content are))

-- the elements of an array
pub level_bytes : (in_quotes : Bool) (text : List ℕ) (texts : List (List ℕ)) → AreBytes text → level_of in_quotes text ≡ Ok texts → All AreBytes texts
unfolding level_of
level_bytes in_quotes text texts are e =
    let found = elements_after (unless_blank (middle text)) in
    let last : Result (List (List ℕ)) RowWhy = Ok found in
    let first = passed (is_bracketed text) BadList _ texts e in
    let second = passed (is_matched (middle text)) BadList _ texts first.1 in
    let third = passed (have_quotes in_quotes found) BadList last texts second.1 in
    let same : found ≡ texts = let is : last ≡ Ok texts = third.1 in ok_is found texts is in
    subst (All AreBytes) same (after_bytes (middle text) (list_all is_space (middle text)) refl (middle_bytes text are))
  where
    ok_is : (a b : List (List ℕ)) → (let r : Result (List (List ℕ)) RowWhy = Ok a in r) ≡ Ok b → a ≡ b
    ok_is a b e = cc

-- ---- escapes

-- what a letter stands for, or what another does
one_of : (test : Bool) (n : ℕ) (more : Option ℕ) (b : ℕ) → IsByte n → ((b : ℕ) → more ≡ Some b → IsByte b) → (if test then Some n else more) ≡ Some b → IsByte b
one_of true n more b is others e = let same : n ≡ b = cc in subst IsByte same is
one_of false n more b is others e = others b e

escaped_is_byte : (c b : ℕ) → escaped_byte c ≡ Some b → IsByte b
escaped_is_byte c b =
    one_of (eqb c 98) 8 _ b refl (λ b. one_of (eqb c 102) 12 _ b refl (λ b. one_of (eqb c 114) 13 _ b refl (λ b. one_of (eqb c 110) 10 _ b refl
    (λ b. one_of (eqb c 116) 9 _ b refl (λ b. one_of (eqb c 48) 0 _ b refl (λ b. one_of (eqb c 39) 39 _ b refl (λ b. one_of (eqb c 92) 92 None b refl (λ b e. cc))))))))

must_be : (o : Option ℕ) (b : ℕ) → must_have o ≡ Ok b → o ≡ Some b
must_be (Some x) b e = let same : x ≡ b = cc in ap Some same
must_be None b e = cc

either : {A E : Type 0} (test : Bool) (x y : Result A E) (out : A) → (if test then x else y) ≡ Ok out → (x ≡ Ok out) ⊎ (y ≡ Ok out)
either true x y out e = inl e
either false x y out e = inr e

text_bytes : (field out : List ℕ) → AreBytes field → text_of field ≡ Ok out → AreBytes out
unfolding text_of text_after_backslash
text_bytes [] out are e = let none : [] ≡ out = cc in subst AreBytes none (All-nil IsByte)
text_bytes (b ∷ []) out are e =
    elim (either (eqb b BACKSLASH) (text_after_backslash []) (onto b (text_of [])) out e) [
      | inl bad ↦ absurd (let never : Err _ ≡ Ok out = bad in cc)
      | inr read ↦ let one : b ∷ [] ≡ out = cc in subst AreBytes one are
    ]
text_bytes (b ∷ letter ∷ rest) out are e =
    let others = All-tail IsByte b (letter ∷ rest) are in
    elim (either (eqb b BACKSLASH) (text_after_backslash (letter ∷ rest)) (onto b (text_of (letter ∷ rest))) out e) [
      | inl escape ↦
          let found = then_ok (must_have (escaped_byte letter)) (λ b. onto b (text_of rest)) out escape in
          let more = onto_ok found.0 (text_of rest) out found.2 in
          let is = escaped_is_byte letter found.0 (must_be (escaped_byte letter) found.0 found.1) in
          subst AreBytes (sym more.2) (All-cons IsByte found.0 more.0 is (text_bytes rest more.0 (All-tail IsByte letter rest others) more.1))
      | inr read ↦
          let more = onto_ok b (text_of (letter ∷ rest)) out read in
          subst AreBytes (sym more.2) (All-cons IsByte b more.0 (All-head IsByte b (letter ∷ rest) are) (text_bytes (letter ∷ rest) more.0 others more.1))
    ]

-- a text within its limit
pub bounded_bytes : (most : ℕ) (field out : List ℕ) → AreBytes field → bounded_text most field ≡ Ok out → AreBytes out
unfolding bounded_text
bounded_bytes most field out are e =
    let read = then_ok (text_of field) _ out e in
    let short = passed (nat_le (length read.0) most) TooLong (Ok read.0) out read.2 in
    let same : read.0 ≡ out = let is : Ok read.0 ≡ Ok out = short.1 in cc in
    subst AreBytes same (text_bytes field read.0 are read.1)

-- a text with zeros at its end
pub padded_bytes : (size : ℕ) (field out : List ℕ) → AreBytes field → padded_text size field ≡ Ok out → AreBytes out
unfolding padded_text
padded_bytes size field out are e =
    let read = then_ok (bounded_text size field) _ out e in
    let same : read.0 ++ replicate (size - length read.0) 0 ≡ out = let is : Ok (read.0 ++ replicate (size - length read.0) 0) ≡ Ok out = read.2 in cc in
    subst AreBytes same (All-append IsByte read.0 (replicate (size - length read.0) 0) (bounded_bytes size field read.0 are read.1) (All-replicate IsByte (size - length read.0) 0 refl))
