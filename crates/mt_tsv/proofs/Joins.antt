-- Texts that are written piece by piece.
use Rattle.std.proofs.Common.{◌≡◌, ℕ, zero, suc, ◌+◌, ◌-◌, ◌<◌, ◌≤◌, List, [], ◌∷◌, ◌++◌, length, get_or, take, drop, map, Some, None, slice_range, refl, sym, ap, ◌∙◌, append_assoc, length-drop, arith}
use Rattle.std.specs.List.{join_with_byte}
use Rattle.std.proofs.lemmas.Grind.{flat_map-append}
use Rattle.std.proofs.lemmas.List.{append-nil, take_more, map_more, length-take, length-map, get_or-drop}
use Rattle.mt_types.specs.declared.value.Value.{Value}
use Rattle.mt_table.specs.declared.column.Column.{Column}
use Rattle.mt_tsv.specs.declared.ascii.TheConstants.{BACKSLASH}
use Rattle.mt_tsv.specs.Printing.{separator, byte_text, escaped_text, letter_of, field_text, field_texts}

-- ---- joined by a separator

join-push : (c : ℕ) (x : List ℕ) (xs : List (List ℕ)) (y : List ℕ) → join_with_byte c ((x ∷ xs) ++ y ∷ []) ≡ join_with_byte c (x ∷ xs) ++ (c ∷ y)
join-push c x [] y = refl
join-push c x (z ∷ xs) y = ap (λ (t : List ℕ). x ++ (c ∷ t)) (join-push c z xs y) ∙ sym (append_assoc x (c ∷ join_with_byte c (z ∷ xs)) (c ∷ y))

pub join_one_more : (c : ℕ) (xs : List (List ℕ)) (y : List ℕ) → join_with_byte c (xs ++ y ∷ []) ≡ join_with_byte c xs ++ (separator (length xs) c ++ y)
join_one_more c [] y = refl
join_one_more c (x ∷ xs) y = join-push c x xs y

pub join_more : {X : Type 0} (f : X → List ℕ) (c : ℕ) (xs : List X) (i : ℕ) (x : X) → i < length xs → x ≡ get_or xs i x
    → join_with_byte c (map f (take (i + 1) xs)) ≡ join_with_byte c (map f (take i xs)) ++ (separator i c ++ f x)
join_more {X} f c xs i x lt is =
    let m : map f (take (i + 1) xs) ≡ map f (take i xs) ++ f x ∷ [] = map_more f xs i x lt ∙ ap (λ (y : X). map f (take i xs) ++ f y ∷ []) (sym is) in
    let n : length (map f (take i xs)) ≡ i = (let l = length-map (take i xs) f in omega (arith, l, length-take i xs)) in
    ap (join_with_byte c) m ∙ join_one_more c (map f (take i xs)) (f x) ∙ ap (λ (k : ℕ). join_with_byte c (map f (take i xs)) ++ (separator k c ++ f x)) n

texts_more : (columns : List Column) (row : List Value) (i : ℕ) (column : Column) (value : Value) → i < length columns → i < length row → column ≡ get_or columns i column → value ≡ get_or row i value
    → field_texts (take (suc i) columns) (take (suc i) row) ≡ field_texts (take i columns) (take i row) ++ field_text column.ty value ∷ []
unfolding field_texts
texts_more [] row i column value lt lu is it = absurd (omega arith)
texts_more (c ∷ columns) [] i column value lt lu is it = absurd (omega arith)
texts_more (c ∷ columns) (v ∷ row) zero column value lt lu is it = rw (is, it) refl
texts_more (c ∷ columns) (v ∷ row) (suc i) column value lt lu is it = ap (λ (t : List (List ℕ)). field_text c.ty v ∷ t) (texts_more columns row i column value (omega arith) (omega arith) is it)

pub field_texts_more : (columns : List Column) (row : List Value) (i : ℕ) (column : Column) (value : Value) → i < length columns → i < length row → column ≡ get_or columns i column → value ≡ get_or row i value
    → field_texts (take (i + 1) columns) (take (i + 1) row) ≡ field_texts (take i columns) (take i row) ++ field_text column.ty value ∷ []
field_texts_more columns row i column value lt lu is it =
    let k : i + 1 ≡ suc i = omega arith in
    rw k (texts_more columns row i column value lt lu is it)

-- a loop's step: a separator and a text more
pub appended : (base joined sep text was mid now : List ℕ) → was ≡ base ++ joined → mid ≡ was ++ sep → now ≡ mid ++ text → now ≡ base ++ (joined ++ (sep ++ text))
appended base joined sep text was mid now h e f = f ∙ rw (e, h) (simp append_assoc)

pub length-field_texts : (columns : List Column) (row : List Value) (i : ℕ) → i ≤ length columns → i ≤ length row → length (field_texts (take i columns) (take i row)) ≡ i
unfolding field_texts
length-field_texts columns row zero le lf = refl
length-field_texts [] row (suc i) le lf = absurd (omega arith)
length-field_texts (c ∷ columns) [] (suc i) le lf = absurd (omega arith)
length-field_texts (c ∷ columns) (v ∷ row) (suc i) le lf = ap suc (length-field_texts columns row i (omega arith) (omega arith))

-- ---- texts, by runs without escapes

range_more : (xs : List ℕ) (s i : ℕ) → s ≤ i → i < length xs → slice_range xs s (i + 1) ≡ slice_range xs s i ++ get_or xs i 0 ∷ []
range_more xs s i le lt =
    let k : i + 1 - s ≡ (i - s) + 1 = omega arith in
    let at : s + (i - s) ≡ i = omega arith in
    let b : get_or (drop s xs) (i - s) 0 ≡ get_or xs i 0 = get_or-drop s xs (i - s) 0 ∙ ap (λ (n : ℕ). get_or xs n 0) at in
    rw k (take_more (drop s xs) (i - s) 0 (omega (arith, length-drop s xs)) ∙ ap (λ (y : ℕ). slice_range xs s i ++ y ∷ []) b)

escaped_more : (xs : List ℕ) (i : ℕ) → i < length xs → escaped_text (take (i + 1) xs) ≡ escaped_text (take i xs) ++ byte_text (get_or xs i 0)
escaped_more xs i lt = ap escaped_text (take_more xs i 0 lt) ∙ flat_map-append byte_text (take i xs) (get_or xs i 0 ∷ []) ∙ ap (λ (t : List ℕ). escaped_text (take i xs) ++ t) (append-nil (byte_text (get_or xs i 0)))

pub plain_more : (xs : List ℕ) (s i : ℕ) (out old : List ℕ) → s ≤ i → i < length xs → letter_of (get_or xs i 0) ≡ None → out ++ slice_range xs s i ≡ old ++ escaped_text (take i xs)
    → out ++ slice_range xs s (i + 1) ≡ old ++ escaped_text (take (i + 1) xs)
plain_more xs s i out old le lt none h =
    let b : byte_text (get_or xs i 0) ≡ get_or xs i 0 ∷ [] = rw none refl in
    ap (λ (t : List ℕ). out ++ t) (range_more xs s i le lt) ∙ sym (append_assoc out (slice_range xs s i) (get_or xs i 0 ∷ [])) ∙ ap (λ (t : List ℕ). t ++ get_or xs i 0 ∷ []) h
    ∙ append_assoc old (escaped_text (take i xs)) (get_or xs i 0 ∷ []) ∙ ap (λ (t : List ℕ). old ++ (escaped_text (take i xs) ++ t)) (sym b) ∙ ap (λ (t : List ℕ). old ++ t) (sym (escaped_more xs i lt))

pub letter_more : (xs : List ℕ) (s i : ℕ) (out old : List ℕ) (letter : ℕ) (now : List ℕ) → i < length xs → letter_of (get_or xs i 0) ≡ Some letter → out ++ slice_range xs s i ≡ old ++ escaped_text (take i xs)
    → now ≡ (out ++ slice_range xs s i) ++ (BACKSLASH ∷ letter ∷ []) → now ++ slice_range xs (i + 1) (i + 1) ≡ old ++ escaped_text (take (i + 1) xs)
letter_more xs s i out old letter now lt some h e =
    let b : byte_text (get_or xs i 0) ≡ BACKSLASH ∷ letter ∷ [] = rw some refl in
    let none : i + 1 - (i + 1) ≡ 0 = omega arith in
    let empty : slice_range xs (i + 1) (i + 1) ≡ [] = rw none refl in
    rw empty (append-nil now) ∙ e ∙ ap (λ (t : List ℕ). t ++ (BACKSLASH ∷ letter ∷ [])) h
    ∙ append_assoc old (escaped_text (take i xs)) (BACKSLASH ∷ letter ∷ []) ∙ ap (λ (t : List ℕ). old ++ (escaped_text (take i xs) ++ t)) (sym b) ∙ ap (λ (t : List ℕ). old ++ t) (sym (escaped_more xs i lt))
