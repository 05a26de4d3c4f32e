-- What is read of a field of bytes is a value of the column's type.
use Rattle.std.proofs.Common.{◌≡◌, ℕ, ◌-◌, ℤ, pos, ◌^◌, List, [], ◌∷◌, ◌++◌, length, Result, Ok, Err, Option, Some, None, All, Bool, true, false, refl, sym, ap, ◌∙◌, subst, arith, eqb, ltb, leb}
use Rattle.std.specs.Prelude.{replicate, negsuc, if◌then◌else◌}
use Rattle.std.specs.List.{list_all}
use Rattle.std.proofs.lemmas.List.Elements.{All-head, All-tail}
use Rattle.std.proofs.lemmas.Bool.{and_from, leb-true, ltb-true, eq-eqb, or_right}
use Rattle.std.proofs.lemmas.List.{length-append, length-replicate}
use Rattle.mt_types.specs.declared.ty.Ty.{Ty, map-Ty, out-Ty, roll-Ty}
use Rattle.mt_types.specs.declared.ty.Ty.TheOpen.{Ty-F}
use Rattle.mt_types.specs.declared.ty.Ty.TheFolds.{fold_out-Ty, fold-roll-Ty, ind-Ty}
use Rattle.mt_types.specs.declared.value.Value.{Value, out-Value}
use Rattle.mt_types.specs.declared.value.Value.TheVariants.{Num, Text, List as Items, Null as NullValue, outs-Num, outs-Text, outs-Null, outs-List}
use Rattle.mt_types.specs.Bytes.{is_byte}
use Rattle.mt_types.specs.declared.ty.Width.{Width}
use Rattle.mt_types.specs.Fits.{fits_of, fits_step, bits, is_unsigned, is_signed, num_at, number_value, natural_at}
use Rattle.mt_types.proofs.NumberLemmas.{natural_fits, number_num}
use Rattle.mt_tsv.specs.declared.fault.RowWhy.{RowWhy}
use Rattle.mt_tsv.specs.declared.fault.RowWhy.TheVariants.{Range, Null, TooLong, List as BadList}
use Rattle.mt_types.specs.declared.limits.TheConstants.{MAX_TEXT, MAX_ELEMENTS}
use Rattle.mt_types.specs.Steps.{◌>>=◌}
use Rattle.mt_table.proofs.WidthLemmas.{signed_wide}
use Rattle.mt_tsv.specs.Texts.{text_of, bounded_text, padded_text}
use Rattle.mt_tsv.specs.Scalars.{integer_of, whole_number_of, whole_of, date_value, scalar_at, scalar_of}
use Rattle.mt_calendar.specs.Dates.{date_of}
use Rattle.mt_calendar.specs.Moments.{moment_of}
use Rattle.mt_calendar.proofs.InType.{date_in_type, moment_in_type}
use Rattle.mt_tsv.specs.Arrays.{Element, element_of, element_step, array_of, element_values, level_of, is_null_word, middle}
use Rattle.mt_tsv.specs.Fields.{field_of, field_at, is_null_field, unless_null_field}
use Rattle.mt_tsv.proofs.ReadBytes.{AreBytes, to_test, middle_bytes, level_bytes, bounded_bytes, padded_bytes}
use Rattle.mt_tsv.proofs.RowLimits.{then_ok, passed, onto_ok}

-- a type's test at one level of the type
abbrev Test : Type 0
Test = Value → Bool

pub fits_at : (t : Ty) (v : Value) → fits_of t v ≡ fits_step (map-Ty Ty Test fits_of (out-Ty t)) v
fits_at t v = ap (λ (f : Test). f v) (fold_out-Ty Test fits_step t)

-- ---- numbers

number_passes : (test : ℤ → Bool) (text : List ℕ) (v : Value) → whole_of test text ≡ Ok v → (n : ℤ) × (v ≡ number_value n) × (test n ≡ true)
unfolding whole_number_of
number_passes test text v e =
    let read = then_ok (whole_number_of test text) _ v e in
    let whole = then_ok (integer_of text) _ read.0 read.1 in
    let inside = passed (test whole.0) Range _ read.0 whole.2 in
    let same : Ok whole.0 ≡ Ok read.0 = inside.1 in
    let is : whole.0 ≡ read.0 = cc in
    let value : Ok (number_value read.0) ≡ Ok v = read.2 in
    (read.0, cc, subst (λ n. test n ≡ true) is inside.0)

natural_fits_test : (width : Width) (n : ℤ) → is_unsigned (bits width) n ≡ true → natural_at width (out-Value (number_value n)) ≡ true
natural_fits_test width (pos m) h = natural_fits width m (ltb-true m (2 ^ bits width) h)
natural_fits_test width (negsuc m) h = cc

signed_fits_test : (width : Width) (n : ℤ) → is_signed (bits width) n ≡ true → num_at (is_signed (bits width)) (out-Value (number_value n)) ≡ true
signed_fits_test width n h = rw (number_num n (signed_wide width n h), outs-Num n) h

-- ---- texts

bounded : (most : ℕ) (field bytes : List ℕ) → bounded_text most field ≡ Ok bytes → leb (length bytes) most ≡ true
unfolding bounded_text
bounded most field bytes e =
    let read = then_ok (text_of field) _ bytes e in
    let short = passed (leb (length read.0) most) TooLong _ bytes read.2 in
    let same : Ok read.0 ≡ Ok bytes = short.1 in
    let is : read.0 ≡ bytes = cc in
    subst (λ bs. leb (length bs) most ≡ true) is short.0

padded : (size : ℕ) (field bytes : List ℕ) → padded_text size field ≡ Ok bytes → length bytes ≡ size
unfolding padded_text
padded size field bytes e =
    let read = then_ok (bounded_text size field) _ bytes e in
    let short = leb-true (length read.0) size (bounded size field read.0 read.1) in
    let same : Ok (read.0 ++ replicate (size - length read.0) 0) ≡ Ok bytes = read.2 in
    let is : read.0 ++ replicate (size - length read.0) 0 ≡ bytes = cc in
    omega (arith, ap length (sym is), length-append read.0 (replicate (size - length read.0) 0), length-replicate {A = ℕ} (size - length read.0) 0, short)

text_value : (read : Result (List ℕ) RowWhy) (v : Value) → (read >>= λ bytes. Ok (Text bytes)) ≡ Ok v → (bytes : List ℕ) × (read ≡ Ok bytes) × (v ≡ Text bytes)
text_value read v e =
    let step = then_ok read _ v e in
    let same : Ok (Text step.0) ≡ Ok v = step.2 in
    (step.0, step.1, cc)

-- ---- dates and moments

counted_fits : (bits : ℕ) (count : Option ℕ) (v : Value) → ((n : ℕ) → count ≡ Some n → ltb n (2 ^ bits) ≡ true) → date_value count ≡ Ok v → num_at (is_unsigned bits) (out-Value v) ≡ true
counted_fits bits (Some n) v inside e =
    let is : Num (pos n) ≡ v = cc in
    subst (λ v. num_at (is_unsigned bits) (out-Value v) ≡ true) is (rw (outs-Num (pos n)) (inside n refl))
counted_fits bits None v inside e = cc

-- ---- values of types that are no Nullable and no array; inside those that are, any types are given by tests

scalar_fits : {X : Type 0} (inner : X → Test) (level : Ty-F X) (text : List ℕ) (v : Value) → AreBytes text → scalar_at level text ≡ Ok v → fits_step (map-Ty X Test inner level) v ≡ true
scalar_fits inner (Ty-F.UInt width) text v are e =
    let n = number_passes (is_unsigned (bits width)) text v e in
    rw n.1 (natural_fits_test width n.0 n.2)
scalar_fits inner (Ty-F.Int width) text v are e =
    let n = number_passes (is_signed (bits width)) text v e in
    rw n.1 (signed_fits_test width n.0 n.2)
scalar_fits inner (Ty-F.FixedString size) text v are e =
    let t = text_value (padded_text size text) v e in
    let whole = eq-eqb (length t.0) size (padded size text t.0 t.1) in
    rw (t.2, outs-Text t.0) (and_from (eqb (length t.0) size) (list_all is_byte t.0) whole (to_test t.0 (padded_bytes size text t.0 are t.1)))
scalar_fits inner Ty-F.Str text v are e =
    let t = text_value (bounded_text MAX_TEXT text) v e in
    let short = bounded MAX_TEXT text t.0 t.1 in
    rw (t.2, outs-Text t.0) (and_from (leb (length t.0) MAX_TEXT) (list_all is_byte t.0) short (to_test t.0 (bounded_bytes MAX_TEXT text t.0 are t.1)))
scalar_fits inner Ty-F.Date text v are e = counted_fits 16 (date_of text) v (date_in_type text) e
scalar_fits inner Ty-F.Moment text v are e = counted_fits 32 (moment_of text) v (moment_in_type text) e
scalar_fits inner _ text v are e = cc

-- ---- NULL

unless_null_word : {A : Type 0} (test : Bool) (why : RowWhy) (read : Result A RowWhy) (a : A) → (if test then Err why else read) ≡ Ok a → read ≡ Ok a
unless_null_word true why read a e = cc
unless_null_word false why read a e = e

-- NULL, or a value of the type inside
null_or_fits : (fits : Test) (test : Bool) (read : Result Value RowWhy) (v : Value) → (read ≡ Ok v → fits v ≡ true) → (if test then Ok NullValue else read) ≡ Ok v → fits_step (Ty-F.Nullable fits) v ≡ true
null_or_fits fits true read v inside e =
    let is : NullValue ≡ v = cc in
    subst (λ v. fits_step (Ty-F.Nullable fits) v ≡ true) is (rw outs-Null refl)
null_or_fits fits false read v inside e = or_right _ (fits v) (inside e)

-- ---- arrays

-- what is read of bytes fits
abbrev ReadsOf : Test → (List ℕ → Result Value RowWhy) → Type 0
ReadsOf fits read = (text : List ℕ) (v : Value) → AreBytes text → read text ≡ Ok v → fits v ≡ true

items_fit : (fits : Test) (read : List ℕ → Result Value RowWhy) → ReadsOf fits read
    → (texts : List (List ℕ)) (values : List Value) → All AreBytes texts → element_values read texts ≡ Ok values → list_all fits values ≡ true
unfolding element_values
items_fit fits read each [] values are e = let is : [] ≡ values = cc in subst (λ vs. list_all fits vs ≡ true) is refl
items_fit fits read each (text ∷ texts) values are e =
    let first = then_ok (read text) _ values e in
    let others = onto_ok first.0 (element_values read texts) values first.2 in
    let first_fits = each text first.0 (All-head AreBytes text texts are) first.1 in
    let others_fit = items_fit fits read each texts others.0 (All-tail AreBytes text texts are) others.1 in
    subst (λ vs. list_all fits vs ≡ true) (sym others.2) (and_from (fits first.0) (list_all fits others.0) first_fits others_fit)

array_fits : (fits : Test) (element : Element) → ReadsOf fits element.read → ReadsOf (fits_step (Ty-F.Array fits)) (array_of element)
unfolding array_of
array_fits fits element each text v are e =
    let texts = then_ok (level_of element.in_quotes text) _ v e in
    let values = then_ok (element_values element.read texts.0) _ v texts.2 in
    let few = passed (leb (length values.0) MAX_ELEMENTS) TooLong _ v values.2 in
    let same : Ok (Items values.0) ≡ Ok v = few.1 in
    let is : Items values.0 ≡ v = cc in
    let all = items_fit fits element.read each texts.0 values.0 (level_bytes element.in_quotes text texts.0 are texts.1) values.1 in
    subst (λ v. fits_step (Ty-F.Array fits) v ≡ true) is (rw (outs-List values.0) (and_from (leb (length values.0) MAX_ELEMENTS) (list_all fits values.0) few.0 all))

-- what is read of an element fits
abbrev Reads : Ty → Type 0
Reads t = ReadsOf (fits_of t) (element_of t).read

-- a type of which this is known
abbrev Known : Type 0
Known = (t : Ty) × Reads t

-- a level without what is known
abbrev plain : Ty-F Known → Ty-F Ty
plain level = map-Ty Known Ty (λ k. k.0) level

no_test : Element → Test
no_test element v = true

level_reads : (level : Ty-F Known) → ReadsOf (fits_step (map-Ty Ty Test fits_of (plain level))) (element_step (map-Ty Ty Element element_of (plain level))).read
level_reads (Ty-F.Nullable k) text v are e = null_or_fits (fits_of k.0) (is_null_word text) ((element_of k.0).read text) v (k.1 text v are) e
level_reads (Ty-F.Array k) text v are e = array_fits (fits_of k.0) (element_of k.0) k.1 text v are (unless_null_word (is_null_word text) Null (array_of (element_of k.0) text) v e)
level_reads (Ty-F.UInt width) text v are e = scalar_fits no_test (Ty-F.UInt width) text v are (unless_null_word (is_null_word text) Null _ v e)
level_reads (Ty-F.Int width) text v are e = scalar_fits no_test (Ty-F.Int width) text v are (unless_null_word (is_null_word text) Null _ v e)
level_reads (Ty-F.FixedString size) text v are e = scalar_fits no_test (Ty-F.FixedString size) (middle text) v (middle_bytes text are) (unless_null_word (is_null_word text) Null _ v e)
level_reads Ty-F.Str text v are e = scalar_fits no_test Ty-F.Str (middle text) v (middle_bytes text are) (unless_null_word (is_null_word text) Null _ v e)
level_reads Ty-F.Date text v are e = scalar_fits no_test Ty-F.Date (middle text) v (middle_bytes text are) (unless_null_word (is_null_word text) Null _ v e)
level_reads Ty-F.Moment text v are e = scalar_fits no_test Ty-F.Moment (middle text) v (middle_bytes text are) (unless_null_word (is_null_word text) Null _ v e)
level_reads (Ty-F.State agg k) text v are e = let none : Err BadList ≡ Ok v = unless_null_word (is_null_word text) Null _ v e in cc
level_reads Ty-F.CountState text v are e = let none : Err BadList ≡ Ok v = unless_null_word (is_null_word text) Null _ v e in cc

-- elements of arrays, from the types inside up
elements_fit : (t : Ty) → Reads t
elements_fit = ind-Ty Reads (λ x y is text v are e.
    let read : (element_of (roll-Ty x)).read text ≡ (element_step (map-Ty Ty Element element_of (plain y))).read text =
    ap (λ (element : Element). element.read text) (fold-roll-Ty Element element_step x) ∙ ap (λ l. (element_step (map-Ty Ty Element element_of l)).read text) (sym is) in
    ap (λ (f : Test). f v) (fold-roll-Ty Test fits_step x) ∙ ap (λ l. fits_step (map-Ty Ty Test fits_of l) v) (sym is) ∙ level_reads y text v are (sym read ∙ e))

-- ---- fields

unless_null_is : (field : List ℕ) (read : Result Value RowWhy) (v : Value) → unless_null_field field read ≡ Ok v → read ≡ Ok v
unless_null_is field read v e = unless_null_word (is_null_field field) Null read v e

scalar_of_fits : (t : Ty) → ReadsOf (fits_of t) (scalar_of t)
unfolding scalar_of
scalar_of_fits t text v are e = fits_at t v ∙ scalar_fits fits_of (out-Ty t) text v are e

level_fits : (level : Ty-F Ty) → ReadsOf (fits_step (map-Ty Ty Test fits_of level)) (field_at level)
level_fits (Ty-F.Nullable inner) field v are e = null_or_fits (fits_of inner) (is_null_field field) (scalar_of inner field) v (scalar_of_fits inner field v are) e
level_fits (Ty-F.Array inner) field v are e = array_fits (fits_of inner) (element_of inner) (elements_fit inner) field v are e
level_fits (Ty-F.UInt width) field v are e = scalar_fits fits_of (Ty-F.UInt width) field v are (unless_null_is field _ v e)
level_fits (Ty-F.Int width) field v are e = scalar_fits fits_of (Ty-F.Int width) field v are (unless_null_is field _ v e)
level_fits (Ty-F.FixedString size) field v are e = scalar_fits fits_of (Ty-F.FixedString size) field v are (unless_null_is field _ v e)
level_fits Ty-F.Str field v are e = scalar_fits fits_of Ty-F.Str field v are (unless_null_is field _ v e)
level_fits Ty-F.Date field v are e = scalar_fits fits_of Ty-F.Date field v are (unless_null_is field _ v e)
level_fits Ty-F.Moment field v are e = scalar_fits fits_of Ty-F.Moment field v are (unless_null_is field _ v e)
level_fits (Ty-F.State agg inner) field v are e = let none : Err BadList ≡ Ok v = unless_null_is field _ v e in cc
level_fits Ty-F.CountState field v are e = let none : Err BadList ≡ Ok v = unless_null_is field _ v e in cc

pub field_fits : (t : Ty) → ReadsOf (fits_of t) (field_of t)
unfolding field_of
field_fits t field v are e = fits_at t v ∙ level_fits (out-Ty t) field v are e
