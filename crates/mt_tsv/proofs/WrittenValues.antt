-- Written values are read again.
use Rattle.std.proofs.Common.{◌≡◌, ℕ, ◌<◌, ◌≤◌, ◌^◌, ◌==◌, Bool, true, false, leb, ◌&&◌, ◌||◌, List, [], ◌∷◌, ◌++◌, length, map, Result, Ok, refl, sym, ap, subst, ◌∙◌, arith, inl, inr, ℤ, pos, negsuc}
use Rattle.std.specs.Prelude.{codes, nat_le, nat_lt, if◌then◌else◌}
use Rattle.std.specs.Fmt.{decimal}
use Rattle.std.specs.List.{join_with_byte, list_all, AllByRecursion}
use Rattle.std.proofs.lemmas.Bool.{cases_Bool, eqb-true, leb-true, ltb-true, lt-ltb, and_parts, false≢true}
use Rattle.mt_types.specs.declared.ty.Agg.{Agg}
use Rattle.mt_types.specs.declared.ty.Agg.TheVariants.{Sum, Min, Max}
use Rattle.mt_types.specs.declared.ty.Width.{Width}
use Rattle.mt_types.specs.declared.ty.Ty.{Ty, roll-Ty, map-Ty}
use Rattle.mt_types.specs.declared.ty.Ty.TheOpen.{Ty-F}
use Rattle.mt_types.specs.declared.ty.Ty.TheFolds.{fold-roll-Ty, ind-Ty}
use Rattle.mt_types.specs.declared.value.Value.{Value, out-Value, roll-Value}
use Rattle.mt_types.specs.declared.value.Value.TheOpen.{Value-F}
use Rattle.mt_types.specs.declared.value.Value.TheViews.{roll-out-Value}
use Rattle.mt_types.specs.declared.value.Value.TheVariants.{Num, Huge, Text, Null as NullValue, List as Items, outs-Num, outs-Huge, outs-Text, outs-Null, outs-List}
use Rattle.mt_types.specs.Bytes.{is_byte}
use Rattle.mt_types.specs.Fits.{Level, bits, is_unsigned, is_signed, num_at, number_value, natural_at, text_at, list_at, null_at, fits_of, fits_step}
use Rattle.mt_types.specs.Profile.{Kind, Whole, Day, Plain, Stored, Unknown, optional_kind, array_kind, state_kind, kind_of, kind_step}
use Rattle.mt_tsv.specs.declared.fault.RowWhy.{RowWhy}
use Rattle.mt_tsv.specs.declared.ascii.TheConstants.{OPEN, CLOSE, COMMA, QUOTE}
use Rattle.mt_types.specs.declared.limits.TheConstants.{MAX_TEXT, MAX_ELEMENTS}
use Rattle.mt_tsv.specs.declared.nesting.Nesting.TheVariants.{Outside, InQuotes}
use Rattle.mt_tsv.specs.Nesting.{nesting_after, is_comma}
use Rattle.mt_tsv.specs.Scalars.{scalar_at}
use Rattle.mt_tsv.specs.Arrays.{Element, element_of, element_step, scalar_element, needs_quotes, is_null_word, is_text_element, have_quotes, array_of, element_values}
use Rattle.mt_tsv.specs.Fields.{is_null_field}
use Rattle.mt_tsv.specs.Printing.{scalar_text_at, day_text, second_text, quoted_if, element_text, element_text_step}
use Rattle.mt_tsv.specs.Writable.{is_column_kind}
use Rattle.mt_tsv.proofs.Items.{array_is}
use Rattle.mt_tsv.proofs.Walks.{IsWalk, AreSolid, walk_all, walk_quoted, walk_array, other_no_comma}
use Rattle.mt_tsv.proofs.WrittenTexts.{IsClean, clean_append, unsigned_again, signed_again, AreNumberBytes, number_plain, number_walk, plain_clean, plain_walk, plain_stays, plain_not_null, StaysInQuotes, text_clean, text_walk, text_stays, text_not_null, bounded_again, padded_again}
use Rattle.mt_tsv.proofs.WrittenElements.{HasEnds, ends_between, number_ends, middle_again, quoted_again, no_null_word, number_no_word, level_again}
use Rattle.mt_types.proofs.NumberLemmas.{num_is, natural_is, number_num}
use Rattle.mt_table.proofs.WidthLemmas.{signed_wide}
use Rattle.mt_calendar.specs.Dates.{date_text}
use Rattle.mt_calendar.specs.Moments.{moment_text}
use Rattle.mt_calendar.proofs.WrittenDates.{ArePlain, date_again, date_bytes}
use Rattle.mt_calendar.proofs.WrittenMoments.{moment_again, moment_bytes}

-- ---- values by their variants

pub record IsText (test : List ℕ → Bool) (value : Value) : Type 0 where
  pub bytes : List ℕ
  pub out : out-Value value ≡ Value-F.Text bytes
  pub is : Text bytes ≡ value
  pub passes : test bytes ≡ true

text_value : (test : List ℕ → Bool) (value : Value) (level : Level) → out-Value value ≡ level → text_at test level ≡ true → IsText test value
text_value test value (Value-F.Text bytes) e h = record { bytes = bytes; out = e; is = sym (roll-out-Value (Text bytes)) ∙ ap roll-Value (outs-Text bytes ∙ sym e) ∙ roll-out-Value value; passes = h }
text_value test value level e h = absurd cc

pub record IsList (test : List Value → Bool) (value : Value) : Type 0 where
  pub items : List Value
  pub out : out-Value value ≡ Value-F.List items
  pub is : Items items ≡ value
  pub passes : test items ≡ true

pub list_value : (test : List Value → Bool) (value : Value) (level : Level) → out-Value value ≡ level → list_at test level ≡ true → IsList test value
list_value test value (Value-F.List items) e h = record { items = items; out = e; is = sym (roll-out-Value (Items items)) ∙ ap roll-Value (outs-List items ∙ sym e) ∙ roll-out-Value value; passes = h }
list_value test value level e h = absurd cc

pub null_value : (value : Value) (level : Level) → out-Value value ≡ level → null_at level ≡ true → NullValue ≡ value
null_value value Value-F.Null e h = sym (roll-out-Value NullValue) ∙ ap roll-Value (outs-Null ∙ sym e) ∙ roll-out-Value value
null_value value level e h = absurd cc

-- ---- scalars

abbrev pub IsShaped : Bool → List ℕ → Type 0
IsShaped true text = ((depth : ℕ) → IsWalk (InQuotes depth) text (InQuotes depth)) × StaysInQuotes text
IsShaped false text = AreNumberBytes text × (0 < length text)

pub record IsScalar {X : Type 0} (ty : Ty-F X) (text : List ℕ) (value : Value) : Type 0 where
  pub read : scalar_at ty text ≡ Ok value
  pub clean : IsClean text
  pub not_null : is_null_field text ≡ false
  pub shape : IsShaped (needs_quotes ty) text
  pub some_value : null_at (out-Value value) ≡ false

pub ok_value : (a b : Value) → a ≡ b → (let r : Result Value RowWhy = Ok a in r) ≡ Ok b
ok_value a b e = ap (λ (v : Value). let r : Result Value RowWhy = Ok v in r) e

-- the text of a number is that of its value, Num or Huge
natural_text : (X : Type 0) (width : Width) (m : ℕ) (small : Bool) → scalar_text_at {X = X} {Y = Value} (Ty-F.UInt width) (out-Value (if small then Num (pos m) else Huge m)) ≡ decimal m
natural_text X width m true = rw (outs-Num (pos m)) refl
natural_text X width m false = rw (outs-Huge m) refl

natural_no_null : (m : ℕ) (small : Bool) → null_at (out-Value (if small then Num (pos m) else Huge m)) ≡ false
natural_no_null m true = ap null_at (outs-Num (pos m))
natural_no_null m false = ap null_at (outs-Huge m)

natural_again : {X : Type 0} (width : Width) (m : ℕ) → m < 2 ^ bits width
    → IsScalar {X = X} (Ty-F.UInt width) (scalar_text_at {X = X} {Y = Value} (Ty-F.UInt width) (out-Value (number_value (pos m)))) (number_value (pos m))
natural_again {X} width m small =
    let n = unsigned_again width (pos m) (lt-ltb m (2 ^ bits width) small) in
    let plain = number_plain _ n.bytes in
    rw (natural_text X width m (nat_lt m (2 ^ 127))) (record {
      read = rw n.value refl;
      clean = plain_clean _ plain;
      not_null = plain_not_null _ plain;
      shape = (n.bytes, n.nonempty);
      some_value = natural_no_null m (nat_lt m (2 ^ 127));
    })

pub uint_again : {X : Type 0} (width : Width) (value : Value) → natural_at width (out-Value value) ≡ true
    → IsScalar {X = X} (Ty-F.UInt width) (scalar_text_at {X = X} {Y = Value} (Ty-F.UInt width) (out-Value value)) value
uint_again {X} width value h =
    let v = natural_is width value h in
    rw v.1 (natural_again {X = X} width v.0 v.2)

pub int_again : {X : Type 0} (width : Width) (value : Value) → num_at (is_signed (bits width)) (out-Value value) ≡ true
    → IsScalar {X = X} (Ty-F.Int width) (scalar_text_at {X = X} {Y = Value} (Ty-F.Int width) (out-Value value)) value
int_again width value h =
    let v = num_is (is_signed (bits width)) value h in
    let n = signed_again width v.0 v.2 in
    let plain = number_plain _ n.bytes in
    rw (v.1, outs-Num v.0) (record {
      read = rw n.value (ok_value _ _ (number_num v.0 (signed_wide width v.0 v.2)));
      clean = plain_clean _ plain;
      not_null = plain_not_null _ plain;
      shape = (n.bytes, n.nonempty);
      some_value = ap null_at (outs-Num v.0);
    })

pub fixed_again : {X : Type 0} (size : ℕ) (value : Value) → text_at (λ bytes. length bytes == size && list_all is_byte bytes) (out-Value value) ≡ true → IsScalar {X = X} (Ty-F.FixedString size) (scalar_text_at {X = X} {Y = Value} (Ty-F.FixedString size) (out-Value value)) value
fixed_again size value h =
    let v = text_value (λ bytes. length bytes == size && list_all is_byte bytes) value (out-Value value) refl h in
    let p = padded_again size v.bytes (eqb-true (length v.bytes) size (and_parts (length v.bytes == size) (list_all is_byte v.bytes) v.passes).0) in
    rw v.out (record { read = rw p (ok_value (Text v.bytes) value v.is); clean = text_clean v.bytes; not_null = text_not_null v.bytes; shape = (λ depth. text_walk depth v.bytes, text_stays v.bytes); some_value = ap null_at v.out })

pub string_again : {X : Type 0} (value : Value) → text_at (λ bytes. nat_le (length bytes) 16777216 && list_all is_byte bytes) (out-Value value) ≡ true → IsScalar {X = X} Ty-F.Str (scalar_text_at {X = X} {Y = Value} Ty-F.Str (out-Value value)) value
string_again value h =
    let v = text_value (λ bytes. nat_le (length bytes) 16777216 && list_all is_byte bytes) value (out-Value value) refl h in
    let p = bounded_again MAX_TEXT v.bytes (leb-true (length v.bytes) 16777216 (and_parts (nat_le (length v.bytes) 16777216) (list_all is_byte v.bytes) v.passes).0) in
    rw v.out (record { read = rw p (ok_value (Text v.bytes) value v.is); clean = text_clean v.bytes; not_null = text_not_null v.bytes; shape = (λ depth. text_walk depth v.bytes, text_stays v.bytes); some_value = ap null_at v.out })

-- a day of a date or a second of a moment
counted_again : {X : Type 0} (ty : Ty-F X) (text : List ℕ) (n : ℕ) → needs_quotes ty ≡ true → scalar_at ty text ≡ Ok (Num (pos n)) → ArePlain text
    → IsScalar {X = X} ty text (Num (pos n))
counted_again ty text n quotes read plain = record {
  read = read;
  clean = plain_clean _ plain;
  not_null = plain_not_null _ plain;
  shape = rw quotes (λ depth. plain_walk depth _ plain, plain_stays _ plain);
  some_value = ap null_at (outs-Num (pos n));
}

day_again : {X : Type 0} (n : ℤ) → is_unsigned 16 n ≡ true → IsScalar {X = X} Ty-F.Date (day_text n) (Num n)
day_again (negsuc n) h = absurd cc
day_again (pos day) h =
    let lt : day < 65536 = ltb-true day (2 ^ 16) h in
    rw h (counted_again Ty-F.Date (date_text day) day refl (rw (date_again day lt) refl) (date_bytes day lt))

pub date_scalar : {X : Type 0} (value : Value) → num_at (is_unsigned 16) (out-Value value) ≡ true → IsScalar {X = X} Ty-F.Date (scalar_text_at {X = X} {Y = Value} Ty-F.Date (out-Value value)) value
date_scalar value h =
    let v = num_is (is_unsigned 16) value h in
    rw (v.1, outs-Num v.0) (day_again v.0 v.2)

second_again : {X : Type 0} (n : ℤ) → is_unsigned 32 n ≡ true → IsScalar {X = X} Ty-F.Moment (second_text n) (Num n)
second_again (negsuc n) h = absurd cc
second_again (pos second) h =
    let lt : second < 4294967296 = ltb-true second (2 ^ 32) h in
    rw h (counted_again Ty-F.Moment (moment_text second) second refl (rw (moment_again second lt) refl) (moment_bytes second lt))

pub moment_scalar : {X : Type 0} (value : Value) → num_at (is_unsigned 32) (out-Value value) ≡ true → IsScalar {X = X} Ty-F.Moment (scalar_text_at {X = X} {Y = Value} Ty-F.Moment (out-Value value)) value
moment_scalar value h =
    let v = num_is (is_unsigned 32) value h in
    rw (v.1, outs-Num v.0) (second_again v.0 v.2)

-- ---- elements

pub record IsWritten (element : Element) (text : List ℕ) (value : Value) : Type 0 where
  pub read : element.read text ≡ Ok value
  pub quotes : element.in_quotes ≡ true → is_text_element text ≡ true
  pub solid : (depth : ℕ) → IsWalk (Outside depth) text (Outside depth)
  pub ends : HasEnds text
  pub clean : IsClean text
  pub word : is_null_word text ≡ null_at (out-Value value)

quoted_clean : (text : List ℕ) → IsClean text → IsClean (QUOTE ∷ (text ++ QUOTE ∷ []))
quoted_clean text h = ((omega arith, omega arith), clean_append text (QUOTE ∷ []) h ((omega arith, omega arith), tt))

scalar_written : {X : Type 0} (ty : Ty-F X) (in_quotes : Bool) (text : List ℕ) (value : Value) → needs_quotes ty ≡ in_quotes → IsScalar ty text value
    → IsWritten (record { in_quotes = needs_quotes ty; read = scalar_element ty }) (quoted_if (needs_quotes ty) text) value
scalar_written ty true text value e h =
    let shape : IsShaped true text = subst (λ (b : Bool). IsShaped b text) e h.shape in
    let word = no_null_word QUOTE (text ++ QUOTE ∷ []) (omega arith) in
    rw e (record {
      read = rw (word, e, middle_again QUOTE QUOTE text) h.read;
      quotes = λ is. rw word (quoted_again text shape.1);
      solid = λ depth. walk_quoted depth text (shape.0 depth);
      ends = ends_between QUOTE QUOTE text refl refl;
      clean = quoted_clean text h.clean;
      word = word ∙ sym h.some_value;
    })
scalar_written ty false text value e h =
    let shape : IsShaped false text = subst (λ (b : Bool). IsShaped b text) e h.shape in
    let word = number_no_word text shape.0 in
    rw e (record {
      read = rw (word, e) h.read;
      quotes = λ is. absurd (false≢true is);
      solid = λ depth. number_walk depth text shape.0;
      ends = number_ends text shape.0 shape.1;
      clean = h.clean;
      word = word ∙ sym h.some_value;
    })

-- ---- NULL

null_bytes : (depth : ℕ) → AllByRecursion (λ b. (nesting_after (Outside depth) b ≡ Outside depth) × (is_comma (Outside depth) b ≡ false)) (codes "NULL")
null_bytes depth = ((refl, other_no_comma depth 78 (omega arith)), ((refl, other_no_comma depth 85 (omega arith)), ((refl, other_no_comma depth 76 (omega arith)), ((refl, other_no_comma depth 76 (omega arith)), tt))))

null_written : (inner : Element) (value : Value) → null_at (out-Value value) ≡ true → IsWritten (element_step (Ty-F.Nullable inner)) (codes "NULL") value
null_written inner value h = record {
  read = ok_value NullValue value (null_value value (out-Value value) refl h);
  quotes = λ is. refl;
  solid = λ depth. walk_all (Outside depth) (codes "NULL") (null_bytes depth);
  ends = record { first = refl; last = refl; some = omega arith };
  clean = ((omega arith, omega arith), ((omega arith, omega arith), ((omega arith, omega arith), ((omega arith, omega arith), tt))));
  word = sym h;
}

some_written : (inner : Element) (text : List ℕ) (value : Value) → null_at (out-Value value) ≡ false → IsWritten inner text value → IsWritten (element_step (Ty-F.Nullable inner)) text value
some_written inner text value some h = record {
  read = rw (h.word ∙ some) h.read;
  quotes = h.quotes;
  solid = h.solid;
  ends = h.ends;
  clean = h.clean;
  word = h.word;
}

nullable_written : (inner : Element) (text : Value → List ℕ) (fits : Value → Bool) (value : Value) → (fits value ≡ true → IsWritten inner (text value) value) → (null_at (out-Value value) || fits value) ≡ true
    → IsWritten (element_step (Ty-F.Nullable inner)) (element_text_step (Ty-F.Nullable text) value) value
nullable_written inner text fits value h f =
    elim (cases_Bool (null_at (out-Value value))) [
      | inl is ↦ rw is (null_written inner value is)
      | inr not ↦ let g = rw not at f in rw not (some_written inner (text value) value not (h g))
    ]

-- ---- arrays

abbrev AreWritten : Element → (Value → List ℕ) → List Value → Type 0
AreWritten element text items = AllByRecursion (λ item. IsWritten element (text item) item) items

all_solid : (element : Element) (text : Value → List ℕ) (items : List Value) → AreWritten element text items → AreSolid (map text items)
all_solid element text [] h = tt
all_solid element text (item ∷ items) h = (h.0.solid, all_solid element text items h.1)

all_ends : (element : Element) (text : Value → List ℕ) (items : List Value) → AreWritten element text items → AllByRecursion HasEnds (map text items)
all_ends element text [] h = tt
all_ends element text (item ∷ items) h = (h.0.ends, all_ends element text items h.1)

all_quotes : (element : Element) (text : Value → List ℕ) (items : List Value) → AreWritten element text items → element.in_quotes ≡ true → list_all is_text_element (map text items) ≡ true
all_quotes element text [] h is = refl
all_quotes element text (item ∷ items) h is = rw (h.0.quotes is, all_quotes element text items h.1 is) refl

quotes_from : (in_quotes : Bool) (texts : List (List ℕ)) → (in_quotes ≡ true → list_all is_text_element texts ≡ true) → have_quotes in_quotes texts ≡ true
quotes_from true texts h = h refl
quotes_from false texts h = refl

all_read : (element : Element) (text : Value → List ℕ) (items : List Value) → AreWritten element text items → element_values element.read (map text items) ≡ Ok items
unfolding element_values
all_read element text [] h = refl
all_read element text (item ∷ items) h = rw (h.0.read, all_read element text items h.1) refl

joined_clean : (texts : List (List ℕ)) → AllByRecursion IsClean texts → IsClean (join_with_byte COMMA texts)
joined_clean [] h = tt
joined_clean (text ∷ []) h = h.0
joined_clean (text ∷ next ∷ texts) h = clean_append text (COMMA ∷ join_with_byte COMMA (next ∷ texts)) h.0 ((omega arith, omega arith), joined_clean (next ∷ texts) h.1)

all_clean : (element : Element) (text : Value → List ℕ) (items : List Value) → AreWritten element text items → AllByRecursion IsClean (map text items)
all_clean element text [] h = tt
all_clean element text (item ∷ items) h = (h.0.clean, all_clean element text items h.1)

pub record IsArray (element : Element) (text : List ℕ) (value : Value) : Type 0 where
  pub read : array_of element text ≡ Ok value
  pub solid : (depth : ℕ) → IsWalk (Outside depth) text (Outside depth)
  pub ends : HasEnds text
  pub clean : IsClean text

pub array_again : (element : Element) (text : Value → List ℕ) (items : List Value) (value : Value) → Items items ≡ value → length items ≤ MAX_ELEMENTS → AreWritten element text items
    → IsArray element (OPEN ∷ (join_with_byte COMMA (map text items) ++ CLOSE ∷ [])) value
array_again element text items value is fits h =
    let texts = map text items in
    let solid = all_solid element text items h in
    let level = level_again element.in_quotes texts (record { solid = solid; ends = all_ends element text items h; quotes = quotes_from element.in_quotes texts (all_quotes element text items h) }) in
    record {
      read = array_is element _ texts items level (all_read element text items h) fits ∙ ok_value (Items items) value is;
      solid = λ depth. walk_array depth texts solid;
      ends = ends_between OPEN CLOSE (join_with_byte COMMA texts) refl refl;
      clean = ((omega arith, omega arith), clean_append (join_with_byte COMMA texts) (CLOSE ∷ []) (joined_clean texts (all_clean element text items h)) ((omega arith, omega arith), tt));
    }

array_written : (element : Element) (rest : List ℕ) (value : Value) → null_at (out-Value value) ≡ false → IsArray element (OPEN ∷ rest) value → IsWritten (element_step (Ty-F.Array element)) (OPEN ∷ rest) value
array_written element rest value some h =
    let word = no_null_word OPEN rest (omega arith) in
    record { read = rw word h.read; quotes = λ is. absurd (false≢true is); solid = h.solid; ends = h.ends; clean = h.clean; word = word ∙ sym some }

-- ---- by types

abbrev pub is_scalar_kind : Kind → Bool
is_scalar_kind Whole = true
is_scalar_kind Day = true
is_scalar_kind Plain = true
is_scalar_kind _ = false

nullable_column : (kind : Kind) → is_column_kind (optional_kind kind) ≡ true → is_column_kind kind ≡ true
nullable_column Whole h = refl
nullable_column Day h = refl
nullable_column Plain h = refl
nullable_column _ h = absurd cc

pub array_column : (kind : Kind) → is_column_kind (array_kind kind) ≡ true → is_column_kind kind ≡ true
array_column Stored h = absurd cc
array_column Unknown h = absurd cc
array_column _ h = refl

pub no_state : (agg : Agg) (kind : Kind) → is_column_kind (state_kind agg kind) ≡ true → ⊥
no_state Sum Whole h = cc
no_state Min Whole h = cc
no_state Max Whole h = cc
no_state Min Day h = cc
no_state Max Day h = cc
no_state _ _ h = cc

-- an element of this type is read as it was written
abbrev pub Written : Ty → Type 0
Written ty = is_column_kind (kind_of ty) ≡ true → (value : Value) → fits_of ty value ≡ true → IsWritten (element_of ty) (element_text ty value) value

abbrev WrittenLevel : Ty-F Ty → Type 0
WrittenLevel x = is_column_kind (kind_step (map-Ty Ty Kind kind_of x)) ≡ true → (value : Value) → fits_step (map-Ty Ty (Value → Bool) fits_of x) value ≡ true
    → IsWritten (element_step (map-Ty Ty Element element_of x)) (element_text_step (map-Ty Ty (Value → List ℕ) element_text x) value) value

-- a type of which the claim is known
abbrev Below : Type 0
Below = (ty : Ty) × Written ty

pub items_written : (ty : Ty) → Written ty → is_column_kind (kind_of ty) ≡ true → (items : List Value) → list_all (fits_of ty) items ≡ true → AreWritten (element_of ty) (element_text ty) items
items_written ty h k [] f = tt
items_written ty h k (item ∷ items) f =
    let g = and_parts (fits_of ty item) (list_all (fits_of ty) items) f in
    (h k item g.0, items_written ty h k items g.1)

pub array_value : (ty : Ty) → Written ty → is_column_kind (kind_of ty) ≡ true → (value : Value) → (fits : list_at (λ items. nat_le (length items) 1048576 && list_all (fits_of ty) items) (out-Value value) ≡ true)
    → (let v = list_value (λ items. nat_le (length items) 1048576 && list_all (fits_of ty) items) value (out-Value value) refl fits in IsArray (element_of ty) (OPEN ∷ (join_with_byte COMMA (map (element_text ty) v.items) ++ CLOSE ∷ [])) value)
array_value ty h k value fits =
    let v = list_value (λ items. nat_le (length items) 1048576 && list_all (fits_of ty) items) value (out-Value value) refl fits in
    let p = and_parts (leb (length v.items) 1048576) (list_all (fits_of ty) v.items) v.passes in
    array_again (element_of ty) (element_text ty) v.items value v.is (leb-true (length v.items) 1048576 p.0) (items_written ty h k v.items p.1)

level_written : (y : Ty-F Below) → WrittenLevel (map-Ty Below Ty (λ e. e.0) y)
level_written (Ty-F.UInt width) k value f = scalar_written {X = Element} (Ty-F.UInt width) false _ value refl (uint_again width value f)
level_written (Ty-F.Int width) k value f = scalar_written {X = Element} (Ty-F.Int width) false _ value refl (int_again width value f)
level_written (Ty-F.FixedString size) k value f = scalar_written {X = Element} (Ty-F.FixedString size) true _ value refl (fixed_again size value f)
level_written Ty-F.Str k value f = scalar_written {X = Element} Ty-F.Str true _ value refl (string_again value f)
level_written Ty-F.Date k value f = scalar_written {X = Element} Ty-F.Date true _ value refl (date_scalar value f)
level_written Ty-F.Moment k value f = scalar_written {X = Element} Ty-F.Moment true _ value refl (moment_scalar value f)
level_written (Ty-F.Nullable t) k value f = nullable_written (element_of t.0) (element_text t.0) (fits_of t.0) value (λ g. t.1 (nullable_column (kind_of t.0) k) value g) f
level_written (Ty-F.Array t) k value f =
    let v = list_value (λ items. nat_le (length items) 1048576 && list_all (fits_of t.0) items) value (out-Value value) refl f in
    let a = array_value t.0 t.1 (array_column (kind_of t.0) k) value f in
    rw v.out (array_written (element_of t.0) _ value (ap null_at v.out) a)
level_written (Ty-F.State agg t) k value f = absurd (no_state agg (kind_of t.0) k)
level_written Ty-F.CountState k value f = absurd cc

rolled_written : (x : Ty-F Ty) → WrittenLevel x → Written (roll-Ty x)
rolled_written x h k value f =
    let w = h (ap is_column_kind (sym (fold-roll-Ty Kind kind_step x)) ∙ k) value (ap (λ (t : Value → Bool). t value) (sym (fold-roll-Ty (Value → Bool) fits_step x)) ∙ f) in
    rw (fold-roll-Ty Element element_step x, fold-roll-Ty (Value → List ℕ) element_text_step x) w

pub written : (ty : Ty) → Written ty
written = ind-Ty Written (λ x y is. rolled_written x (subst WrittenLevel is (level_written y)))
