-- The text of rows: docs/LANGUAGE.md, "Lines".
use Rattle.std.specs.Prelude.{ℕ, zero, suc, ◌^◌, ℤ, pos, negsuc, nat_lt, List, [], ◌∷◌, ◌++◌, map, Option, Some, None, Bool, true, false, ◌==◌, if◌then◌else◌, codes}
use Rattle.std.specs.List.{flat_map, join_with_byte}
use Rattle.std.specs.Fmt.{decimal, signed_decimal}
use Rattle.mt_types.specs.declared.ty.Ty.{Ty, out-Ty}
use Rattle.mt_types.specs.declared.ty.Ty.TheOpen.{Ty-F}
use Rattle.mt_types.specs.declared.ty.Ty.TheFolds.{fold-Ty}
use Rattle.mt_types.specs.declared.value.Value.{Value, out-Value}
use Rattle.mt_types.specs.declared.value.Value.TheOpen.{Value-F}
use Rattle.mt_types.specs.Fits.{null_at}
use Rattle.mt_table.specs.declared.column.Column.{Column}
use Rattle.mt_tsv.specs.declared.ascii.TheConstants.{TAB, LINE_END, BACKSLASH, QUOTE, OPEN, CLOSE, COMMA}
use Rattle.mt_calendar.specs.Dates.{date_text}
use Rattle.mt_calendar.specs.Moments.{moment_text}
use Rattle.mt_tsv.specs.Arrays.{needs_quotes}

-- the letter that stands for this byte after a backslash: b, f, r, n, t, 0, ' or \
abbrev pub letter_of : ℕ → Option ℕ
letter_of b =
    if b == 8 then Some 98 else if b == 12 then Some 102 else if b == 13 then Some 114 else if b == 10 then Some 110
    else if b == 9 then Some 116 else if b == 0 then Some 48 else if b == 39 then Some 39 else if b == 92 then Some 92 else None

-- a backslash and the letter, where there is one, or the byte itself
abbrev pub with_letter : ℕ → Option ℕ → List ℕ
with_letter b (Some letter) = BACKSLASH ∷ letter ∷ []
with_letter b None = b ∷ []

-- a byte of a text
abbrev pub byte_text : ℕ → List ℕ
byte_text b = with_letter b (letter_of b)

-- a text, with its escapes
abbrev pub escaped_text : List ℕ → List ℕ
escaped_text bytes = flat_map byte_text bytes

-- a day of the type as a date
abbrev pub day_text : ℤ → List ℕ
day_text (pos day) = if nat_lt day (2 ^ 16) then date_text day else []
day_text (negsuc n) = []

-- a second of the type as a date and time
abbrev pub second_text : ℤ → List ℕ
second_text (pos second) = if nat_lt second (2 ^ 32) then moment_text second else []
second_text (negsuc n) = []

-- a value of a type that is no Nullable and no array; nothing where it isn't of the type
abbrev pub scalar_text_at : {X Y : Type 0} → Ty-F X → Value-F Y → List ℕ
scalar_text_at (Ty-F.UInt width) (Value-F.Num n) = signed_decimal n
scalar_text_at (Ty-F.Int width) (Value-F.Num n) = signed_decimal n
scalar_text_at (Ty-F.UInt width) (Value-F.Huge n) = decimal n
scalar_text_at Ty-F.Date (Value-F.Num n) = day_text n
scalar_text_at Ty-F.Moment (Value-F.Num n) = second_text n
scalar_text_at (Ty-F.FixedString size) (Value-F.Text bytes) = escaped_text bytes
scalar_text_at Ty-F.Str (Value-F.Text bytes) = escaped_text bytes
scalar_text_at _ _ = []

-- the same of a written-out type and value
unfoldable pub scalar_text : Ty → Value → List ℕ
scalar_text ty value = scalar_text_at (out-Ty ty) (out-Value value)

-- what stands before the element or field of this index
abbrev pub separator : ℕ → ℕ → List ℕ
separator zero byte = []
separator (suc index) byte = byte ∷ []

-- between brackets, with commas between the elements
abbrev pub array_text_at : (Value → List ℕ) → Value-F Value → List ℕ
array_text_at text (Value-F.List items) = OPEN ∷ (join_with_byte COMMA (map text items) ++ CLOSE ∷ [])
array_text_at text _ = []

-- between quotes, if the type wants them
abbrev pub quoted_if : Bool → List ℕ → List ℕ
quoted_if true text = QUOTE ∷ (text ++ QUOTE ∷ [])
quoted_if false text = text

-- an element of an array, where elements of the inner type are known
abbrev pub element_text_step : Ty-F (Value → List ℕ) → Value → List ℕ
element_text_step (Ty-F.Nullable inner) value = if null_at (out-Value value) then codes "NULL" else inner value
element_text_step (Ty-F.Array inner) value = array_text_at inner (out-Value value)
element_text_step ty value = quoted_if (needs_quotes ty) (scalar_text_at ty (out-Value value))

-- an element of an array of this type
abbrev pub element_text : Ty → Value → List ℕ
element_text = fold-Ty (Value → List ℕ) element_text_step

-- NULL is \N in a column and NULL in an array
abbrev pub field_text_at : Ty-F Ty → Value → List ℕ
field_text_at (Ty-F.Nullable inner) value = if null_at (out-Value value) then codes "\\N" else scalar_text inner value
field_text_at (Ty-F.Array inner) value = array_text_at (element_text inner) (out-Value value)
field_text_at ty value = scalar_text_at ty (out-Value value)

-- the value of a column of this type
unfoldable pub field_text : Ty → Value → List ℕ
field_text ty value = field_text_at (out-Ty ty) value

-- the fields of a row
unfoldable pub field_texts : List Column → List Value → List (List ℕ)
field_texts (column ∷ columns) (value ∷ row) = field_text column.ty value ∷ field_texts columns row
field_texts _ _ = []

-- the line of a row
unfoldable pub row_text : List Column → List Value → List ℕ
row_text columns row = join_with_byte TAB (field_texts columns row) ++ LINE_END ∷ []

-- the lines of rows
abbrev pub rows_text : List Column → List (List Value) → List ℕ
rows_text columns rows = flat_map (row_text columns) rows
