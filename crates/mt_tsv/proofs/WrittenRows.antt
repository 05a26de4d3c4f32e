-- Written rows are read again.
use Rattle.std.proofs.Common.{◌≡◌, ℕ, suc, ◌+◌, ◌-◌, ◌<◌, ◌≤◌, Bool, true, false, cond, eqb, leb, ltb, ◌&&◌, ◌||◌, List, [], ◌∷◌, ◌++◌, length, Ok, refl, sym, ap, ◌∙◌, append_assoc, arith, inl, inr}
use Rattle.std.specs.Prelude.{nat_le}
use Rattle.std.specs.List.{join_with_byte, list_all, AllByRecursion}
use Rattle.std.proofs.lemmas.Bool.{cases_Bool, ne_eqb, le-leb, lt-ltb}
use Rattle.std.proofs.lemmas.List.Elements.{All-from_recursion}
use Rattle.std.proofs.lemmas.List.Splits.{slice_split_at, slice_split_none}
use Rattle.mt_types.specs.declared.ty.Ty.{Ty, out-Ty, map-Ty}
use Rattle.mt_types.specs.declared.ty.Ty.TheOpen.{Ty-F}
use Rattle.mt_types.specs.declared.ty.Ty.TheFolds.{fold_out-Ty}
use Rattle.mt_types.specs.declared.value.Value.{Value, out-Value}
use Rattle.mt_types.specs.declared.value.Value.TheVariants.{Null as NullValue}
use Rattle.mt_types.specs.Fits.{null_at, fits_of, fits_step}
use Rattle.mt_types.specs.Profile.{Kind, Whole, Day, Plain, Stored, Unknown, Nested, optional_kind, array_kind, state_kind, kind_of, kind_step}
use Rattle.mt_types.specs.declared.ty.Agg.{Agg}
use Rattle.mt_types.specs.declared.ty.Agg.TheVariants.{Sum, Min, Max}
use Rattle.mt_table.specs.declared.column.Column.{Column}
use Rattle.mt_table.specs.declared.limits.TheConstants.{MAX_ROWS, MAX_CELLS}
use Rattle.mt_tsv.specs.Scalars.{scalar_of}
use Rattle.mt_tsv.specs.Fields.{field_at, field_of}
use Rattle.mt_tsv.specs.Cells.{cells_of}
use Rattle.mt_tsv.specs.Printing.{scalar_text_at, scalar_text, field_text_at, field_text, field_texts, row_text, rows_text}
use Rattle.mt_tsv.specs.Writable.{is_column_kind, is_written_type}
use Rattle.mt_table.specs.Rows.{RowFits, cell_count}
use Rattle.mt_tsv.specs.Reading.{field_values, line_fields, row_of, lines, rows_of_lines, rows_reading}
use Rattle.mt_tsv.proofs.Lines.{row_is, rows_step}
use Rattle.mt_tsv.proofs.RowLimits.{cells_more}
use Rattle.mt_tsv.proofs.WrittenTexts.{IsClean}
use Rattle.mt_tsv.proofs.WrittenValues.{IsScalar, is_scalar_kind, uint_again, int_again, fixed_again, string_again, date_scalar, moment_scalar, array_column, no_state, ok_value, null_value, list_value, array_value, written}

-- ---- scalars of a type

no_optional : (kind : Kind) → is_scalar_kind (optional_kind kind) ≡ true → ⊥
no_optional Whole h = cc
no_optional Day h = cc
no_optional Plain h = cc
no_optional _ h = cc

no_nested : (deeper : Bool) (deep : ℕ) → is_scalar_kind (cond deeper (Nested (deep + 1)) Unknown) ≡ true → ⊥
no_nested true deep h = cc
no_nested false deep h = cc

no_array : (kind : Kind) → is_scalar_kind (array_kind kind) ≡ true → ⊥
no_array Stored h = cc
no_array Unknown h = cc
no_array (Nested deep) h = no_nested (ltb deep 3) deep h
no_array _ h = cc

no_scalar_state : (agg : Agg) (kind : Kind) → is_scalar_kind (state_kind agg kind) ≡ true → ⊥
no_scalar_state Sum Whole h = cc
no_scalar_state Min Whole h = cc
no_scalar_state Max Whole h = cc
no_scalar_state Min Day h = cc
no_scalar_state Max Day h = cc
no_scalar_state _ _ h = cc

scalar_level : (x : Ty-F Ty) (value : Value) → is_scalar_kind (kind_step (map-Ty Ty Kind kind_of x)) ≡ true → fits_step (map-Ty Ty (Value → Bool) fits_of x) value ≡ true → IsScalar x (scalar_text_at x (out-Value value)) value
scalar_level (Ty-F.UInt width) value k f = uint_again width value f
scalar_level (Ty-F.Int width) value k f = int_again width value f
scalar_level (Ty-F.FixedString size) value k f = fixed_again size value f
scalar_level Ty-F.Str value k f = string_again value f
scalar_level Ty-F.Date value k f = date_scalar value f
scalar_level Ty-F.Moment value k f = moment_scalar value f
scalar_level (Ty-F.Nullable t) value k f = absurd (no_optional (kind_of t) k)
scalar_level (Ty-F.Array t) value k f = absurd (no_array (kind_of t) k)
scalar_level (Ty-F.State agg t) value k f = absurd (no_scalar_state agg (kind_of t) k)
scalar_level Ty-F.CountState value k f = absurd cc

fits_out : (ty : Ty) (value : Value) → fits_of ty value ≡ fits_step (map-Ty Ty (Value → Bool) fits_of (out-Ty ty)) value
fits_out ty value = ap (λ (t : Value → Bool). t value) (fold_out-Ty (Value → Bool) fits_step ty)

kind_out : (ty : Ty) → kind_of ty ≡ kind_step (map-Ty Ty Kind kind_of (out-Ty ty))
kind_out ty = fold_out-Ty Kind kind_step ty

scalar_again : (ty : Ty) (value : Value) → is_scalar_kind (kind_of ty) ≡ true → fits_of ty value ≡ true → IsScalar (out-Ty ty) (scalar_text_at (out-Ty ty) (out-Value value)) value
scalar_again ty value k f = scalar_level (out-Ty ty) value (ap is_scalar_kind (sym (kind_out ty)) ∙ k) (sym (fits_out ty value) ∙ f)

-- ---- fields

record IsField (x : Ty-F Ty) (value : Value) : Type 0 where
  read : field_at x (field_text_at x value) ≡ Ok value
  clean : IsClean (field_text_at x value)

optional_scalar : (kind : Kind) → is_column_kind (optional_kind kind) ≡ true → is_scalar_kind kind ≡ true
optional_scalar Whole h = refl
optional_scalar Day h = refl
optional_scalar Plain h = refl
optional_scalar _ h = absurd cc

nullable_field : (ty : Ty) (value : Value) → is_column_kind (optional_kind (kind_of ty)) ≡ true → (null_at (out-Value value) || fits_of ty value) ≡ true → IsField (Ty-F.Nullable ty) value
unfolding scalar_of scalar_text
nullable_field ty value k f =
    elim (cases_Bool (null_at (out-Value value))) [
      | inl is ↦ record {
        read = rw is (ok_value NullValue value (null_value value (out-Value value) refl is));
        clean = rw is ((omega arith, omega arith), ((omega arith, omega arith), tt));
      }
      | inr not ↦
          let g = rw not at f in
          let s = scalar_again ty value (optional_scalar (kind_of ty) k) g in
          record { read = rw not (rw s.not_null s.read); clean = rw not s.clean }
    ]

field_level : (x : Ty-F Ty) (value : Value) → is_column_kind (kind_step (map-Ty Ty Kind kind_of x)) ≡ true → fits_step (map-Ty Ty (Value → Bool) fits_of x) value ≡ true → IsField x value
field_level (Ty-F.UInt width) value k f = let s = uint_again {X = Ty} width value f in record { read = rw s.not_null s.read; clean = s.clean }
field_level (Ty-F.Int width) value k f = let s = int_again {X = Ty} width value f in record { read = rw s.not_null s.read; clean = s.clean }
field_level (Ty-F.FixedString size) value k f = let s = fixed_again {X = Ty} size value f in record { read = rw s.not_null s.read; clean = s.clean }
field_level Ty-F.Str value k f = let s = string_again {X = Ty} value f in record { read = rw s.not_null s.read; clean = s.clean }
field_level Ty-F.Date value k f = let s = date_scalar {X = Ty} value f in record { read = rw s.not_null s.read; clean = s.clean }
field_level Ty-F.Moment value k f = let s = moment_scalar {X = Ty} value f in record { read = rw s.not_null s.read; clean = s.clean }
field_level (Ty-F.Nullable ty) value k f = nullable_field ty value k f
field_level (Ty-F.Array ty) value k f =
    let v = list_value (λ items. nat_le (length items) 1048576 && list_all (fits_of ty) items) value (out-Value value) refl f in
    let a = array_value ty (written ty) (array_column (kind_of ty) k) value f in
    record { read = rw v.out a.read; clean = rw v.out a.clean }
field_level (Ty-F.State agg t) value k f = absurd (no_state agg (kind_of t) k)
field_level Ty-F.CountState value k f = absurd cc

field_again : (ty : Ty) (value : Value) → is_written_type ty ≡ true → fits_of ty value ≡ true → (field_of ty (field_text ty value) ≡ Ok value) × IsClean (field_text ty value)
unfolding field_of field_text
field_again ty value k f =
    let h = field_level (out-Ty ty) value (ap is_column_kind (sym (kind_out ty)) ∙ k) (sym (fits_out ty value) ∙ f) in
    (h.read, h.clean)

-- ---- lines

abbrev Columns : List Column → Type 0
Columns columns = AllByRecursion (λ column. is_written_type column.ty ≡ true) columns

record AreRead (columns : List Column) (row : List Value) : Type 0 where
  values : field_values columns (field_texts columns row) ≡ Ok row
  clean : AllByRecursion IsClean (field_texts columns row)
  as_many : length (field_texts columns row) ≡ length columns

values_again : (columns : List Column) (row : List Value) → Columns columns → RowFits columns row → AreRead columns row
unfolding field_values field_texts
values_again [] [] c h = record { values = refl; clean = tt; as_many = refl }
values_again [] (value ∷ row) c h = absurd h
values_again (column ∷ columns) [] c h = absurd h
values_again (column ∷ columns) (value ∷ row) c h =
    let f = field_again column.ty value c.0 h.0 in
    let m = values_again columns row c.1 h.1 in
    record { values = rw (f.0, m.values) refl; clean = (f.1, m.clean); as_many = ap suc m.as_many }

no_tab : (bytes : List ℕ) → IsClean bytes → AllByRecursion (λ b. eqb b 9 ≡ false) bytes
no_tab [] h = tt
no_tab (b ∷ bytes) h = (ne_eqb b 9 h.0.0, no_tab bytes h.1)

split_again : (text : List ℕ) (texts : List (List ℕ)) → IsClean text → AllByRecursion IsClean texts → line_fields (join_with_byte 9 (text ∷ texts)) ≡ text ∷ texts
split_again text [] h all = slice_split_none (λ b. eqb b 9) text (All-from_recursion (λ b. eqb b 9 ≡ false) text (no_tab text h))
split_again text (next ∷ texts) h all =
    slice_split_at (λ b. eqb b 9) text 9 (join_with_byte 9 (next ∷ texts)) (All-from_recursion (λ b. eqb b 9 ≡ false) text (no_tab text h)) refl
    ∙ ap (λ (t : List (List ℕ)). text ∷ t) (split_again next texts all.0 all.1)

abbrev NoEnd : List ℕ → Type 0
NoEnd bytes = AllByRecursion (λ b. eqb b 10 ≡ false) bytes

no_end : (bytes : List ℕ) → IsClean bytes → NoEnd bytes
no_end [] h = tt
no_end (b ∷ bytes) h = (ne_eqb b 10 h.0.1, no_end bytes h.1)

no_end_append : (xs ys : List ℕ) → NoEnd xs → NoEnd ys → NoEnd (xs ++ ys)
no_end_append [] ys h k = k
no_end_append (x ∷ xs) ys h k = (h.0, no_end_append xs ys h.1 k)

no_end_join : (text : List ℕ) (texts : List (List ℕ)) → IsClean text → AllByRecursion IsClean texts → NoEnd (join_with_byte 9 (text ∷ texts))
no_end_join text [] h all = no_end text h
no_end_join text (next ∷ texts) h all = no_end_append text (9 ∷ join_with_byte 9 (next ∷ texts)) (no_end text h) (refl, no_end_join next texts all.0 all.1)

line_again : (columns : List Column) (row : List Value) → 0 < length columns → Columns columns → RowFits columns row
    → (row_of columns (join_with_byte 9 (field_texts columns row)) ≡ Ok row) × NoEnd (join_with_byte 9 (field_texts columns row))
unfolding field_texts
line_again [] row some c h = absurd (omega arith)
line_again (column ∷ columns) [] some c h = absurd h
line_again (column ∷ columns) (value ∷ row) some c h =
    let m = values_again (column ∷ columns) (value ∷ row) c h in
    let s = split_again (field_text column.ty value) (field_texts columns row) m.clean.0 m.clean.1 in (
      row_is (column ∷ columns) (join_with_byte 9 (field_texts (column ∷ columns) (value ∷ row))) (ap length s ∙ m.as_many) ∙ ap (field_values (column ∷ columns)) s ∙ m.values,
      no_end_join (field_text column.ty value) (field_texts columns row) m.clean.0 m.clean.1,
    )

-- ---- rows

row_length : (columns : List Column) (row : List Value) → RowFits columns row → length row ≡ length columns
row_length [] [] h = refl
row_length [] (value ∷ row) h = absurd h
row_length (column ∷ columns) [] h = absurd h
row_length (column ∷ columns) (value ∷ row) h = ap suc (row_length columns row h.1)

rows_again : (columns : List Column) (before room : ℕ) (rows : List (List Value)) → 0 < length columns → Columns columns → AllByRecursion (RowFits columns) rows → before + length rows ≤ MAX_ROWS → cell_count columns rows ≤ room
    → rows_of_lines columns before room (lines (rows_text columns rows)) ≡ Ok rows
unfolding rows_of_lines row_text
rows_again columns before room [] some c all within cells = refl
rows_again columns before room (row ∷ rows) some c all within cells =
    let line = join_with_byte 9 (field_texts columns row) in
    let l = line_again columns row some c all.0 in
    let whole : lines (rows_text columns (row ∷ rows)) ≡ line ∷ lines (rows_text columns rows) =
    ap lines (append_assoc line (10 ∷ []) (rows_text columns rows)) ∙ slice_split_at (λ b. eqb b 10) line 10 (rows_text columns rows) (All-from_recursion (λ b. eqb b 10 ≡ false) line l.1) refl in
    let sum = cells_more columns row rows (row_length columns row all.0) in
    let fits : leb (cells_of row) room ≡ true = le-leb (cells_of row) room (omega (arith, sum)) in
    let more = rows_again columns (before + 1) (room - cells_of row) rows some c all.1 (omega arith) (omega (arith, sum)) in
    rows_step columns before room (lines (rows_text columns (row ∷ rows))) line (rows_text columns rows) (λ b. eqb b 10) whole ∙ rw (l.0, lt-ltb before MAX_ROWS (omega arith), fits, more) refl

pub rows_text_again : (columns : List Column) (rows : List (List Value)) → 0 < length columns → AllByRecursion (λ column. is_written_type column.ty ≡ true) columns → AllByRecursion (RowFits columns) rows → length rows ≤ MAX_ROWS → cell_count columns rows ≤ MAX_CELLS
    → rows_reading columns (rows_text columns rows) ≡ Ok rows
unfolding rows_reading
rows_text_again columns rows some c all within cells = rows_again columns 0 MAX_CELLS rows some c all (omega arith) cells
