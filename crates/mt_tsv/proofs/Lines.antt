-- Fields and lines, one after the other.
use Rattle.std.proofs.Common.{◌≡◌, ℕ, ◌+◌, ◌<◌, ◌≤◌, Bool, true, false, cond, ltb, eqb, List, [], ◌∷◌, ◌++◌, length, Some, None, Result, Ok, Err, refl, sym, ap, ◌∙◌}
use Rattle.std.specs.List.{slice_split}
use Rattle.std.proofs.lemmas.Bool.{eq-eqb, ne_eqb, lt-ltb, le-ltb}
use Rattle.std.proofs.lemmas.List.{append-nil}
use Rattle.mt_facts.proofs.Splits.{split_cons}
use Rattle.mt_types.specs.declared.value.Value.{Value}
use Rattle.mt_table.specs.declared.column.Column.{Column}
use Rattle.mt_table.specs.declared.limits.TheConstants.{MAX_ROWS}
use Rattle.mt_tsv.specs.declared.fault.RowWhy.{RowWhy}
use Rattle.mt_tsv.specs.declared.fault.RowWhy.TheVariants.{NoLineEnd, Columns}
use Rattle.mt_tsv.specs.declared.fault.FieldError.{FieldError}
use Rattle.mt_tsv.specs.declared.fault.FieldError.TheVariants as field_error
use Rattle.mt_tsv.specs.declared.fault.RowError.{RowError}
use Rattle.mt_tsv.specs.declared.fault.RowError.TheVariants as row
use Rattle.mt_types.specs.Steps.{◌>>=◌, onto}
use Rattle.mt_tsv.specs.Results.{unless_bad, FieldFails, RowsFail}
use Rattle.mt_tsv.specs.Cells.{cells_of, room_after}
use Rattle.mt_tsv.specs.Fields.{field_of}
use Rattle.mt_tsv.specs.Reading.{on_line, error_at, field_values, line_fields, row_of, rows_of_lines, with_room}
use Rattle.mt_tsv.proofs.Prefixes.{with_prefix, with_prefix-onto}

-- ---- fields

pub values_more : (prefix : List Value) (columns : List Column) (texts : List (List ℕ)) (column : Column) (later : List Column) (text : List ℕ) (next : List (List ℕ)) (value : Value) (whole : Result (List Value) RowWhy)
    → columns ≡ column ∷ later → texts ≡ text ∷ next → field_of column.ty text ≡ Ok value
    → with_prefix prefix (field_values columns texts) ≡ whole → with_prefix (prefix ++ value ∷ []) (field_values later next) ≡ whole
unfolding field_values
values_more prefix columns texts column later text next value whole e f g h =
    let one : field_values columns texts ≡ onto value (field_values later next) = rw (e, f, g) refl in
    sym (with_prefix-onto prefix value (field_values later next)) ∙ sym (ap (with_prefix prefix) one) ∙ h

pub values_end : (error : FieldError) (prefix : List Value) (columns : List Column) (texts : List (List ℕ)) (column : Column) (later : List Column) (text : List ℕ) (next : List (List ℕ)) (whole : Result (List Value) RowWhy)
    → columns ≡ column ∷ later → texts ≡ text ∷ next → FieldFails error (field_of column.ty text)
    → with_prefix prefix (field_values columns texts) ≡ whole → FieldFails error whole
unfolding field_values
values_end field_error.NoMemory prefix columns texts column later text next whole e f g h = tt
values_end (field_error.Bad why) prefix columns texts column later text next whole e f g h =
    let one : field_values columns texts ≡ Err why = rw (e, f, g) refl in
    sym h ∙ ap (with_prefix prefix) one

pub values_done : (prefix : List Value) (columns : List Column) (texts : List (List ℕ)) (whole : Result (List Value) RowWhy) → columns ≡ [] → with_prefix prefix (field_values columns texts) ≡ whole → whole ≡ Ok prefix
unfolding field_values
values_done prefix columns texts whole e h =
    let one : field_values columns texts ≡ Ok [] = rw e refl in
    sym h ∙ ap (with_prefix prefix) one ∙ ap (λ (values : List Value). let r : Result (List Value) RowWhy = Ok values in r) (append-nil prefix)

pub row_is : (columns : List Column) (line : List ℕ) → length (line_fields line) ≡ length columns → row_of columns line ≡ field_values columns (line_fields line)
unfolding row_of
row_is columns line e = rw (eq-eqb (length (line_fields line)) (length columns) e) refl

pub row_bad : (columns : List Column) (line : List ℕ) → (length (line_fields line) ≡ length columns → ⊥) → row_of columns line ≡ Err Columns
unfolding row_of
row_bad columns line ne = rw (ne_eqb (length (line_fields line)) (length columns) ne) refl

-- the number of fields comes before what is wrong with one
pub row_fails : (columns : List Column) (line : List ℕ) (same : Bool) (error : FieldError) → same ≡ eqb (length (line_fields line)) (length columns) → FieldFails error (field_values columns (line_fields line))
    → FieldFails (cond same error (field_error.Bad Columns)) (row_of columns line)
unfolding row_of
row_fails columns line true error e h = rw (← e) h
row_fails columns line false error e h = rw (← e) refl

-- ---- lines

abbrev pub Rows : Type 0
Rows = List (List Value)

pub rows_ended : (prefix : Rows) (columns : List Column) (before room : ℕ) (texts : List (List ℕ)) (line : List ℕ) (whole : Result Rows RowError) → texts ≡ line ∷ [] → length line ≡ 0
    → with_prefix prefix (rows_of_lines columns before room texts) ≡ whole → whole ≡ Ok prefix
unfolding rows_of_lines
rows_ended prefix columns before room texts line whole e z h =
    let one : rows_of_lines columns before room texts ≡ Ok [] = rw (e, eq-eqb (length line) 0 z) refl in
    sym h ∙ ap (with_prefix prefix) one ∙ ap (λ (rows : Rows). let r : Result Rows RowError = Ok rows in r) (append-nil prefix)

pub rows_cut : (prefix : Rows) (columns : List Column) (before room : ℕ) (texts : List (List ℕ)) (line : List ℕ) (whole : Result Rows RowError) → texts ≡ line ∷ [] → (length line ≡ 0 → ⊥)
    → with_prefix prefix (rows_of_lines columns before room texts) ≡ whole → whole ≡ Err (row.At (before + 1) NoLineEnd)
unfolding rows_of_lines
rows_cut prefix columns before room texts line whole e z h =
    let one : rows_of_lines columns before room texts ≡ Err (row.At (before + 1) NoLineEnd) = rw (e, ne_eqb (length line) 0 z) refl in
    sym h ∙ ap (with_prefix prefix) one

pub rows_step : (columns : List Column) (before room : ℕ) (texts : List (List ℕ)) (line : List ℕ) (after : List ℕ) (p : ℕ → Bool) → texts ≡ line ∷ slice_split p after
    → rows_of_lines columns before room texts ≡ (on_line (before + 1) (row_of columns line) >>= λ values. unless_bad (ltb before MAX_ROWS) row.Rows
    (with_room (room_after (cells_of values) room) λ left. onto values (rows_of_lines columns (before + 1) left (slice_split p after))))
unfolding rows_of_lines
rows_step columns before room texts line after p e =
    let s = split_cons p after in
    ap (rows_of_lines columns before room) e ∙ rw s.2 refl

pub rows_bad : (error : FieldError) (prefix : Rows) (columns : List Column) (before room : ℕ) (texts : List (List ℕ)) (line : List ℕ) (after : List ℕ) (p : ℕ → Bool) (whole : Result Rows RowError) → texts ≡ line ∷ slice_split p after
    → FieldFails error (row_of columns line) → with_prefix prefix (rows_of_lines columns before room texts) ≡ whole → RowsFail (error_at (before + 1) error) whole
rows_bad field_error.NoMemory prefix columns before room texts line after p whole e f h = tt
rows_bad (field_error.Bad why) prefix columns before room texts line after p whole e f h =
    let one : rows_of_lines columns before room texts ≡ Err (row.At (before + 1) why) = rows_step columns before room texts line after p e ∙ rw f refl in
    sym h ∙ ap (with_prefix prefix) one

pub rows_over : (prefix : Rows) (columns : List Column) (before room : ℕ) (texts : List (List ℕ)) (line : List ℕ) (after : List ℕ) (p : ℕ → Bool) (values : List Value) (whole : Result Rows RowError) → texts ≡ line ∷ slice_split p after
    → row_of columns line ≡ Ok values → MAX_ROWS ≤ before → with_prefix prefix (rows_of_lines columns before room texts) ≡ whole → whole ≡ Err row.Rows
rows_over prefix columns before room texts line after p values whole e f le h =
    let one : rows_of_lines columns before room texts ≡ Err row.Rows = rows_step columns before room texts line after p e ∙ rw (f, le-ltb before MAX_ROWS le) refl in
    sym h ∙ ap (with_prefix prefix) one

pub cells_over : (prefix : Rows) (columns : List Column) (before room : ℕ) (texts : List (List ℕ)) (line : List ℕ) (after : List ℕ) (p : ℕ → Bool) (values : List Value) (whole : Result Rows RowError) → texts ≡ line ∷ slice_split p after
    → row_of columns line ≡ Ok values → before < MAX_ROWS → room_after (cells_of values) room ≡ None → with_prefix prefix (rows_of_lines columns before room texts) ≡ whole → whole ≡ Err row.Cells
cells_over prefix columns before room texts line after p values whole e f lt none h =
    let one : rows_of_lines columns before room texts ≡ Err row.Cells = rows_step columns before room texts line after p e ∙ rw (f, lt-ltb before MAX_ROWS lt, none) refl in
    sym h ∙ ap (with_prefix prefix) one

pub rows_more : (prefix : Rows) (columns : List Column) (before room : ℕ) (texts : List (List ℕ)) (line : List ℕ) (after : List ℕ) (p : ℕ → Bool) (values : List Value) (left : ℕ) (whole : Result Rows RowError) → texts ≡ line ∷ slice_split p after
    → row_of columns line ≡ Ok values → before < MAX_ROWS → room_after (cells_of values) room ≡ Some left
    → with_prefix prefix (rows_of_lines columns before room texts) ≡ whole → with_prefix (prefix ++ values ∷ []) (rows_of_lines columns (before + 1) left (slice_split p after)) ≡ whole
rows_more prefix columns before room texts line after p values left whole e f lt some h =
    let one : rows_of_lines columns before room texts ≡ onto values (rows_of_lines columns (before + 1) left (slice_split p after)) = rows_step columns before room texts line after p e ∙ rw (f, lt-ltb before MAX_ROWS lt, some) refl in
    sym (with_prefix-onto prefix values (rows_of_lines columns (before + 1) left (slice_split p after))) ∙ sym (ap (with_prefix prefix) one) ∙ h
