-- Lines as rows: docs/LANGUAGE.md, "Lines".
use Rattle.std.specs.Prelude.{ℕ, ◌+◌, List, [], ◌∷◌, length, Result, Ok, Err, Option, Some, None, nat_lt, ◌==◌}
use Rattle.std.specs.List.{slice_split}
use Rattle.mt_types.specs.declared.value.Value.{Value}
use Rattle.mt_table.specs.declared.column.Column.{Column}
use Rattle.mt_tsv.specs.declared.ascii.TheConstants.{TAB, LINE_END}
use Rattle.mt_table.specs.declared.limits.TheConstants.{MAX_ROWS, MAX_CELLS}
use Rattle.mt_tsv.specs.declared.fault.RowWhy.{RowWhy}
use Rattle.mt_tsv.specs.declared.fault.RowWhy.TheVariants.{NoLineEnd, Columns}
use Rattle.mt_tsv.specs.declared.fault.RowError.{RowError}
use Rattle.mt_tsv.specs.declared.fault.RowError.TheVariants as row
use Rattle.mt_tsv.specs.declared.fault.FieldError.{FieldError}
use Rattle.mt_tsv.specs.declared.fault.FieldError.TheVariants as field
use Rattle.mt_types.specs.Steps.{◌>>=◌, onto}
use Rattle.mt_tsv.specs.Results.{unless_bad}
use Rattle.mt_tsv.specs.Cells.{cells_of, room_after}
use Rattle.mt_tsv.specs.Fields.{field_of}

-- the values of fields, one for each column
unfoldable pub field_values : List Column → List (List ℕ) → Result (List Value) RowWhy
field_values (column ∷ columns) (field ∷ fields) = do
  value ← field_of column.ty field
  onto value (field_values columns fields)
field_values _ _ = Ok []

-- what stands between separators, after one of them; nothing where there is none
abbrev pub parts : ℕ → Option (List ℕ) → List (List ℕ)
parts end (Some rest) = slice_split (λ b. b == end) rest
parts end None = []

-- the fields of a line
abbrev pub line_fields : List ℕ → List (List ℕ)
line_fields line = slice_split (λ b. b == TAB) line

-- the row of a line
unfoldable pub row_of : List Column → List ℕ → Result (List Value) RowWhy
row_of columns line = unless_bad (length (line_fields line) == length columns) Columns (field_values columns (line_fields line))

-- the lines, and what stands after the last line end
abbrev pub lines : List ℕ → List (List ℕ)
lines text = slice_split (λ b. b == LINE_END) text

-- what is wrong with a line, as what is wrong with the text
abbrev pub on_line : {A : Type 0} → ℕ → Result A RowWhy → Result A RowError
on_line line (Ok x) = Ok x
on_line line (Err why) = Err (row.At line why)

-- the same of what code returns
abbrev pub error_at : ℕ → FieldError → RowError
error_at line (field.Bad why) = row.At line why
error_at line field.NoMemory = row.NoMemory

-- the room for more cells, where there is some
abbrev pub with_room : {A : Type 0} → Option ℕ → (ℕ → Result A RowError) → Result A RowError
with_room (Some room) next = next room
with_room None next = Err row.Cells

-- the rows of lines, where so many lines came before and so many cells have room
unfoldable pub rows_of_lines : List Column → ℕ → ℕ → List (List ℕ) → Result (List (List Value)) RowError
rows_of_lines columns before room [] = Ok []
rows_of_lines columns before room (rest ∷ []) = unless_bad (length rest == 0) (row.At (before + 1) NoLineEnd) (Ok [])
rows_of_lines columns before room (line ∷ next ∷ more) = do
  values ← on_line (before + 1) (row_of columns line)
  unless_bad (nat_lt before MAX_ROWS) row.Rows
      (with_room (room_after (cells_of values) room) λ left. onto values (rows_of_lines columns (before + 1) left (next ∷ more)))

-- the rows of a text
unfoldable pub rows_reading : List Column → List ℕ → Result (List (List Value)) RowError
rows_reading columns text = rows_of_lines columns 0 MAX_CELLS (lines text)
