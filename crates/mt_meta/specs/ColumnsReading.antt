-- columns.txt, read: docs/FORMAT.md, "Metadata" (ClickHouse: NamesAndTypesList::readText).
use Rattle.std.specs.Prelude.{◌≡◌, ◌≢◌, ℕ, ◌<◌, ◌≤◌, ◌==◌, ◌&&◌, not, Bool, true, false, if◌then◌else◌, List, [], ◌∷◌, ◌++◌, length, map, codes, position, Option, Some, None, option_map, option_and_then, Result}
use Rattle.std.specs.List.{slice_split, list_all}
use Rattle.std.specs.Fmt.{decimal}
use Rattle.std.specs.Str.{bytes_eq}
use Rattle.mt_types.specs.Profile.{is_profile}
use Rattle.mt_table.specs.declared.column.Column.{Column}
use Rattle.mt_table.specs.declared.limits.TheConstants.{MAX_COLUMNS}
use Rattle.mt_fault.specs.declared.fault.Why.{Why}
use Rattle.mt_fault.specs.declared.fault.Why.TheVariants.{Syntax, Columns}
use Rattle.mt_defs.specs.Metadata.{column_at, column_line, columns_text, may_list}
use Rattle.mt_meta.specs.declared.ascii.TheConstants.{LINE_END, BACKQUOTE, BLANK}
use Rattle.mt_types.specs.Steps.{◌>>=◌, ok_or}
use Rattle.mt_meta.specs.Splitting.{split_once}

-- ---- the form

-- a name and what follows its last backquote: a blank and a type's name
abbrev pub is_named : List ℕ → List ℕ → Bool
is_named (first ∷ name) (blank ∷ second ∷ ty) = blank == BLANK
is_named _ _ = false

-- a name is there
abbrev pub has_name : Option (List ℕ × List ℕ) → Bool
has_name (Some (name, rest)) = is_named name rest
has_name None = false

-- a column line: a name in backquotes, a blank and a type's name, neither of them empty
abbrev pub is_column_line : List ℕ → Bool
is_column_line [] = false
is_column_line (quote ∷ line) = (quote == BACKQUOTE) && has_name (split_once BACKQUOTE line)

-- column lines, each ended
unfoldable pub column_lines : List (List ℕ) → Option (List (List ℕ))
column_lines [] = None
column_lines (rest ∷ []) = if length rest == 0 then Some [] else None
column_lines (line ∷ next ∷ more) = if is_column_line line then option_map (λ lines. line ∷ lines) (column_lines (next ∷ more)) else None

abbrev pub version_line : List ℕ
version_line = codes "columns format version: 1"

abbrev pub count_line : ℕ → List ℕ
count_line columns = decimal columns ++ codes " columns:"

-- column lines, if the two lines before them are the version's and their count
abbrev pub if_headed : List ℕ → List ℕ → List (List ℕ) → Option (List (List ℕ))
if_headed version count lines = if bytes_eq version version_line && bytes_eq count (count_line (length lines)) then Some lines else None

-- the column lines of a text's lines
abbrev pub listed_lines : List (List ℕ) → Option (List (List ℕ))
listed_lines (version ∷ count ∷ lines) = option_and_then (if_headed version count) (column_lines lines)
listed_lines _ = None

-- the column lines of a text of the form (1.2)
abbrev pub listing : List ℕ → Option (List (List ℕ))
listing text = listed_lines (slice_split (λ byte. byte == LINE_END) text)

-- ---- the columns

-- the line, with its end, is this text
abbrev pub is_line : List ℕ → List ℕ → Bool
is_line line text = bytes_eq text (line ++ LINE_END ∷ [])

-- which of some columns' lines each line is, by their indexes
unfoldable pub order_of : List (List ℕ) → List (List ℕ) → Option (List ℕ)
order_of columns [] = Some []
order_of columns (line ∷ lines) = option_and_then (λ column_index. option_map (λ order. column_index ∷ order) (order_of columns lines)) (position (is_line line) columns)

-- the order, if a folder may list these of the columns
abbrev pub if_listed : List Column → List ℕ → List ℕ → Option (List ℕ)
if_listed columns must order = if may_list columns must order then Some order else None

-- the columns that a text lists, in its order, by their indexes in the definition; some of them it must list (1.2, 1.3)
unfoldable pub columns_reading : List Column → List ℕ → List ℕ → Result (List ℕ) Why
columns_reading columns must text = do
  lines ← ok_or Syntax (listing text)
  ok_or Columns (option_and_then (if_listed columns must) (order_of (map column_line columns) lines))

-- ---- what is read

-- no byte is this one
abbrev pub lacks : ℕ → List ℕ → Bool
lacks separator bytes = list_all (λ byte. not (byte == separator)) bytes

-- columns that a columns.txt can list: of the profile's types, with different names
pub record CanBeListed (columns : List Column) : Type 0 where
  pub few : length columns ≤ MAX_COLUMNS
  pub types : (i : ℕ) → i < length columns → is_profile (column_at columns i).ty ≡ true
  pub some : (i : ℕ) → i < length columns → (column_at columns i).name ≢ []
  pub one_line : (i : ℕ) → i < length columns → lacks LINE_END (column_at columns i).name ≡ true
  pub unquoted : (i : ℕ) → i < length columns → lacks BACKQUOTE (column_at columns i).name ≡ true
  pub differ : (i j : ℕ) → i < length columns → j < length columns → (column_at columns i).name ≡ (column_at columns j).name → i ≡ j

-- a text lists these of the columns, in this order
pub record Lists (columns : List Column) (must order : List ℕ) (text : List ℕ) : Type 0 where
  pub may : may_list columns must order ≡ true
  pub listed : text ≡ columns_text (map (column_at columns) order)
