-- Tables of two UInt64 columns, sorted by one of them: those whose parts are written today.
use Rattle.std.specs.Prelude.{◌≡◌, ◌≢◌, ◌<◌, ℕ, Bool, true, false, ◌&&◌, ◌==◌, IsTrue, List, [], ◌∷◌, length}
use Rattle.mt_types.specs.declared.ty.Width.TheVariants.{W64}
use Rattle.mt_types.specs.declared.ty.Width.{Width}
use Rattle.mt_types.specs.declared.ty.Ty.{Ty, out-Ty}
use Rattle.mt_types.specs.declared.ty.Ty.TheOpen.{Ty-F}
use Rattle.mt_types.specs.declared.ty.Ty.TheVariants.{UInt}
use Rattle.mt_types.specs.Words.{is_name}
use Rattle.mt_table.specs.declared.column.Column.{Column}
use Rattle.mt_table.specs.declared.definition.Table.{Table}
use Rattle.mt_table.specs.declared.settings.Settings.{Settings}
use Rattle.mt_table.specs.Fields.{Fields, fields}
use Rattle.mt_table.specs.Kept.{keeps_rules}
use Rattle.mt_table.specs.Tables.{fields_of_table, table_with}

-- a column of 64-bit numbers
abbrev pub uint64_column : List ℕ → Column
uint64_column name = record { name = name; ty = UInt W64 }

-- the layout of a Wide part whose granules have so many rows and bytes
abbrev pub wide_settings : (rows bytes : ℕ) → Settings
wide_settings rows bytes = record { granule_rows = rows; granule_bytes = bytes; wide_bytes = 0; wide_rows = 0 }

-- two UInt64 columns, sorted by the one at a place
abbrev pub numbers_fields : (name first second : List ℕ) → (place rows bytes : ℕ) → Fields
numbers_fields name first second place rows bytes =
    fields name (uint64_column first ∷ uint64_column second ∷ []) [] (place ∷ []) 1 [] [] (wide_settings rows bytes)

-- a table of two UInt64 columns
abbrev pub numbers_table : (name first second : List ℕ) → (place rows bytes : ℕ) → IsTrue (keeps_rules (numbers_fields name first second place rows bytes)) → Table
numbers_table name first second place rows bytes rules = table_with (numbers_fields name first second place rows bytes) rules

-- what a table of the form is: two UInt64 columns of different names, one of them the key
pub record IsNumbersTable (table : Table) : Type 0 where
  pub first : List ℕ
  pub second : List ℕ
  pub place : ℕ
  pub rows : ℕ
  pub bytes : ℕ
  pub rules : IsTrue (keeps_rules (numbers_fields table.name first second place rows bytes))
  pub first_name : IsTrue (is_name first)
  pub second_name : IsTrue (is_name second)
  pub differ : first ≢ second
  pub in_columns : place < 2
  pub is : table ≡ numbers_table table.name first second place rows bytes rules

-- ---- the same as a test

-- 64 bits
abbrev pub is_64 : Width → Bool
is_64 W64 = true
is_64 _ = false

abbrev pub is_uint64_at : Ty-F Ty → Bool
is_uint64_at (Ty-F.UInt width) = is_64 width
is_uint64_at _ = false

-- UInt64
abbrev pub is_uint64 : Ty → Bool
is_uint64 ty = is_uint64_at (out-Ty ty)

-- two columns of UInt64
abbrev pub are_two_numbers : List Column → Bool
are_two_numbers (first ∷ second ∷ []) = is_uint64 first.ty && is_uint64 second.ty
are_two_numbers _ = false

-- none
abbrev pub is_empty : {A : Type 0} → List A → Bool
is_empty list = length list == 0

-- two UInt64 columns, one of them the key, nothing else, and parts that are always Wide
abbrev pub is_numbers_form : Fields → Bool
is_numbers_form table =
    (are_two_numbers table.columns && (length table.sort == 1))
    && ((is_empty table.partition && (is_empty table.skips && is_empty table.projections))
    && ((table.settings.wide_bytes == 0) && (table.settings.wide_rows == 0)))

-- so is a table
abbrev pub is_numbers_table : Table → Bool
is_numbers_table table = is_numbers_form (fields_of_table table)
