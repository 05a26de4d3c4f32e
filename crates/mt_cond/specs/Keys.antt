-- Keys: a value for each column of a key, as they stand in primary.idx (docs/FORMAT.md, "Primary index").
use Rattle.std.specs.Prelude.{◌≡◌, Bool, true, false, ◌&&◌, List, [], ◌∷◌, map, IsTrue}
use Rattle.std.specs.List.{list_all}
use Rattle.std.specs.Ordering.{is_le}
use Rattle.mt_types.specs.declared.ty.Ty.{Ty}
use Rattle.mt_types.specs.declared.value.Value.{Value}
use Rattle.mt_types.specs.Fits.{fits_of}
use Rattle.mt_types.specs.Order.{values_cmp}
use Rattle.mt_table.specs.declared.column.Column.{Column}
use Rattle.mt_table.specs.ColumnTypes.{is_key_type}
use Rattle.mt_table.specs.Stored.{column_at}
use Rattle.mt_defs.specs.Rows.{Row, cell}
use Rattle.mt_cond.specs.declared.types.KeyColumn.{KeyColumn}

-- the types of a key's columns
abbrev pub types_of : List KeyColumn → List Ty
types_of key = map (λ column. column.ty) key

-- each of them may be a key's
abbrev pub are_key_types : List Ty → Bool
are_key_types = list_all is_key_type

-- a key has one fitting value per column
abbrev pub key_fits : List Ty → List Value → Bool
key_fits [] [] = true
key_fits (ty ∷ types) (value ∷ values) = fits_of ty value && key_fits types values
key_fits _ _ = false

-- the key of a row
abbrev pub key_values : List KeyColumn → Row → List Value
key_values key row = map (λ column. cell row column.column) key

-- the key's columns are these ones
abbrev pub KeyOf : List Column → List KeyColumn → Type 0
KeyOf columns [] = Unit {0}
KeyOf columns (column ∷ key) = ((column_at columns column.column).ty ≡ column.ty) × KeyOf columns key

-- two keys, the first not above the second
pub record AreKeys (key : List KeyColumn) (lo hi : List Value) : Type 0 where
  pub types : IsTrue (are_key_types (types_of key))
  pub lo_fits : IsTrue (key_fits (types_of key) lo)
  pub hi_fits : IsTrue (key_fits (types_of key) hi)
  pub ordered : IsTrue (is_le (values_cmp lo hi))
