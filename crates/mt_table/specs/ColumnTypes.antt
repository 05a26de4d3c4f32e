-- The types of columns, as a table text has them and as keys want them: docs/LANGUAGE.md, "Table text".
use Rattle.std.specs.Prelude.{ℕ, Bool, true, false, not, ◌&&◌, List, Option, Some, None, slice_get}
use Rattle.std.specs.List.{find}
use Rattle.std.specs.Str.{bytes_eq}
use Rattle.mt_types.specs.declared.ty.Ty.{Ty, out-Ty}
use Rattle.mt_types.specs.declared.ty.Ty.TheOpen.{Ty-F}
use Rattle.mt_types.specs.Numbers.{is_narrow}
use Rattle.mt_types.specs.Profile.{is_profile}
use Rattle.mt_table.specs.declared.column.Column.{Column}

-- a state of an aggregate
abbrev pub is_state_at : Ty-F Ty → Bool
is_state_at (Ty-F.State agg inner) = true
is_state_at Ty-F.CountState = true
is_state_at _ = false

-- a type of states
abbrev pub is_state_type : Ty → Bool
is_state_type ty = is_state_at (out-Ty ty)

-- a type of the profile that is no state
abbrev pub is_column_type : Ty → Bool
is_column_type ty = is_profile ty && not (is_state_type ty)

-- an integer of at most 64 bits: what sum is over
abbrev pub is_integer_at : Ty-F Ty → Bool
is_integer_at (Ty-F.UInt width) = is_narrow width
is_integer_at (Ty-F.Int width) = is_narrow width
is_integer_at _ = false

-- a Date
abbrev pub is_date_at : Ty-F Ty → Bool
is_date_at Ty-F.Date = true
is_date_at _ = false

-- an integer, FixedString, String, Date or DateTime('UTC')
abbrev pub is_key_at : Ty-F Ty → Bool
is_key_at (Ty-F.UInt width) = true
is_key_at (Ty-F.Int width) = true
is_key_at (Ty-F.FixedString size) = true
is_key_at Ty-F.Str = true
is_key_at Ty-F.Date = true
is_key_at Ty-F.Moment = true
is_key_at _ = false

-- a type that sum is over
abbrev pub is_integer_type : Ty → Bool
is_integer_type ty = is_integer_at (out-Ty ty)

-- a type that toYYYYMM is over
abbrev pub is_date_type : Ty → Bool
is_date_type ty = is_date_at (out-Ty ty)

-- the types that a key, a partition key and a skip index may have
abbrev pub is_key_type : Ty → Bool
is_key_type ty = is_key_at (out-Ty ty)

-- there is a column, and its type passes the test
abbrev pub column_has : (Ty → Bool) → Option Column → Bool
column_has test None = false
column_has test (Some column) = test column.ty

-- the column of a name
abbrev pub column_named : List Column → List ℕ → Option Column
column_named columns name = find (λ column. bytes_eq name column.name) columns

-- the column of this name has a type that passes the test
abbrev pub named_has : (Ty → Bool) → List Column → List ℕ → Bool
named_has test columns name = column_has test (column_named columns name)

-- the column at this place has a type that passes the test
abbrev pub place_has : (Ty → Bool) → List Column → ℕ → Bool
place_has test columns place = column_has test (slice_get columns place)
