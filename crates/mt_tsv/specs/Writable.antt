-- The types of columns that have lines.
use Rattle.std.specs.Prelude.{Bool, true, false}
use Rattle.mt_types.specs.declared.ty.Ty.{Ty}
use Rattle.mt_types.specs.Profile.{Kind, Stored, Unknown, kind_of}

-- a type of the profile that is no state
abbrev pub is_column_kind : Kind → Bool
is_column_kind Stored = false
is_column_kind Unknown = false
is_column_kind _ = true

-- a type that a column of a table may have
abbrev pub is_written_type : Ty → Bool
is_written_type ty = is_column_kind (kind_of ty)
