-- Fields of a line: docs/LANGUAGE.md, "Lines".
use Rattle.std.specs.Prelude.{ℕ, List, [], ◌∷◌, Result, Ok, Err, Bool, false, ◌==◌, ◌&&◌, if◌then◌else◌}
use Rattle.mt_types.specs.declared.ty.Ty.{Ty, out-Ty}
use Rattle.mt_types.specs.declared.ty.Ty.TheOpen.{Ty-F}
use Rattle.mt_types.specs.declared.value.Value.{Value}
use Rattle.mt_types.specs.declared.value.Value.TheVariants.{Null as NullValue}
use Rattle.mt_tsv.specs.declared.ascii.TheConstants.{BACKSLASH}
use Rattle.mt_tsv.specs.declared.fault.RowWhy.{RowWhy}
use Rattle.mt_tsv.specs.declared.fault.RowWhy.TheVariants.{Null}
use Rattle.mt_tsv.specs.Scalars.{scalar_at, scalar_of}
use Rattle.mt_tsv.specs.Arrays.{array_of, element_of}

-- \N, which is NULL
abbrev pub is_null_field : List ℕ → Bool
is_null_field (b ∷ letter ∷ []) = (b == BACKSLASH) && (letter == 78)
is_null_field _ = false

-- a value of a type that isn't Nullable
abbrev pub unless_null_field : List ℕ → Result Value RowWhy → Result Value RowWhy
unless_null_field field reading = if is_null_field field then Err Null else reading

-- the value of a field: NULL only in a Nullable column; an array has NULL in its brackets alone
abbrev pub field_at : Ty-F Ty → List ℕ → Result Value RowWhy
field_at (Ty-F.Nullable inner) field = if is_null_field field then Ok NullValue else scalar_of inner field
field_at (Ty-F.Array inner) field = array_of (element_of inner) field
field_at ty field = unless_null_field field (scalar_at ty field)

-- the value of a field of a column of this type
unfoldable pub field_of : Ty → List ℕ → Result Value RowWhy
field_of ty field = field_at (out-Ty ty) field
