-- The column of a type: how many arrays are inside each other, whether NULL may be, and what items stand for.
use Rattle.std.specs.Prelude.{◌≡◌, ℕ, suc, Bool, true, false}
use Rattle.mt_types.specs.declared.ty.Width.TheVariants.{W16, W32}
use Rattle.mt_types.specs.declared.ty.Ty.{Ty}
use Rattle.mt_types.specs.declared.ty.Ty.TheOpen.{Ty-F}
use Rattle.mt_types.specs.declared.ty.Ty.TheFolds.{fold-Ty}
use Rattle.mt_cells.specs.declared.kind.Kind.TheVariants as kind
use Rattle.mt_cells.specs.Items.{ItemKind, OfCells, OfTexts, OfStates}
use Rattle.mt_columns.specs.Nesting.{Columned}

-- a column without its values
pub record Shape : Type 0 where
  pub depth : ℕ
  pub nullable : Bool
  pub kind : ItemKind

-- a column of scalars
abbrev pub plain_shape : ItemKind → Shape
plain_shape k = record { depth = 0; nullable = false; kind = k }

-- the shape of a type of this level
abbrev pub shape_step : Ty-F Shape → Shape
shape_step (Ty-F.UInt w) = plain_shape (OfCells (kind.Unsigned w))
shape_step (Ty-F.Int w) = plain_shape (OfCells (kind.Signed w))
shape_step (Ty-F.FixedString size) = plain_shape (OfCells (kind.Text size))
shape_step Ty-F.Str = plain_shape OfTexts
shape_step Ty-F.Date = plain_shape (OfCells (kind.Unsigned W16))
shape_step Ty-F.Moment = plain_shape (OfCells (kind.Unsigned W32))
shape_step (Ty-F.Nullable inner) = record inner { nullable = true }
shape_step (Ty-F.Array inner) = record inner { depth = suc inner.depth }
shape_step (Ty-F.State agg inner) = plain_shape OfStates
shape_step Ty-F.CountState = plain_shape OfStates

-- the shape of a type
abbrev pub shape_of : Ty → Shape
shape_of = fold-Ty Shape shape_step

-- a column's shape
abbrev pub shape_in : Columned → Shape
shape_in column = record { depth = column.depth; nullable = column.nullable; kind = column.kind }

-- the column is of the type
abbrev pub IsOfType : Ty → Columned → Type 0
IsOfType ty column = shape_in column ≡ shape_of ty
