-- The items of a substream, whatever they stand for.
use Rattle.std.specs.Prelude.{Bool, true, false, not, List, map}
use Rattle.mt_types.specs.declared.ty.Ty.TheVariants.{Str}
use Rattle.mt_types.specs.declared.value.AggState.TheVariants.{Count}
use Rattle.mt_types.specs.declared.value.Value.{Value, out-Value}
use Rattle.mt_types.specs.declared.value.Value.TheOpen.{Value-F}
use Rattle.mt_types.specs.declared.value.Value.TheVariants as value
use Rattle.mt_types.specs.Defaults.{default_of}
use Rattle.mt_types.specs.Fits.{Level, fits_of, state_at}
use Rattle.mt_types.specs.Numbers.{is_narrow}
use Rattle.mt_defs.specs.Encoding.{is_null}
use Rattle.mt_cells.specs.declared.kind.Kind.{Kind}
use Rattle.mt_cells.specs.declared.kind.Kind.TheVariants.{Unsigned, Signed}
use Rattle.mt_cells.specs.declared.items.Items.{Items}
use Rattle.mt_cells.specs.declared.items.Items.TheVariants.{Cells, Texts, States}
use Rattle.mt_cells.specs.Kinds.{type_of}

-- the values of the items
abbrev pub items_in : Items → List Value
items_in (Cells cells) = cells.values
items_in (Texts texts) = map (λ text. value.Text text) texts
items_in (States states) = map (λ state. value.State state) states

-- what items stand for
pub data ItemKind : Type 0 where
  -- values of a fixed width
  OfCells : Kind → ItemKind
  -- texts of any length; states
  OfTexts OfStates : ItemKind

-- what these items stand for
abbrev pub kind_in : Items → ItemKind
kind_in (Cells cells) = OfCells cells.kind
kind_in (Texts texts) = OfTexts
kind_in (States states) = OfStates

-- whether a value is one that such items stand for
abbrev pub fits_items : ItemKind → Value → Bool
fits_items (OfCells kind) v = fits_of (type_of kind) v
fits_items OfTexts v = fits_of Str v
fits_items OfStates v = state_at (λ s. true) (out-Value v)

-- the value that stands under NULL; states have no NULL, and a count of no rows is as good as another
abbrev pub default_item : ItemKind → Value
default_item (OfCells kind) = default_of (type_of kind)
default_item OfTexts = default_of Str
default_item OfStates = value.State (Count 0)

-- whether a value is not NULL
abbrev pub is_item : Value → Bool
is_item v = not (is_null v)

-- a Huge, by its level
abbrev pub huge_at : Level → Bool
huge_at (Value-F.Huge n) = true
huge_at _ = false

-- whether a value is not a Huge
abbrev pub is_no_huge : Value → Bool
is_no_huge v = not (huge_at (out-Value v))

-- numbers of at most 64 bits
abbrev pub is_narrow_kind : ItemKind → Bool
is_narrow_kind (OfCells (Unsigned w)) = is_narrow w
is_narrow_kind (OfCells (Signed w)) = is_narrow w
is_narrow_kind _ = false
