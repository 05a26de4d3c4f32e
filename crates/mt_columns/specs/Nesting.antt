-- Values inside arrays, by the sizes of the arrays of each level: docs/FORMAT.md, "Substreams".
use Rattle.std.specs.Prelude.{◌≡◌, ℕ, zero, suc, Bool, true, false, List, [], ◌∷◌, ◌++◌, length, map, sum, take, drop}
use Rattle.std.specs.List.{list_all}
use Rattle.mt_types.specs.declared.value.Value.{Value, out-Value}
use Rattle.mt_types.specs.declared.value.Value.TheVariants.{List as Items}
use Rattle.mt_types.specs.Fits.{list_at}
use Rattle.mt_cells.specs.Items.{ItemKind}
use Rattle.mt_cells.specs.Pieces.{cut}
use Rattle.mt_columns.specs.Leaves.{Leaved, leaf_fits}

-- the values at the outermost level
abbrev pub nested_values : List (List ℕ) → List Value → List Value
nested_values [] values = values
nested_values (sizes ∷ levels) values = map (λ items. Items items) (cut sizes (nested_values levels values))

-- the values one level below
abbrev pub inner_values : List (List ℕ) → List Value → List Value
inner_values [] values = []
inner_values (sizes ∷ levels) values = nested_values levels values

-- whether there is a level of arrays
abbrev pub has_arrays : List (List ℕ) → Bool
has_arrays [] = false
has_arrays (sizes ∷ levels) = true

-- the arrays of each level have all values of the level below
abbrev pub AreNested : List (List ℕ) → List Value → Type 0
AreNested [] values = Unit {0}
AreNested (sizes ∷ levels) values = (length (nested_values levels values) ≡ sum sizes) × AreNested levels values

-- whether a value is so many arrays inside each other, of values that pass a test
abbrev pub fits_depth : (Value → Bool) → (depth : ℕ) → Value → Bool
fits_depth test zero v = test v
fits_depth test (suc depth) v = list_at (list_all (fits_depth test depth)) (out-Value v)

-- these values more at a level, where the levels above are as they were
pub record IsPushed (level : ℕ) (levels levels' : List (List ℕ)) (leaf leaf' : Leaved) (more : List Value) : Type 0 where
  pub many : length levels' ≡ length levels
  pub above : take level levels' ≡ take level levels
  pub kind : leaf'.kind ≡ leaf.kind
  pub nullable : leaf'.nullable ≡ leaf.nullable
  pub values : nested_values (drop level levels') leaf'.values ≡ nested_values (drop level levels) leaf.values ++ more
  pub nested : AreNested (drop level levels') leaf'.values

-- a column as it is seen: how many arrays are inside each other, what is inside them, and the values
pub record Columned : Type 0 where
  pub depth : ℕ
  pub nullable : Bool
  pub kind : ItemKind
  pub values : List Value

-- columns of one shape
abbrev pub AreAlike : Columned → Columned → Type 0
AreAlike column other = (column.depth ≡ other.depth) × (column.nullable ≡ other.nullable) × (column.kind ≡ other.kind)

-- whether a value is one that the column may have
abbrev pub fits_column : Columned → Value → Bool
fits_column column v = fits_depth (leaf_fits column.nullable column.kind) column.depth v
