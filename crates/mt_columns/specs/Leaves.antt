-- The innermost values of a column: items, of which some may be NULL: docs/FORMAT.md, "Substreams".
use Rattle.std.specs.Prelude.{◌≡◌, ℕ, ◌-◌, Bool, true, false, ◌==◌, ◌&&◌, ◌||◌, if◌then◌else◌, List, [], ◌∷◌, ◌++◌, map, take, drop, Option, Some, None, slice_index_or, ◌⊎◌}
use Rattle.std.specs.Global.{Vec}
use Rattle.mt_types.specs.declared.value.Value.{Value, out-Value}
use Rattle.mt_types.specs.declared.value.Value.TheVariants.{Null}
use Rattle.mt_types.specs.Fits.{null_at}
use Rattle.mt_defs.specs.Encoding.{is_null}
use Rattle.mt_defs.specs.Lists.{Pointwise}
use Rattle.mt_cells.specs.Items.{ItemKind, fits_items, is_no_huge}

-- NULL where it is so, else the value
abbrev pub null_if : Bool → Value → Value
null_if null value = if null then Null else value

-- NULL where the null map has a 1, and the item's value elsewhere
unfoldable pub nulled : List ℕ → List Value → List Value
nulled (byte ∷ bytes) (value ∷ values) = null_if (byte == 1) value ∷ nulled bytes values
nulled _ _ = []

-- the values of items with a null map, or with none
abbrev pub leaf_values : Option (Vec ℕ) → List Value → List Value
leaf_values None values = values
leaf_values (Some nulls) values = nulled nulls.items values

-- whether there is a null map
abbrev pub is_nullable : Option (Vec ℕ) → Bool
is_nullable None = false
is_nullable (Some nulls) = true

-- a byte of a null map and the item beside it: 0 and a value, or 1 and the default
abbrev pub IsBeside : (default : Value) → ℕ → Value → Type 0
IsBeside default byte item = ((byte ≡ 0) × (is_null item ≡ false)) ⊎ ((byte ≡ 1) × (item ≡ default))

-- a null map, if there is one, has a byte for each item, and the default stands under NULL
abbrev pub HasNulls : (default : Value) → Option (Vec ℕ) → List Value → Type 0
HasNulls default None items = Unit {0}
HasNulls default (Some nulls) items = Pointwise (IsBeside default) nulls.items items

-- whether the null map has a 1 at an index
abbrev pub null_in : Option (Vec ℕ) → ℕ → Bool
null_in None index = false
null_in (Some nulls) index = slice_index_or nulls.items index 0 == 1

-- a null map's bytes at some indexes
abbrev pub AreGathered : (order : List ℕ) (nulls gathered : Option (Vec ℕ)) → Type 0
AreGathered order None gathered = is_nullable gathered ≡ false
AreGathered order (Some nulls) None = true ≡ false
AreGathered order (Some nulls) (Some gathered) = gathered.items ≡ map (λ index. slice_index_or nulls.items index 0) order

-- a null map with a range of another behind
abbrev pub AreMore : (from to : ℕ) (other nulls more : Option (Vec ℕ)) → Type 0
AreMore from to other None more = is_nullable more ≡ false
AreMore from to (Some other) (Some nulls) (Some more) = more.items ≡ nulls.items ++ take (to - from) (drop from other.items)
AreMore from to other (Some nulls) more = true ≡ false

-- whether a value is inside no array: NULL where that may be, or one that items of the kind stand for
abbrev pub leaf_fits : (nullable : Bool) → ItemKind → Value → Bool
leaf_fits nullable kind v = (nullable && null_at (out-Value v)) || fits_items kind v

-- values as they are seen: what they are, and they themselves
pub record Leaved : Type 0 where
  pub nullable : Bool
  pub kind : ItemKind
  pub values : List Value

-- the value at each index is not a Huge
abbrev pub AreNotHuge : List Value → Type 0
AreNotHuge values = (index : ℕ) → is_no_huge (slice_index_or values index Null) ≡ true

-- the items with the default where the null map has a 1
unfoldable pub under_nulls : (default : Value) → List ℕ → List Value → List Value
under_nulls default (byte ∷ bytes) (item ∷ items) = (if byte == 1 then default else item) ∷ under_nulls default bytes items
under_nulls default _ _ = []
