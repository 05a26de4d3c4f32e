-- Values of a type, and the items that bytes hold.
use Rattle.std.specs.Prelude.{◌≡◌, ℕ, true, IfSome, List, length, Option, Some, All}
use Rattle.std.specs.List.{flat_map}
use Rattle.mt_types.specs.declared.ty.Ty.{Ty}
use Rattle.mt_types.specs.declared.value.Value.{Value}
use Rattle.mt_types.specs.Fits.{fits_of}
use Rattle.mt_types.specs.Items.{item_bytes}

-- values of a type
abbrev pub AllFit : Ty → List Value → Type 0
AllFit ty values = All (λ value. fits_of ty value ≡ true) values

-- the bytes are the items of so many values
pub record AreItems (ty : Ty) (count : ℕ) (bytes : List ℕ) (values : List Value) : Type 0 where
  pub fit : AllFit ty values
  pub counted : length values ≡ count
  pub encoded : bytes ≡ flat_map (item_bytes ty) values

-- the values whose items the bytes are; or nothing, where there are none
pub record ReadsItems (ty : Ty) (count : ℕ) (bytes : List ℕ) (read : Option (List Value)) : Type 0 where
  pub found : IfSome read (AreItems ty count bytes)
  pub only : (values : List Value) → AreItems ty count bytes values → read ≡ Some values
