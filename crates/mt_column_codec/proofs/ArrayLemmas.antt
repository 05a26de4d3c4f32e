-- Arrays that are read.
use Rattle.std.proofs.Common.{◌≡◌, ℕ, List, [], ◌∷◌, map, take, drop, refl, ap}
use Rattle.mt_types.specs.declared.value.Value.{Value}
use Rattle.mt_types.specs.declared.value.Value.TheVariants.{List as Items}
use Rattle.mt_cells.specs.Pieces.{cut}
use Rattle.mt_codec.specs.ColumnReading.{arrays_from}

-- arrays of these sizes are the pieces of these sizes
pub arrays_cut : (sizes : List ℕ) (elements : List Value) → arrays_from sizes elements ≡ map (λ (xs : List Value). Items xs) (cut sizes elements)
unfolding cut
arrays_cut [] elements = refl
arrays_cut (size ∷ sizes) elements = ap (λ (vs : List Value). Items (take size elements) ∷ vs) (arrays_cut sizes (drop size elements))
