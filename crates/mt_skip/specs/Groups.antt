-- The values that each entry of an index is over.
use Rattle.std.specs.Prelude.{ℕ, zero, suc, List, [], ◌∷◌, take, drop, sum}
use Rattle.mt_types.specs.declared.value.Value.{Value}

-- the values of so many granules together, the last of what is left; no more groups than granules
abbrev pub value_groups : ℕ → ℕ → List ℕ → List Value → List (List Value)
value_groups per_entry zero granules values = []
value_groups per_entry (suc most) [] values = []
value_groups per_entry (suc most) (count ∷ granules) values =
    take (sum (take per_entry (count ∷ granules))) values
    ∷ value_groups per_entry most (drop per_entry (count ∷ granules)) (drop (sum (take per_entry (count ∷ granules))) values)
