-- The rows that each entry of a skip index is over.
use Rattle.std.specs.Prelude.{ℕ, zero, suc, List, [], ◌∷◌, take, drop, sum}

-- how many rows so many granules have together, the last of what is left; no more groups than granules
abbrev pub group_sizes : ℕ → ℕ → List ℕ → List ℕ
group_sizes per_entry zero granules = []
group_sizes per_entry (suc most) [] = []
group_sizes per_entry (suc most) (count ∷ granules) = sum (take per_entry (count ∷ granules)) ∷ group_sizes per_entry most (drop per_entry (count ∷ granules))
