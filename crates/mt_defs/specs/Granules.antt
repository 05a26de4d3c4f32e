-- Granules: the runs of rows that a mark leads to (ClickHouse: MergeTreeIndexGranularity).
use Rattle.std.specs.Prelude.{◌≡◌, ℕ, ◌≤◌, List, [], ◌∷◌, length, take, drop, sum, All}
use Rattle.mt_defs.specs.Rows.{Row}

-- each granule has a row, and each row is in one
pub record AreGranules (granules : List ℕ) (rows : List Row) : Type 0 where
  pub not_empty : All (λ count. 1 ≤ count) granules
  pub all : sum granules ≡ length rows

-- the rows of each granule
abbrev pub granule_rows : List ℕ → List Row → List (List Row)
granule_rows [] rows = []
granule_rows (count ∷ granules) rows = take count rows ∷ granule_rows granules (drop count rows)
