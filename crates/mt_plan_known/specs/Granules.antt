-- The test that rows are those of granules.
use Rattle.std.specs.Prelude.{ℕ, ◌&&◌, ◌==◌, nat_le, Bool, List, sum}
use Rattle.std.specs.List.{list_all}

-- each granule has a row, and they have so many together
abbrev pub is_marked : ℕ → List ℕ → Bool
is_marked count granules = list_all (nat_le 1) granules && (sum granules == count)
