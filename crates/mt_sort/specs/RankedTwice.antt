-- Rows beside the ranks of their first two key columns.
use Rattle.std.specs.Prelude.{ℕ, Bool, true, false, ◌&&◌, List, [], ◌∷◌, if◌then◌else◌}
use Rattle.std.specs.Ordering.{ordering_then, nat_cmp}
use Rattle.std.specs.declared.cmp.Ordering.{Ordering}
use Rattle.mt_types.specs.declared.value.Value.{Value}
use Rattle.mt_types.specs.Order.{values_cmp}
use Rattle.mt_defs.specs.Rows.{Row, cell, key_of}
use Rattle.mt_sort.specs.declared.two_ranks.TwoRanks.{TwoRanks}
use Rattle.mt_sort.specs.declared.two_ranks.Scales.{Scales}
use Rattle.mt_sort.specs.Ranks.{is_decided, value_rank}

-- the rank of the second key column, where the rank of the first leaves one value
abbrev pub second_rank : Scales → ℕ → List ℕ → Row → ℕ
second_rank scales first [] row = 0
second_rank scales first (column ∷ others) row = if is_decided scales.first first then value_rank scales.second (cell row column) else 0

-- a row beside its ranks
abbrev pub ranked_row : Scales → List ℕ → Row → TwoRanks
ranked_row scales [] row = record { first = 0; second = 0; row = row }
ranked_row scales (column ∷ others) row =
    let first = value_rank scales.first (cell row column) in
    record { first = first; second = second_rank scales first others row; row = row }

-- whether rows of these ranks have one key
abbrev pub are_decided : Scales → List ℕ → ℕ → ℕ → Bool
are_decided scales [] first second = true
are_decided scales (column ∷ []) first second = is_decided scales.first first
are_decided scales (column ∷ other ∷ []) first second = is_decided scales.first first && is_decided scales.second second
are_decided scales (column ∷ other ∷ third ∷ more) first second = false

-- what is left to compare of a row where ranks tie: nothing, or the whole key
abbrev pub key_left : Scales → List ℕ → TwoRanks → List Value
key_left scales key ranked = if are_decided scales key ranked.first ranked.second then [] else key_of key ranked.row

-- by both ranks, and by what is left where these tie
abbrev pub ranked_cmp : Scales → List ℕ → TwoRanks → TwoRanks → Ordering
ranked_cmp scales key a b =
    ordering_then (nat_cmp a.first b.first) (ordering_then (nat_cmp a.second b.second) (values_cmp (key_left scales key a) (key_left scales key b)))
