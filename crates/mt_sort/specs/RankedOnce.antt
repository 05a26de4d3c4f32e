-- Rows beside the rank of their one key column.
use Rattle.std.specs.Prelude.{ℕ, List, [], ◌∷◌, if◌then◌else◌}
use Rattle.std.specs.Ordering.{ordering_then, nat_cmp}
use Rattle.std.specs.declared.cmp.Ordering.{Ordering}
use Rattle.mt_types.specs.declared.value.Value.{Value}
use Rattle.mt_types.specs.Order.{values_cmp}
use Rattle.mt_defs.specs.Rows.{Row, cell, key_of}
use Rattle.mt_sort.specs.declared.rank.Scale.{Scale}
use Rattle.mt_sort.specs.declared.one_rank.OneRank.{OneRank}
use Rattle.mt_sort.specs.Ranks.{is_decided, value_rank}

-- a row beside the rank of a column
abbrev pub ranked_row : Scale → ℕ → Row → OneRank
ranked_row scale column row = record { rank = value_rank scale (cell row column); row = row }

-- what is left to compare of a row where ranks tie: nothing, or its value
abbrev pub key_left : Scale → ℕ → OneRank → List Value
key_left scale column ranked = if is_decided scale ranked.rank then [] else key_of (column ∷ []) ranked.row

-- by rank, and by what is left where ranks tie
abbrev pub ranked_cmp : Scale → ℕ → OneRank → OneRank → Ordering
ranked_cmp scale column a b = ordering_then (nat_cmp a.rank b.rank) (values_cmp (key_left scale column a) (key_left scale column b))
