use Rattle.std.proofs.Common.{◌≡◌, ◌+◌, ◌∷◌, [], take}
use Rattle.mt_defs.specs.Rows.{column_values}
use Rattle.mt_meta.specs.Minmax.{least_of, greatest_of}
use Rattle.mt_meta.proofs.minmax.minmax.Given as goal

abbrev pub invariant-loop-row : goal.invariant-loop-row
invariant-loop-row l = record {
  least : least_of (column_values l.column_index (take (l.row-index + 1) l.rows)) ≡ l.least ∷ [];
  greatest : greatest_of (column_values l.column_index (take (l.row-index + 1) l.rows)) ≡ l.greatest ∷ [];
}
