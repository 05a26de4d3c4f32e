use Rattle.std.proofs.Common.{◌≡◌, [], ◌∷◌, take}
use Rattle.mt_layout.specs.Sizes.{saturated}
use Rattle.mt_layout.proofs.PayloadLemmas.{columns_size}
use Rattle.mt_layout.proofs.rows.row_size.Given as goal

-- the bytes of the row's values so far
abbrev pub invariant-loop-i : goal.invariant-loop-i
invariant-loop-i l = l.size ≡ saturated (columns_size 0 (take l.i l.columns) (l.row ∷ []))
