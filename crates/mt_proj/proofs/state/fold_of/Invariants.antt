use Rattle.std.proofs.Common.{◌≡◌, take}
use Rattle.mt_defs.specs.Folds as defined
use Rattle.mt_sort.specs.References.{rows_in}
use Rattle.mt_proj.proofs.state.fold_of.Given as goal

abbrev pub invariant-loop-row : goal.invariant-loop-row
invariant-loop-row l = l.state ≡ defined.fold_of (rows_in (take l.row-index l.rows)) l.aggregate
