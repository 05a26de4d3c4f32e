use Rattle.std.proofs.Common.{take}
use Rattle.mt_sort.specs.References.{rows_in}
use Rattle.mt_proj.specs.Runs.{MergeToFolds}
use Rattle.mt_proj.proofs.grouped.merge_to_folds.Given as goal

-- the aggregates so far merge to their folds
abbrev pub invariant-loop-aggregate : goal.invariant-loop-aggregate
invariant-loop-aggregate l = MergeToFolds (take l.aggregate-index l.aggs) l.columns l.aggs (rows_in l.rows) (rows_in l.stored)
