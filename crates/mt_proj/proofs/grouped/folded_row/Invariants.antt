use Rattle.std.proofs.Common.{◌≡◌, ◌++◌, take, map}
use Rattle.mt_types.specs.declared.value.Value.TheVariants.{State}
use Rattle.mt_defs.specs.Folds.{fold_of}
use Rattle.mt_defs.specs.Rows.{key_of}
use Rattle.mt_sort.specs.References.{rows_in}
use Rattle.mt_proj.proofs.grouped.folded_row.Given as goal

abbrev pub invariant-loop-aggregate : goal.invariant-loop-aggregate
invariant-loop-aggregate l =
    l.row ≡ key_of l.columns l.first ++ map (λ aggregate. State (fold_of (rows_in l.run) aggregate)) (take l.aggregate-index l.aggs)
