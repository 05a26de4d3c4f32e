use Rattle.std.proofs.Common.{◌≡◌, take}
use Rattle.std.specs.Prelude.{filter}
use Rattle.mt_sort.specs.References.{rows_in}
use Rattle.mt_fold.specs.Answer.{keeps}
use Rattle.mt_exec.proofs.plain.kept_rows.Given as goal

abbrev pub invariant-loop-index : goal.invariant-loop-index
invariant-loop-index l = rows_in l.kept.items ≡ filter (keeps l.cond) (take l.index l.rows)
