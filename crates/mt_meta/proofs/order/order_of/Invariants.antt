use Rattle.std.proofs.Common.{◌≡◌, ℕ, List, length, Some}
use Rattle.std.specs.Prelude.{◌==◌}
use Rattle.std.specs.List.{slice_split}
use Rattle.mt_meta.specs.declared.ascii.TheConstants.{LINE_END}
use Rattle.mt_meta.specs.ColumnsReading.{column_lines}
use Rattle.mt_meta.proofs.OrderLemmas.{Reaches}
use Rattle.mt_meta.proofs.order.order_of.Given as goal

abbrev pub invariant-lines : goal.invariant-lines
invariant-lines l = (lines : List (List ℕ)) → column_lines (slice_split (λ byte. byte == LINE_END) l.fn.text) ≡ Some lines → Reaches l.columns lines l.order l.rest

abbrev pub decreases-lines : goal.decreases-lines
decreases-lines l = length l.rest
