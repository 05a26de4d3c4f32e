use Rattle.mt_types.specs.Ordered.{values_total}
use Rattle.mt_types.proofs.law.rows_are_totally_ordered.Goals as goal

pub returns : goal.returns
returns c = values_total
