use Rattle.mt_types.specs.Ordered.{value_total}
use Rattle.mt_types.proofs.law.values_are_totally_ordered.Goals as goal

pub returns : goal.returns
returns c = value_total
