use Rattle.mt_types.specs.Ordered.{exact_lists}
use Rattle.mt_types.proofs.law.tied_rows_are_the_same.Goals as goal

pub returns : goal.returns
returns c = exact_lists
