use Rattle.mt_types.specs.Ties.{exact_values}
use Rattle.mt_types.proofs.law.tied_values_are_the_same.Goals as goal

pub returns : goal.returns
returns c = exact_values
