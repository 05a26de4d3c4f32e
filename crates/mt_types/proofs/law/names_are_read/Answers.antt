use Rattle.mt_types.proofs.NameLemmas.{type_named_of_name}
use Rattle.mt_types.proofs.law.names_are_read.Goals as goal

pub returns : goal.returns
returns c = type_named_of_name
