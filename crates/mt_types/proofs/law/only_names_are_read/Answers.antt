use Rattle.mt_types.proofs.ReadingLemmas.{name_of_type_named}
use Rattle.mt_types.proofs.law.only_names_are_read.Goals as goal

pub returns : goal.returns
returns c = name_of_type_named
