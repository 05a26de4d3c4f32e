use Rattle.mt_types.proofs.NameLemmas.{type_name_injective}
use Rattle.mt_types.proofs.law.types_have_their_own_names.Goals as goal

pub returns : goal.returns
returns c = type_name_injective
