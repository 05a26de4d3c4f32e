use Rattle.mt_law_written.proofs.DefinitionSizes.{definition_size}
use Rattle.mt_law_written.proofs.sizes.definition_files_are_small.Goals as goal

pub returns : goal.returns
returns c = definition_size
