use Rattle.mt_law_written.proofs.MinmaxSizes.{minmax_size}
use Rattle.mt_law_written.proofs.sizes.minmax_files_are_small.Goals as goal

pub returns : goal.returns
returns c = minmax_size
