use Rattle.mt_law_written.proofs.SkipSizes.{skip_size}
use Rattle.mt_law_written.proofs.sizes.minmax_indexes_are_small.Goals as goal

pub returns : goal.returns
returns c = skip_size
