use Rattle.mt_types.proofs.DefaultLemmas.{default_fits}
use Rattle.mt_types.proofs.law.defaults_fit.Goals as goal

pub returns : goal.returns
returns c = default_fits
