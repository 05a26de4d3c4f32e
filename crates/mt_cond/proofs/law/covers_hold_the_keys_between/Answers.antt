use Rattle.mt_cond.proofs.HoldLemmas.{cover_law}
use Rattle.mt_cond.proofs.law.covers_hold_the_keys_between.Goals as goal

pub returns : goal.returns
returns c key lo hi row keys fits = cover_law key lo hi row keys.types keys.lo_fits keys.hi_fits keys.ordered fits
