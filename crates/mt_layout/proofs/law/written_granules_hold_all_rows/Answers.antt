use Rattle.mt_layout.proofs.HoldLemmas.{granules_hold}
use Rattle.mt_layout.proofs.law.written_granules_hold_all_rows.Goals as goal

pub returns : goal.returns
returns c = granules_hold
