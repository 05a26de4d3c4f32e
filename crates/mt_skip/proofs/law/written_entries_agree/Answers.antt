use Rattle.mt_skip.proofs.EntriesLemmas.{entries_agree}
use Rattle.mt_skip.proofs.law.written_entries_agree.Goals as goal

pub returns : goal.returns
returns c = entries_agree
