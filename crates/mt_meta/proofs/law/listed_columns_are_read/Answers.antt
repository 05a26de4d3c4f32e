use Rattle.mt_meta.proofs.ListedLemmas.{lists_read}
use Rattle.mt_meta.proofs.law.listed_columns_are_read.Goals as goal

pub returns : goal.returns
returns c = lists_read
