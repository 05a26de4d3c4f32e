use Rattle.mt_meta.proofs.ColumnsLaw.{read_lists}
use Rattle.mt_meta.proofs.law.only_lists_are_read.Goals as goal

pub returns : goal.returns
returns c = read_lists
