use Rattle.mt_blocks.proofs.RowLemmas.{gathered_rows}
use Rattle.mt_blocks.proofs.law.gathered_rows_are_sorted.Goals as goal

pub returns : goal.returns
returns c = gathered_rows
