use Rattle.mt_table_text.proofs.ReadLemmas.{one_answer}
use Rattle.mt_table_text.proofs.law.a_text_defines_one_table.Goals as goal

pub returns : goal.returns
returns c = one_answer
