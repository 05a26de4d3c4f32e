use Rattle.mt_syntax.proofs.FormedLemmas.{text_is_formed}
use Rattle.mt_table_text.proofs.JudgeLemmas.{judged_keeps}
use Rattle.mt_table_text.proofs.law.judged_tables_keep_the_rules.Goals as goal

pub returns : goal.returns
returns c = λ text sentence fields is judged. judged_keeps sentence fields (text_is_formed text sentence is) judged
