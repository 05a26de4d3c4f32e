use Rattle.mt_stored.proofs.OrderLemmas.{columns_stand}
use Rattle.mt_stored.proofs.law.stored_columns_answer_for_rows.Goals as goal

pub returns : goal.returns
returns c = λ places width query rows stored passes moved partial before had. columns_stand places width query partial before rows stored passes moved had
