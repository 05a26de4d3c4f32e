use Rattle.mt_stored.proofs.LawLemmas.{gathered_into}
use Rattle.mt_stored.proofs.law.stored_states_answer_for_rows.Goals as goal

pub returns : goal.returns
returns c = λ keys aggs width query rows stored answers stands before made earlier had merges. gathered_into keys aggs width query rows stored stands answers before made earlier had merges
