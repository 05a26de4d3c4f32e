use Rattle.mt_compact.proofs.CompactLawLemmas.{one_list}
use Rattle.mt_compact.proofs.law.compact_parts_have_one_list_of_rows.Goals as goal

pub returns : goal.returns
returns c = one_list
