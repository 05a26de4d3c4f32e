use Rattle.mt_compact.proofs.CompactLawLemmas.{compact_exactly}
use Rattle.mt_compact.proofs.law.compact_parts_are_read_exactly.Goals as goal

pub returns : goal.returns
returns c = compact_exactly
