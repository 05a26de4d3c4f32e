use Rattle.mt_law_written.proofs.ShortFiles.{compact_short, wide_short}
use Rattle.mt_law_written.proofs.sizes.written_files_are_short.Goals as goal

pub returns-clause-wide : goal.returns-clause-wide
returns-clause-wide c = wide_short

pub returns-clause-compact : goal.returns-clause-compact
returns-clause-compact c = compact_short
