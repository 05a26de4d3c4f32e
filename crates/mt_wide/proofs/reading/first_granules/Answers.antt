use Rattle.std.proofs.Common.{ap, ◌∙◌, sum}
use Rattle.mt_granules.specs.PayloadView.{payloads_in}
use Rattle.mt_granules.specs.FileFolder.{indexed_folder}
use Rattle.mt_wide.proofs.ReadingLemmas.{granules_sum}
use Rattle.mt_wide.proofs.reading.first_granules.Goals as goal

pub returns-clause-all : goal.returns-clause-all
returns-clause-all c =
    ap sum c.into_granules.ensures
    ∙ granules_sum (indexed_folder c.args.folder.now) c.args.count _ _ 1 (payloads_in c.in_ok-payloads.payloads) c.in_ok-payloads.ensures.reads
