use Rattle.std.proofs.Common.{ap, arith}
use Rattle.mt_codec.proofs.DecodedLemmas.{all_small}
use Rattle.mt_fault.specs.Faults.{blame}
use Rattle.mt_granules.specs.FileFaults.{frame_fault}
use Rattle.mt_granules.proofs.MarkLemmas.{frames_found}
use Rattle.mt_granules.proofs.reading.read_frames.Goals as goal

pub returns-in-Ok-clause-reads : goal.returns-in-Ok-clause-reads
returns-in-Ok-clause-reads c =
    let found = c.in-Ok.ensures.found in
    ap (blame (frame_fault c.args.name.now)) (frames_found c.args.file.now c.in-Ok.frames c.in-Ok.ensures.reads found.3)

pub returns-in-Ok-clause-bytes : goal.returns-in-Ok-clause-bytes
returns-in-Ok-clause-bytes c = all_small c.args.file.now (λ j. omega (arith, c.type_inv.file j))
