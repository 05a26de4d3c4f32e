use Rattle.std.proofs.Common.{ap}
use Rattle.mt_fault.specs.Faults.{blame}
use Rattle.mt_granules.specs.FileFaults.{frame_fault}
use Rattle.mt_files.proofs.FrameLemmas.{read_of_file}
use Rattle.mt_files.proofs.skip_entries.read_frames.Goals as goal

pub returns-in-Ok : goal.returns-in-Ok
returns-in-Ok c =
    let (blocks, is, laid, ends) = c.in-Ok.ensures.found in
    (blocks, ap (blame (frame_fault c.args.file.now)) (read_of_file c.args.bytes.now blocks is), is, laid, ends)
