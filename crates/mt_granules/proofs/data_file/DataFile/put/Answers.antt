use Rattle.std.proofs.Common.{ap, ◌∙◌}
use Rattle.mt_defs.specs.WrittenFrames.{mark_at}
use Rattle.mt_granules.proofs.DataFileLemmas.{pushed}
use Rattle.mt_granules.proofs.data_file.DataFile.put.Goals as goal

pub returns : goal.returns
returns c = λ runs is.
    pushed c.args.self.now.bytes _ _ c.args.self.now.marks _ _ runs (c.mark_at.ensures ∙ ap mark_at c.len.ensures) c.in_ok-put_frames.ensures.ok c.in_ok-push.ensures.ok is
