use Rattle.mt_marks.proofs.RecutLemmas.{payload_read, positions, moved}
use Rattle.mt_marks.proofs.law.frames_may_be_cut_anywhere.Goals as goal

pub returns-clause-read : goal.returns-clause-read
returns-clause-read c = payload_read

pub returns-clause-positions : goal.returns-clause-positions
returns-clause-positions c = positions

pub returns-clause-moved : goal.returns-clause-moved
returns-clause-moved c = moved
