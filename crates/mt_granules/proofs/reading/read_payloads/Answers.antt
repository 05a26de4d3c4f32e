use Rattle.mt_granules.proofs.MarksFileLemmas.{marks_keep}
use Rattle.mt_fault.proofs.FaultLemmas.{blame_ok}
use Rattle.mt_granules.proofs.reading.read_payloads.Goals as goal

pub invariant_of-result : goal.invariant_of-result
invariant_of-result c = record {
  bytes = c.in_ok-frames.ensures.bytes;
  framed = blame_ok _ _ _ c.in_ok-frames.ensures.reads;
  ruled = marks_keep c.args.per_granule c.in_ok-frames.frames _ c.in_ok-marks.marks (blame_ok _ _ _ c.in_ok-marks.ensures.reads);
  complete = c.in_ok-marks.ensures.complete;
}
