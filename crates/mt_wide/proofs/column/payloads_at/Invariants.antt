use Rattle.std.proofs.Common.{◌≡◌, map, take}
use Rattle.mt_granules.specs.PayloadView.{bytes_of_payload}
use Rattle.mt_wide.specs.StreamView.{streams_in}
use Rattle.mt_wide.specs.WideReading.{payloads_at}
use Rattle.mt_wide.proofs.column.payloads_at.Given as goal

abbrev pub invariant-loop-stream : goal.invariant-loop-stream
invariant-loop-stream l = map bytes_of_payload l.payloads.items ≡ payloads_at l.granule (streams_in (take l.stream-index l.streams))
