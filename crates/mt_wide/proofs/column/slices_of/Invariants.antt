use Rattle.std.proofs.Common.{◌≡◌, map, take}
use Rattle.mt_codec.specs.Results.{bytes_of as slice_bytes}
use Rattle.mt_granules.specs.PayloadView.{bytes_of_payload}
use Rattle.mt_wide.proofs.column.slices_of.Given as goal

abbrev pub invariant-loop-payload : goal.invariant-loop-payload
invariant-loop-payload l = slice_bytes l.slices.items ≡ map bytes_of_payload (take l.payload-index l.payloads)
