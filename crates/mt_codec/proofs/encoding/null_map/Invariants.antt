use Rattle.std.proofs.Common.{◌≡◌, take}
use Rattle.std.specs.List.{flat_map}
use Rattle.mt_codec.specs.Runs.{null_item}
use Rattle.mt_codec.proofs.encoding.null_map.Given as goal

abbrev pub invariant-loop-run : goal.invariant-loop-run
invariant-loop-run l = l.bytes ≡ flat_map (λ run. flat_map null_item run.now) (take l.run-index l.runs)
