use Rattle.std.proofs.Common.{◌≡◌, take}
use Rattle.std.specs.List.{flat_map}
use Rattle.mt_codec.specs.Runs.{size_item}
use Rattle.mt_codec.proofs.encoding.sizes_of.Given as goal

abbrev pub invariant-loop-run : goal.invariant-loop-run
invariant-loop-run l = l.bytes ≡ flat_map (λ run. flat_map size_item run.now) (take l.run-index l.runs)
