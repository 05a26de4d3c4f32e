use Rattle.std.proofs.Common.{◌≡◌, take}
use Rattle.std.specs.List.{flat_map}
use Rattle.mt_types.specs.declared.value.Value.{out-Value}
use Rattle.mt_defs.specs.WrittenStreams.{elements_at}
use Rattle.mt_codec.specs.Runs.{values_of}
use Rattle.mt_codec.proofs.encoding.elements_of.Given as goal

abbrev pub invariant-loop-run : goal.invariant-loop-run
invariant-loop-run l = values_of l.found.items ≡ flat_map (λ run. flat_map (λ value. elements_at (out-Value value)) run.now) (take l.run-index l.runs)
