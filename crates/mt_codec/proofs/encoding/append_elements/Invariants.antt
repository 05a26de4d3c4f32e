use Rattle.std.proofs.Common.{◌≡◌, ◌++◌, take}
use Rattle.std.specs.List.{flat_map}
use Rattle.mt_types.specs.declared.value.Value.{out-Value}
use Rattle.mt_defs.specs.WrittenStreams.{elements_at}
use Rattle.mt_codec.specs.Runs.{values_of}
use Rattle.mt_codec.proofs.encoding.append_elements.Given as goal

abbrev pub invariant-loop-value : goal.invariant-loop-value
invariant-loop-value l = values_of l.out.items ≡ values_of l.initial.out.items ++ flat_map (λ value. elements_at (out-Value value)) (take l.value-index l.values)
