use Rattle.std.proofs.Common.{◌≡◌, take}
use Rattle.std.specs.List.{flat_map}
use Rattle.mt_codec.specs.Runs.{written_item}
use Rattle.mt_codec.proofs.encoding.items_with.Given as goal

abbrev pub invariant-loop-run : goal.invariant-loop-run
invariant-loop-run l = l.bytes ≡ flat_map (λ run. flat_map (written_item l.ty) run.now) (take l.run-index l.runs)
