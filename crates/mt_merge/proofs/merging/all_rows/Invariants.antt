use Rattle.std.proofs.Common.{◌≡◌}
use Rattle.std.specs.List.{flat_map}
use Rattle.mt_merge.proofs.merging.all_rows.Given as goal

abbrev pub invariant-loop-input : goal.invariant-loop-input
invariant-loop-input l = l.rows.items ≡ flat_map (λ input. input) l.yielded
