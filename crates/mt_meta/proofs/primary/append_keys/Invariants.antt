use Rattle.std.proofs.Common.{◌≡◌, ◌++◌, take}
use Rattle.std.specs.List.{flat_map}
use Rattle.mt_defs.specs.PrimaryIndex.{key_bytes}
use Rattle.mt_meta.proofs.primary.append_keys.Given as goal

abbrev pub invariant-loop-row : goal.invariant-loop-row
invariant-loop-row l = l.out ≡ l.initial.out ++ flat_map (key_bytes l.columns l.keys) (take l.row-index l.rows)
