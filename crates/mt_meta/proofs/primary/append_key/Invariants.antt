use Rattle.std.proofs.Common.{◌≡◌, ◌++◌, take}
use Rattle.mt_defs.specs.PrimaryIndex.{key_bytes}
use Rattle.mt_meta.proofs.primary.append_key.Given as goal

abbrev pub invariant-loop-key : goal.invariant-loop-key
invariant-loop-key l = l.out ≡ l.initial.out ++ key_bytes l.columns (take l.key-index l.keys) l.row
