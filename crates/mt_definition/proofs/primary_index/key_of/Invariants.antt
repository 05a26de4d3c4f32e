use Rattle.std.proofs.Common.{◌≡◌, take}
use Rattle.mt_defs.specs.PrimaryIndex.{key_bytes}
use Rattle.mt_definition.proofs.primary_index.key_of.Given as goal

abbrev pub invariant-loop-place : goal.invariant-loop-place
invariant-loop-place l = l.bytes ≡ key_bytes l.columns (take l.place-index l.key) l.row
