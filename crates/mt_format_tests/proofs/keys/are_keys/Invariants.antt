use Rattle.std.proofs.Common.{◌≡◌, ◌<◌, true, length, take}
use Rattle.std.specs.Prelude.{All}
use Rattle.mt_item.specs.ItemTypes.{is_scalar}
use Rattle.mt_defs.specs.Metadata.{column_at}
use Rattle.mt_format_tests.proofs.keys.are_keys.Given as goal

abbrev pub invariant-loop-key : goal.invariant-loop-key
invariant-loop-key l = record {
  known : All (λ i. i < length l.columns) (take l.key-index l.keys);
  scalar : All (λ i. is_scalar (column_at l.columns i).ty ≡ true) (take l.key-index l.keys);
}
