use Rattle.std.proofs.Common.{◌≡◌, ◌-◌, take, drop, map}
use Rattle.std.specs.List.{flat_map}
use Rattle.mt_types.specs.declared.value.AggState.{AggState}
use Rattle.mt_types.specs.declared.value.Value.TheVariants.{State}
use Rattle.mt_types.specs.Items.{item_bytes}
use Rattle.mt_column_codec.proofs.written.states_of.Given as goal

abbrev pub invariant-loop-index : goal.invariant-loop-index
invariant-loop-index l = l.bytes ≡ flat_map (item_bytes l.ty) (take (l.index - l.from) (drop l.from (map (λ (s : AggState). State s) l.states)))
