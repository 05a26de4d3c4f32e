use Rattle.std.proofs.Common.{◌≡◌, map, take, get_or}
use Rattle.mt_types.specs.declared.value.Value.TheVariants.{Null, State}
use Rattle.mt_cells.proofs.items.gather_states.Given as goal

abbrev pub invariant-loop-index : goal.invariant-loop-index
invariant-loop-index l = map (λ state. State state) l.gathered ≡ map (λ index. get_or (map (λ state. State state) l.states) index Null) (take l.index-index l.order)
