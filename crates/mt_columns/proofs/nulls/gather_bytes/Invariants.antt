use Rattle.std.proofs.Common.{◌≡◌, map, take, get_or}
use Rattle.mt_columns.proofs.nulls.gather_bytes.Given as goal

abbrev pub invariant-loop-index : goal.invariant-loop-index
invariant-loop-index l = l.gathered.items ≡ map (λ index. get_or l.bytes index 0) (take l.index-index l.order)
