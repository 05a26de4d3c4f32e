use Rattle.std.proofs.Common.{◌≡◌, map, take, get_or}
use Rattle.mt_types.specs.declared.value.Value.TheVariants.{Null}
use Rattle.mt_columns.specs.Nesting.{AreAlike}
use Rattle.mt_columns.proofs.column.Column.gather_arrays.Given as goal

abbrev pub invariant-loop-index : goal.invariant-loop-index
invariant-loop-index l = AreAlike l.column l.self × (l.column.values ≡ map (λ index. get_or l.self.values index Null) (take l.index-index l.order))
