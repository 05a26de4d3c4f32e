use Rattle.std.proofs.Common.{◌≡◌, ◌++◌, take, map}
use Rattle.mt_table.specs.Stored.{column_at, state_column}
use Rattle.mt_table.proofs.definition.Table.grouped.Given as goal

abbrev pub invariant-loop-aggregate : goal.invariant-loop-aggregate
invariant-loop-aggregate l =
    l.columns ≡ map (column_at l.self.columns) l.keys ++ map (state_column l.self) (take l.aggregate-index l.aggregates)
