use Rattle.std.proofs.Common.{◌≡◌, drop}
use Rattle.mt_table_names.specs.NameSets.{listed}
use Rattle.mt_table.specs.Names.{are_apart}
use Rattle.mt_table_names.proofs.own.are_apart.Given as goal

abbrev pub invariant-loop-name : goal.invariant-loop-name
invariant-loop-name l = are_apart (listed l.columns) (drop l.name-index l.indexes) ≡ are_apart (listed l.columns) l.indexes
