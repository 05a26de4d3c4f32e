use Rattle.std.proofs.Common.{◌≡◌, ◌++◌, take}
use Rattle.std.specs.List.{flat_map, enumerate_from}
use Rattle.mt_defs.specs.WrittenColumns.{wide_column}
use Rattle.mt_wide.proofs.writing.write_wide.Given as goal

abbrev pub invariant-loop-column_index : goal.invariant-loop-column_index
invariant-loop-column_index l = l.files.items ≡ l.initial.files.items ++ flat_map (wide_column l.rows l.granules) (take l.column_index (enumerate_from 0 l.columns))
