use Rattle.std.proofs.Common.{◌≡◌, ◌++◌, length, take}
use Rattle.std.specs.Prelude.{codes}
use Rattle.std.specs.Fmt.{decimal}
use Rattle.std.specs.List.{flat_map}
use Rattle.mt_defs.specs.Metadata.{column_line}
use Rattle.mt_meta.proofs.columns.columns_text.Given as goal

abbrev pub invariant-loop-column : goal.invariant-loop-column
invariant-loop-column l = l.text ≡ codes "columns format version: 1\n" ++ decimal (length l.columns) ++ codes " columns:\n" ++ flat_map column_line (take l.column-index l.columns)
