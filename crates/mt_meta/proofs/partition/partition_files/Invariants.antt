use Rattle.std.proofs.Common.{◌≡◌, ◌∷◌, map, take}
use Rattle.std.specs.List.{flat_map}
use Rattle.mt_defs.specs.Partition.{partition_bytes, partition_name}
use Rattle.mt_defs.specs.WrittenColumns.{file}
use Rattle.mt_defs.specs.WrittenPartition.{minmax_file}
use Rattle.mt_meta.proofs.partition.partition_files.Given as goal

abbrev pub invariant-loop-column_index : goal.invariant-loop-column_index
invariant-loop-column_index l =
    l.files ≡ file partition_name (flat_map (partition_bytes l.table) (take 1 l.rows)) ∷ map (minmax_file l.table l.rows) (take l.column_index-index l.column_index-items)
