-- What a reader compares of a partition's files: docs/FORMAT.md, "Partition".
use Rattle.std.specs.Prelude.{◌≡◌, List, [], Some, None, All}
use Rattle.mt_table.specs.declared.definition.Table.{Table}
use Rattle.mt_defs.specs.Folder.{Folder}
use Rattle.mt_defs.specs.Partition.{partition_name}
use Rattle.mt_defs.specs.Rows.{Row}
use Rattle.mt_defs.specs.WrittenPartition.{partition_files}

-- a folder has the files that the writer makes of the rows' partition, and without a partition key no partition.dat
pub record HasPartitionFiles (table : Table) (rows : List Row) (folder : Folder) : Type 0 where
  pub files : All (λ file. folder file.name ≡ Some file.bytes) (partition_files table rows)
  pub none : table.partition ≡ [] → folder partition_name ≡ None
