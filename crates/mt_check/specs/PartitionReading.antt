-- The files of a partition, which all rows must be of: docs/FORMAT.md, "Partition" and "The first fault".
use Rattle.std.specs.Prelude.{ℕ, not, ◌==◌, Bool, if◌then◌else◌, List, [], ◌∷◌, length, take, Option, Result, Ok}
use Rattle.std.specs.List.{flat_map}
use Rattle.std.specs.Str.{bytes_eq}
use Rattle.mt_fault.specs.declared.file.FileBytes.{FileBytes}
use Rattle.mt_fault.specs.declared.fault.Fault.{Fault}
use Rattle.mt_fault.specs.declared.fault.Why.TheVariants.{Partition, Value}
use Rattle.mt_types.specs.Steps.{◌>>=◌, require}
use Rattle.mt_table.specs.declared.definition.Table.{Table}
use Rattle.mt_defs.specs.Folder.{Folder}
use Rattle.mt_defs.specs.Rows.{Row}
use Rattle.mt_defs.specs.Partition.{partition_name, partition_bytes}
use Rattle.mt_defs.specs.WrittenPartition.{partition_files}
use Rattle.mt_definition.specs.declared.accepted.Accepted.{Accepted}
use Rattle.mt_fault.specs.Faults.{file_fault, granule_fault}
use Rattle.mt_granules.specs.FileFaults.{file_reading}
use Rattle.mt_files.specs.Faults.{none_found}
use Rattle.mt_definition.specs.RowsReading.{first_index, granule_of}

-- the folder has these files, byte by byte
unfoldable pub files_reading : Folder → List FileBytes → Result Unit Fault
files_reading folder [] = Ok tt
files_reading folder (file ∷ files) = do
  bytes ← file_reading folder file.name
  _ ← require (bytes_eq bytes file.bytes) (file_fault file.name Value)
  files_reading folder files

-- the partition value of the first row, in bytes
abbrev pub first_value : Table → List Row → List ℕ
first_value table rows = flat_map (partition_bytes table) (take 1 rows)

-- the row is of another partition than the first row
abbrev pub is_other : Table → List Row → Row → Bool
is_other table rows row = not (bytes_eq (partition_bytes table row) (first_value table rows))

-- the first row of another partition than the first row's, by its index
abbrev pub other_partition : Table → List Row → Option ℕ
other_partition table rows = first_index (is_other table rows) rows

-- partition.dat is there, all rows have one partition value, and the files are those of the rows (7)
unfoldable pub partition_reading : Table → Folder → Accepted → Result Unit Fault
partition_reading table folder accepted =
    if length table.partition == 0 then Ok tt
    else do
      _ ← file_reading folder partition_name
      _ ← none_found (other_partition table accepted.rows) (λ row. granule_fault partition_name (granule_of accepted.granules row) Partition)
      files_reading folder (partition_files table accepted.rows)
