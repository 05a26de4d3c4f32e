-- The inputs of a merge: each is there, and they are of one partition and within the limits together (docs/CLI.md, "merge").
use Rattle.std.specs.Prelude.{◌≢◌, ℕ, ◌+◌, ◌≤◌, Bool, true, List, [], ◌∷◌, ◌++◌, length, Option, None, Some, if◌then◌else◌, All, Result, Ok, Err}
use Rattle.std.specs.List.{flat_map}
use Rattle.std.specs.Str.{bytes_eq}
use Rattle.mt_table.specs.declared.definition.Table.{Table}
use Rattle.mt_table.specs.declared.limits.TheConstants.{MAX_CELLS}
use Rattle.mt_shelf.specs.declared.file.Entry.{Entry}
use Rattle.mt_fault.specs.declared.file.FileBytes.{FileBytes}
use Rattle.mt_shelf.specs.Files.{Files, entries_below, listing_of}
use Rattle.mt_defs.specs.Partition.{HaveOnePartition, partition_bytes}
use Rattle.mt_defs.specs.Rows.{Row, RowFits, cell_count}
use Rattle.mt_defs.specs.Writer.{written_folder}
use Rattle.mt_command.specs.Status.{◌>>=◌}
use Rattle.mt_command.specs.Targets.{few_cells, free_target, within_limit}
use Rattle.mt_command.specs.declared.status.Status.{Status}
use Rattle.mt_command.specs.declared.status.Status.TheVariants.{MixedPartitions, NoPart}
use Rattle.mt_merging.specs.Rooms.{within_limits}

-- ---- before any input is read

-- a part of which some file is listed
abbrev pub some_files : List ℕ → Option (List Entry) → Result Unit Status
some_files part None = Err (NoPart part)
some_files part (Some listing) = Ok tt

-- parts that are all there, or the first that isn't
abbrev pub are_there : List (List ℕ) → Files → Result Unit Status
are_there [] files = Ok tt
are_there (part ∷ parts) files = do
  _ ← some_files part (listing_of (entries_below part files))
  are_there parts files

-- inputs that are all there, and then a target that is free
abbrev pub are_ready : List ℕ → List (List ℕ) → Files → Result Unit Status
are_ready target inputs files = do
  _ ← are_there inputs files
  free_target target files

-- ---- an input beside those before it

-- the rows of some inputs, one input after another
abbrev pub all_rows : List (List Row) → List Row
all_rows read = flat_map (λ rows. rows) read

-- whether two lists of rows begin with the same partition value
abbrev pub share_partition : Table → List Row → List Row → Bool
share_partition table (a ∷ _) (b ∷ _) = bytes_eq (partition_bytes table a) (partition_bytes table b)
share_partition table _ _ = true

-- an input of the first one's partition
abbrev pub inputs_partition : Table → List (List Row) → List Row → Result Unit Status
inputs_partition table [] rows = Ok tt
inputs_partition table (first ∷ read) rows = if share_partition table first rows then Ok tt else Err (MixedPartitions (length (first ∷ read) + 1))

-- an input's rows after those that were read: of one partition with them, and within the limits with them
abbrev pub with_input : Table → List (List Row) → List Row → Result (List (List Row)) Status
with_input table read rows = do
  _ ← inputs_partition table read rows
  _ ← within_limits table (all_rows (read ++ rows ∷ []))
  Ok (read ++ rows ∷ [])

-- inputs that were read so
pub record AreInputs (table : Table) (read : List (List Row)) : Type 0 where
  pub some : All (λ rows. rows ≢ []) read
  pub fit : All (λ rows. All (RowFits table.columns) rows) read
  pub one_partition : HaveOnePartition table (all_rows read)
  pub few_cells : cell_count table.columns (all_rows read) ≤ MAX_CELLS

-- ---- the folder

-- the writer's folder of rows, which are within the limits on projections and on a part
abbrev pub folder_of_rows : Table → List Row → Result (List FileBytes) Status
folder_of_rows table rows = do
  _ ← few_cells table rows
  within_limit (written_folder table rows)
