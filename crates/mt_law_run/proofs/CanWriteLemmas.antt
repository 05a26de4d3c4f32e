-- Where a write is possible, its steps give a folder.
use Rattle.std.proofs.Common.{◌≡◌, ◌≢◌, ℕ, ◌+◌, ◌≤◌, true, false, List, [], ◌∷◌, length, None, Result, Ok, refl, ap, ◌∙◌}
use Rattle.std.proofs.lemmas.Bool.{le-ltb}
use Rattle.std.proofs.lemmas.List.Elements.{All-head, All-tail}
use Rattle.std.proofs.lemmas.Slice.Eq.{bytes_eq-Decides}
use Rattle.std.specs.Prelude.{All}
use Rattle.mt_fault.specs.declared.file.FileBytes.{FileBytes}
use Rattle.mt_shelf.specs.Files.{Files, stands}
use Rattle.mt_table.specs.declared.definition.Table.{Table}
use Rattle.mt_tsv.specs.Reading.{rows_reading}
use Rattle.mt_defs.specs.Partition.{HaveOnePartition, partition_bytes}
use Rattle.mt_defs.specs.Rows.{Row}
use Rattle.mt_defs.specs.Sorting.{sorted_rows}
use Rattle.mt_defs.specs.Writer.{written_folder}
use Rattle.mt_defs.proofs.PartitionLemmas.{as_first}
use Rattle.mt_command.specs.Status.{◌>>=◌, refused_by, status_of_rows}
use Rattle.mt_command.specs.Tables.{table_in}
use Rattle.mt_command.specs.Targets.{few_cells, folder_bytes, within_limit}
use Rattle.mt_command.specs.declared.limits.TheConstants.{MAX_FOLDER, MAX_INPUT}
use Rattle.mt_command.specs.declared.status.Status.{Status}
use Rattle.mt_writing.specs.Partitions.{are_together, no_other, lines_partition, other_line}
use Rattle.mt_writing.specs.Write.{folder_for, folder_in, folder_of_text, input_text, rows_of_text, some_input, table_for}
use Rattle.mt_law_run.specs.Published.{CanWrite}

-- no line is of another partition
none_other : (table : Table) (first : Row) (line : ℕ) (rows : List Row) → All (λ row. partition_bytes table first ≡ partition_bytes table row) rows
    → other_line table first line rows ≡ None
unfolding other_line
none_other table first line [] all = refl
none_other table first line (row ∷ rows) all =
    let P : Row → Type 0 = λ row. partition_bytes table first ≡ partition_bytes table row in
    let here : are_together table first row ≡ true = (bytes_eq-Decides (partition_bytes table first) (partition_bytes table row)).1 (All-head P row rows all) in
    rw here (none_other table first (line + 1) rows (All-tail P row rows all))

is_one : (table : Table) (rows : List Row) → HaveOnePartition table rows → lines_partition table rows ≡ Ok tt
is_one table [] one = refl
is_one table (first ∷ rows) one = ap no_other (none_other table first 1 (first ∷ rows) (as_first table first rows one))

text_given : (input : List ℕ) → input ≢ [] → length input ≤ MAX_INPUT → input_text input ≡ Ok input
text_given input some short = let test = le-ltb MAX_INPUT (length input) short in rw test (by input some)
  where
    by : (bytes : List ℕ) → bytes ≢ [] → some_input bytes ≡ Ok bytes
    by [] some = absurd (some refl)
    by (byte ∷ more) some = refl

rows_given : (table : Table) (input : List ℕ) (rows : List Row) → rows_reading table.columns input ≡ Ok rows → rows_of_text table input ≡ Ok rows
unfolding rows_of_text
rows_given table input rows is = ap (refused_by status_of_rows) is

made : (table : Table) (input : List ℕ) (rows : List Row) → rows_of_text table input ≡ Ok rows → few_cells table rows ≡ Ok tt → lines_partition table rows ≡ Ok tt
    → within_limit (written_folder table (sorted_rows table.sort rows)) ≡ Ok (written_folder table (sorted_rows table.sort rows)) → folder_of_text table input ≡ Ok (written_folder table (sorted_rows table.sort rows))
unfolding folder_of_text
made table input rows read few one small = rw (read, few, one) small

pub within_given : (folder : List FileBytes) → folder_bytes folder ≤ MAX_FOLDER → within_limit folder ≡ Ok folder
within_given folder small = let test = le-ltb MAX_FOLDER (folder_bytes folder) small in rw test refl

table_given : (path part : List ℕ) (files : Files) (table : Table) → table_in path files ≡ Ok table → stands part files ≡ false
    → table_for path part files ≡ Ok table
table_given path part files table known free = rw (known, free) refl

pub can_write : (files : Files) (path part input : List ℕ) (table : Table) (rows : List Row) → CanWrite files path part input table rows
    → folder_in path part files input ≡ Ok (written_folder table (sorted_rows table.sort rows))
can_write files path part input table rows can =
    let text = text_given input can.some can.short in
    let folder = made table input rows (rows_given table input rows can.rows_are) can.projections (is_one table rows can.one_partition) (within_given (written_folder table (sorted_rows table.sort rows)) can.small) in
    let given : folder_for table input ≡ Ok (written_folder table (sorted_rows table.sort rows)) = ap (λ (r : Result (List ℕ) Status). r >>= folder_of_text table) text ∙ folder in
    ap (λ (r : Result Table Status). r >>= λ table. folder_for table input) (table_given path part files table can.table_is can.free) ∙ given
