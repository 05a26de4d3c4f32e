-- What `write` publishes is the folder of writable rows, and so stands for them.
use Rattle.std.proofs.Common.{◌≡◌, ◌≢◌, ℕ, Bool, true, false, List, [], ◌≤◌, get_or, All, Result, Ok, Err, refl, ap, sym, subst, arith}
use Rattle.std.specs.Prelude.{nat_lt}
use Rattle.std.specs.List.{list_all, list_any}
use Rattle.mt_facts.proofs.Lists.{none_passes}
use Rattle.mt_types.specs.Bytes.{is_byte}
use Rattle.mt_fault.specs.declared.file.FileBytes.{FileBytes}
use Rattle.mt_table.specs.declared.definition.Table.{Table}
use Rattle.mt_table.specs.declared.limits.TheConstants.{MAX_CELLS}
use Rattle.mt_table.specs.Rows.{cell_count}
use Rattle.mt_tsv.specs.declared.fault.RowError.{RowError}
use Rattle.mt_tsv.specs.Reading.{rows_reading}
use Rattle.mt_tsv.proofs.RowLimits as limits
use Rattle.mt_tsv.proofs.RowsFit.{rows_fit}
use Rattle.mt_defs.specs.Folder as folders
use Rattle.mt_defs.specs.Part.{StandsFor}
use Rattle.mt_defs.specs.Rows.{Row, RowFits}
use Rattle.mt_defs.specs.Sorting.{sorted_rows}
use Rattle.mt_defs.specs.Writer.{IsWritable, written_folder}
use Rattle.mt_defs.specs.WrittenGranules.{written_granules}
use Rattle.mt_defs.proofs.Sorted.{IsSorted-sorted_rows, All-sorted_rows, cell_count-sorted_rows, length-sorted_rows, some_sorted_rows}
use Rattle.mt_defs.proofs.PartitionLemmas.{sorted_one}
use Rattle.mt_law_written.proofs.StandLemmas.{written_stands}
use Rattle.mt_meta.proofs.InnerLemmas.{projections_kept}
use Rattle.mt_command.specs.Status.{◌>>=◌, refused_by, status_of_rows}
use Rattle.mt_writing.specs.Partitions.{lines_partition}
use Rattle.mt_writing.specs.Write.{folder_of_text, rows_of_text}
use Rattle.mt_command.specs.Targets.{few_cells, folder_bytes, has_many_cells, within_limit}
use Rattle.mt_command.specs.declared.limits.TheConstants.{MAX_FOLDER}
use Rattle.mt_command.specs.declared.status.Status.{Status}
use Rattle.mt_command.specs.declared.status.Status.TheVariants.{TooMuch}
use Rattle.mt_command.specs.declared.status.What.TheVariants as what
use Rattle.mt_writing.proofs.PartitionLemmas.{have_one}
use Rattle.mt_command.proofs.ProjectionParts.{projection_part}

-- ---- steps that were passed

-- what a step gave, and what those after it made of it
pub record Passed {A B : Type 0} (first : Result A Status) (rest : A → Result B Status) (made : B) : Type 0 where
  pub gave : A
  pub given : first ≡ Ok gave
  pub later : rest gave ≡ Ok made

passed : {A B : Type 0} (first : Result A Status) (rest : A → Result B Status) (made : B) → (first >>= rest) ≡ Ok made → Passed first rest made
passed (Ok gave) rest made e = record { gave = gave; given = refl; later = e }
passed (Err status) rest made e = cc

at_once : {A B : Type 0} (first : Result A Status) (rest : A → Result B Status) (x : A) (made : B) → first ≡ Ok x → (first >>= rest) ≡ Ok made → rest x ≡ Ok made
at_once (Ok y) rest x made is e = let same : y ≡ x = cc in subst (λ z. rest z ≡ Ok made) same e
at_once (Err status) rest x made is e = cc

read_rows : {A : Type 0} (reading : Result A RowError) (rows : A) → refused_by status_of_rows reading ≡ Ok rows → reading ≡ Ok rows
read_rows (Ok x) rows e = let same : x ≡ rows = cc in ap Ok same
read_rows (Err error) rows e = cc

pub rows_read : (table : Table) (text : List ℕ) (rows : List Row) → rows_of_text table text ≡ Ok rows → rows_reading table.columns text ≡ Ok rows
unfolding rows_of_text
rows_read table text rows e = read_rows (rows_reading table.columns text) rows e

-- a folder within the limit is the one that was made
pub within : (folder files : List FileBytes) (much : Bool) → nat_lt MAX_FOLDER (folder_bytes folder) ≡ much → within_limit folder ≡ Ok files → files ≡ folder
within folder files true is e = let never : within_limit folder ≡ Err (TooMuch what.Part MAX_FOLDER) = rw is refl in cc
within folder files false is e = let made : within_limit folder ≡ Ok folder = rw is refl in let same : folder ≡ files = cc in sym same

-- no projection has too many cells
few_each : (table : Table) (rows : List Row) (many : Bool) → list_any (has_many_cells table rows) table.projections ≡ many → few_cells table rows ≡ Ok tt → All (λ projection. has_many_cells table rows projection ≡ false) table.projections
few_each table rows true is e = let never : few_cells table rows ≡ Err (TooMuch what.Cells MAX_CELLS) = rw is refl in cc
few_each table rows false is e = none_passes (has_many_cells table rows) table.projections is

-- ---- the law

-- what the steps let pass
pub record Accepted (table : Table) (text : List ℕ) (rows : List Row) (files : List FileBytes) : Type 0 where
  pub reads : rows_reading table.columns text ≡ Ok rows
  pub few : All (λ projection. has_many_cells table rows projection ≡ false) table.projections
  pub one : lines_partition table rows ≡ Ok tt
  pub made : files ≡ written_folder table (sorted_rows table.sort rows)

accepted : (table : Table) (text : List ℕ) (rows : List Row) (files : List FileBytes) → rows_of_text table text ≡ Ok rows → folder_of_text table text ≡ Ok files → Accepted table text rows files
unfolding folder_of_text
accepted table text rows files read made =
    let steps = at_once (rows_of_text table text) (λ found. few_cells table found >>= λ _. lines_partition table found >>= λ _. within_limit (written_folder table (sorted_rows table.sort found))) rows files read made in
    let cells = passed (few_cells table rows) (λ _. lines_partition table rows >>= λ _. within_limit (written_folder table (sorted_rows table.sort rows))) files steps in
    let one = passed (lines_partition table rows) (λ _. within_limit (written_folder table (sorted_rows table.sort rows))) files cells.later in
    record {
      reads = rows_read table text rows read;
      few = few_each table rows (list_any (has_many_cells table rows) table.projections) refl cells.given;
      one = one.given;
      made = within (written_folder table (sorted_rows table.sort rows)) files (nat_lt MAX_FOLDER (folder_bytes (written_folder table (sorted_rows table.sort rows)))) refl one.later;
    }

writable : (table : Table) (text : List ℕ) (rows : List Row) (files : List FileBytes) → text ≢ [] → list_all is_byte text ≡ true → Accepted table text rows files → IsWritable table (sorted_rows table.sort rows)
writable table text rows files some bytes are =
    let fit = rows_fit table.columns text rows bytes are.reads in
    let sorted_fit = All-sorted_rows (RowFits table.columns) table.sort rows fit in
    let some_rows = limits.some_rows table.columns text rows are.reads some in
    let few_rows = limits.few_rows table.columns text rows are.reads in
    let few_cells = limits.few_cells table.columns text rows are.reads in
    let count = length-sorted_rows table.sort rows in
    let cells = cell_count-sorted_rows table.columns table.sort rows in
    let sorted_few : cell_count table.columns (sorted_rows table.sort rows) ≤ MAX_CELLS = omega (arith, cells, few_cells) in
    record {
      part_rows = record {
        not_empty = some_sorted_rows table.sort rows some_rows;
        fit = sorted_fit;
        ordered = IsSorted-sorted_rows table.sort rows;
        few_rows = omega (arith, count, few_rows);
        few_cells = sorted_few;
      };
      one_partition = sorted_one table rows (have_one table rows are.one);
      projections = λ k d h. projection_part table (get_or table.projections k d) rows (projections_kept table k d h) fit sorted_fit some_rows few_rows sorted_few (are.few k d h);
    }

pub parts_stand : (table : Table) (text : List ℕ) (rows : List Row) (files : List FileBytes) → text ≢ [] → list_all is_byte text ≡ true → rows_of_text table text ≡ Ok rows → folder_of_text table text ≡ Ok files
    → StandsFor table (folders.folder_of files) (sorted_rows table.sort rows)
parts_stand table text rows files some bytes read made =
    let are = accepted table text rows files read made in
    let sorted = sorted_rows table.sort rows in
    subst (λ fs. StandsFor table (folders.folder_of fs) sorted) (sym are.made) (written_granules table.settings table.columns sorted, written_stands table sorted (writable table text rows files some bytes are))
