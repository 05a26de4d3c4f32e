-- The rows of a part, in key order, are rows that the writer takes.
use Rattle.std.proofs.Common.{◌≡◌, ◌≢◌, ℕ, ◌<◌, ◌≤◌, List, [], Result, ap, sym, ◌∙◌, subst}
use Rattle.std.specs.Prelude.{All}
use Rattle.mt_table.specs.declared.column.Column.{Column}
use Rattle.mt_table.specs.declared.definition.Table.{Table}
use Rattle.mt_defs.specs.Partition.{HaveOnePartition}
use Rattle.std.specs.List.Sorted.{IsSorted}
use Rattle.mt_fault.specs.declared.file.FileBytes.{FileBytes}
use Rattle.mt_defs.specs.Writer.{written_folder}
use Rattle.mt_command.specs.Status.{GivesOutcome}
use Rattle.mt_command.specs.Targets.{within_limit}
use Rattle.mt_command.specs.declared.status.Status.{Status}
use Rattle.mt_trial.specs.Steps.{half_folder}
use Rattle.mt_defs.specs.Rows.{Row, RowFits, key_cmp}
use Rattle.mt_defs.specs.Sorting.{sorted_rows}
use Rattle.mt_defs.proofs.Sorted.{All-sorted_rows, IsSorted-sorted_rows, some_sorted_rows}
use Rattle.mt_trial.specs.Rows.{half_rows}
use Rattle.mt_trial.specs.Tables.{trial_columns, trial_partition}
use Rattle.mt_trial.proofs.RowLemmas.{half_fits, half_month, half_some}

-- rows that are those of a half, in key order
sorted_is : (P : List Row → Type 0) (sort : List ℕ) (number rows remainder : ℕ) (half sorted : List Row) → half ≡ half_rows number rows remainder → sorted ≡ sorted_rows sort half → P (sorted_rows sort (half_rows number rows remainder)) → P sorted
sorted_is P sort number rows remainder half sorted made is holds =
    let before : P (sorted_rows sort half) = subst (λ rows. P (sorted_rows sort rows)) (sym made) holds in
    subst P (sym is) before

pub sorted_fit : (table : Table) (number rows remainder : ℕ) (half sorted : List Row) → half ≡ half_rows number rows remainder → sorted ≡ sorted_rows table.sort half → table.columns ≡ trial_columns → All (RowFits table.columns) sorted
sorted_fit table number rows remainder half sorted made is columns =
    let fit = All-sorted_rows (RowFits trial_columns) table.sort (half_rows number rows remainder) (half_fits number rows remainder) in
    let Q : List Column → Type 0 = λ columns. All (RowFits columns) (sorted_rows table.sort (half_rows number rows remainder)) in
    sorted_is (All (RowFits table.columns)) table.sort number rows remainder half sorted made is (subst Q (sym columns) fit)

pub sorted_some : (table : Table) (number rows remainder : ℕ) (half sorted : List Row) → half ≡ half_rows number rows remainder → sorted ≡ sorted_rows table.sort half → 2 ≤ rows → remainder < 2 → sorted ≢ []
sorted_some table number rows remainder half sorted made is few small =
    sorted_is (λ rows. rows ≢ []) table.sort number rows remainder half sorted made is (some_sorted_rows table.sort (half_rows number rows remainder) (half_some number rows remainder few small))

pub sorted_month : (table : Table) (number rows remainder : ℕ) (half sorted : List Row) → half ≡ half_rows number rows remainder → sorted ≡ sorted_rows table.sort half → table.partition ≡ trial_partition → HaveOnePartition table sorted
sorted_month table number rows remainder half sorted made is partition =
    sorted_is (HaveOnePartition table) table.sort number rows remainder half sorted made is (half_month table number rows remainder partition)

pub sorted_order : (table : Table) (half sorted : List Row) → sorted ≡ sorted_rows table.sort half → IsSorted (key_cmp table.sort) sorted
sorted_order table half sorted is = subst (IsSorted (key_cmp table.sort)) (sym is) (IsSorted-sorted_rows table.sort half)

pub half_given : (table : Table) (number rows remainder : ℕ) (half sorted : List Row) (r : Result (List FileBytes) Status) → half ≡ half_rows number rows remainder → sorted ≡ sorted_rows table.sort half
    → GivesOutcome r (within_limit (written_folder table sorted)) → GivesOutcome r (half_folder table number rows remainder)
half_given table number rows remainder half sorted r made is gives =
    let P : List Row → Type 0 = λ rows. GivesOutcome r (within_limit (written_folder table rows)) in subst P (is ∙ ap (sorted_rows table.sort) made) gives
