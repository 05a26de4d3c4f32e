-- Rows of a trial, in any order, are storable in its table.
use Rattle.std.proofs.Common.{◌≡◌, ◌≢◌, ◌*◌, ◌≤◌, arith, List, [], length, refl, sym, ◌∙◌}
use Rattle.std.specs.Prelude.{All, IsTrue, Ok, false}
use Rattle.std.proofs.lemmas.Bool.{le-ltb}
use Rattle.std.proofs.lemmas.List.Elements.{All-contains}
use Rattle.mt_table.specs.declared.definition.Table.{Table}
use Rattle.mt_table.specs.declared.limits.TheConstants.{MAX_CELLS, MAX_ROWS}
use Rattle.mt_table.specs.Kept.{keeps_rules}
use Rattle.mt_table.specs.Stored.{inner_of}
use Rattle.mt_table.specs.Tables.{table_with}
use Rattle.mt_defs.specs.Partition.{HaveOnePartition, partition_bytes}
use Rattle.mt_defs.specs.Rows.{Row, RowFits, cell_count}
use Rattle.mt_command.specs.Targets.{few_cells, has_many_cells}
use Rattle.mt_headline.specs.Storable.{AreStorable}
use Rattle.mt_trial.specs.declared.rows.TheConstants.{MAX_TRIAL_ROWS}
use Rattle.mt_trial.specs.Tables.{trial_columns, trial_fields, trial_partition, trial_projection}
use Rattle.mt_trial.proofs.CellLemmas.{HasNone, cells_are, row_none}
use Rattle.mt_trial.proofs.GroupRows.{group_cells, group_rows}
use Rattle.mt_trial.proofs.RowLemmas.{january, row_fits, row_month}
use Rattle.mt_trial.proofs.TrialRows.{IsTrialRow, all_trial}

pub trial_fit : (rows : List Row) → All IsTrialRow rows → All (RowFits trial_columns) rows
trial_fit = all_trial (RowFits trial_columns) row_fits

pub trial_few : (rows : List Row) → length rows ≤ MAX_TRIAL_ROWS → length rows ≤ MAX_ROWS
trial_few rows few = omega (arith, few)

pub trial_cells : (rows : List Row) → All IsTrialRow rows → cell_count trial_columns rows ≡ length rows * 4
trial_cells rows are = cells_are trial_columns rows (all_trial HasNone row_none rows are)

pub trial_few_cells : (rows : List Row) → All IsTrialRow rows → length rows ≤ MAX_TRIAL_ROWS → cell_count trial_columns rows ≤ MAX_CELLS
trial_few_cells rows are few = omega (arith, trial_cells rows are, few)

pub trial_month : (table : Table) (rows : List Row) → table.partition ≡ trial_partition → All IsTrialRow rows → HaveOnePartition table rows
trial_month table rows is are =
    let P : Row → Type 0 = λ row. partition_bytes table row ≡ january in
    let all = all_trial P (λ x. row_month table x is) rows are in
    λ a b in_a in_b. All-contains P rows a all in_a ∙ sym (All-contains P rows b all in_b)

pub group_few_cells : (rules : IsTrue (keeps_rules trial_fields)) (rows : List Row) → All IsTrialRow rows → length rows ≤ MAX_TRIAL_ROWS → few_cells (table_with trial_fields rules) rows ≡ Ok tt
group_few_cells rules rows are few =
    let table : Table = table_with trial_fields rules in
    let cells = cell_count (inner_of table trial_projection).columns (group_rows rules rows) in
    let within : has_many_cells table rows trial_projection ≡ false = le-ltb MAX_CELLS cells (group_cells rules rows are few) in
    simp within refl

pub trial_storable : (rules : IsTrue (keeps_rules trial_fields)) (rows : List Row) → All IsTrialRow rows → rows ≢ [] → length rows ≤ MAX_TRIAL_ROWS → AreStorable (table_with trial_fields rules) rows
trial_storable rules rows are some few = record {
  not_empty = some;
  fit = trial_fit rows are;
  row_limit = trial_few rows few;
  cell_limit = trial_few_cells rows are few;
  projection_limit = group_few_cells rules rows are few;
  one_partition = trial_month (table_with trial_fields rules) rows refl are;
}
