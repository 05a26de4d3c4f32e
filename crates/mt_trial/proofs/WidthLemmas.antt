-- The widths of a trial's columns, and of those of its projection.
use Rattle.std.proofs.Common.{ℕ, ◌≤◌, List, [], ◌∷◌, length, refl}
use Rattle.std.specs.Prelude.{All, IsTrue}
use Rattle.std.proofs.lemmas.List.Elements.{All-weaker}
use Rattle.mt_table.specs.declared.column.Column.{Column}
use Rattle.mt_table.specs.Kept.{keeps_rules}
use Rattle.mt_defs.specs.Rows.{Row}
use Rattle.mt_law_written.specs.Sizes.{HaveWidths, IsFlat, RowHasWidths}
use Rattle.mt_trial.specs.declared.rows.TheConstants.{MAX_TRIAL_ROWS}
use Rattle.mt_trial.specs.Tables.{trial_columns, trial_fields}
use Rattle.mt_trial.proofs.FlatLemmas.{IsFlatColumn, group_flat, one_name, trial_flat}
use Rattle.mt_trial.proofs.GroupRows.{group_rows}
use Rattle.mt_trial.proofs.RowItems.{all_groups, count_item, day_item, group_columns, k_item, key_item, sum_item, text_item, v_item}
use Rattle.mt_trial.proofs.TrialRows.{IsTrialRow, all_trial}

are_flat : (columns : List Column) → All IsFlatColumn columns → All IsFlat columns
are_flat = All-weaker IsFlatColumn IsFlat (λ column flat. record { one_name = one_name column flat; items = flat.items })

-- two bytes of a date, four and eight of numbers, and at most four of a text and its length
pub trial_widths : (rows : List Row) → All IsTrialRow rows → HaveWidths trial_columns (2 ∷ 4 ∷ 8 ∷ 4 ∷ []) rows
trial_widths rows are = record {
  flat = are_flat trial_columns trial_flat;
  one_each = refl;
  within = all_trial (RowHasWidths 0 trial_columns (2 ∷ 4 ∷ 8 ∷ 4 ∷ [])) (λ x. (day_item x, (k_item x, (v_item x, (text_item x, tt))))) rows are;
}

-- four bytes of a key, at most three of a count, and eight of a sum
pub group_widths : (rules : IsTrue (keeps_rules trial_fields)) (rows : List Row) → All IsTrialRow rows → length rows ≤ MAX_TRIAL_ROWS → HaveWidths (group_columns rules) (4 ∷ 3 ∷ 8 ∷ []) (group_rows rules rows)
group_widths rules rows are few =
    let most : ℕ = length rows in
    record {
      flat = are_flat (group_columns rules) (group_flat rules);
      one_each = refl;
      within = all_groups rules rows are (RowHasWidths 0 (group_columns rules) (4 ∷ 3 ∷ 8 ∷ [])) (λ row is. (key_item most row is, (count_item most row is few, (sum_item most row is, tt))));
    }
