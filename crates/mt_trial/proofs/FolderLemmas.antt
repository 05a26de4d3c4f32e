-- The folder of a trial's rows is within the limit on a folder.
use Rattle.std.proofs.Common.{◌≡◌, ℕ, ◌+◌, ◌*◌, ◌≤◌, arith, lit≤, List, [], ◌∷◌, length, take, refl, ap}
use Rattle.std.specs.Prelude.{All, IsTrue}
use Rattle.std.specs.List.{flat_map, sum_by}
use Rattle.std.proofs.lemmas.List.Elements.{All-cons, All-map, All-nil}
use Rattle.mt_types.specs.declared.ty.Ty.TheVariants.{Date}
use Rattle.mt_types.specs.Items.{item_bytes}
use Rattle.mt_table.specs.declared.definition.Table.{Table}
use Rattle.mt_table.specs.Kept.{keeps_rules}
use Rattle.mt_table.specs.Tables.{table_with}
use Rattle.mt_command.specs.declared.limits.TheConstants.{MAX_FOLDER}
use Rattle.mt_defs.specs.Partition.{partition_bytes}
use Rattle.mt_defs.specs.Projections.{base_of, inner_of}
use Rattle.mt_defs.specs.Rows.{Row, cell, column_values}
use Rattle.mt_defs.specs.Writer.{definition_files, written_folder}
use Rattle.mt_defs.specs.WrittenPartition.{partition_files}
use Rattle.mt_defs.specs.WrittenSkips.{skip_files}
use Rattle.mt_defs.specs.declared.frame.TheConstants.{FRAME_PAYLOAD}
use Rattle.mt_law_written.specs.Sizes.{files_size}
use Rattle.mt_law_written.proofs.DefinitionSizes.{definition_size}
use Rattle.mt_law_written.proofs.FolderSizes.{folder_size, projection_size}
use Rattle.mt_law_written.proofs.MinmaxSizes.{minmax_size}
use Rattle.mt_law_written.proofs.SkipSizes.{skip_size}
use Rattle.mt_trial.specs.declared.rows.TheConstants.{MAX_TRIAL_ROWS}
use Rattle.mt_trial.specs.Tables.{trial_fields, trial_projection, trial_skip}
use Rattle.mt_trial.proofs.GroupRows.{group_rows, groups_few}
use Rattle.mt_trial.proofs.RowItems.{day_items, group_key_sizes, row_key_sizes, v_items}
use Rattle.mt_trial.proofs.RowLemmas.{january, row_month}
use Rattle.mt_trial.proofs.TextSizes.{columns_short, count_short, group_columns_short}
use Rattle.mt_trial.proofs.TrialRows.{IsTrialRow, all_trial}
use Rattle.mt_trial.proofs.WidthLemmas.{group_widths, trial_widths}

narrow : (a b c : ℕ) → a ≤ FRAME_PAYLOAD → b ≤ FRAME_PAYLOAD → c ≤ FRAME_PAYLOAD → All (λ width. width ≤ FRAME_PAYLOAD) (a ∷ b ∷ c ∷ [])
narrow a b c one two three = All-cons (λ width. width ≤ FRAME_PAYLOAD) a (b ∷ c ∷ []) one (All-cons (λ width. width ≤ FRAME_PAYLOAD) b (c ∷ []) two (All-cons (λ width. width ≤ FRAME_PAYLOAD) c [] three (All-nil (λ width. width ≤ FRAME_PAYLOAD))))

module _ (rules : IsTrue (keeps_rules trial_fields)) (rows : List Row) (are : All IsTrialRow rows) (few : length rows ≤ MAX_TRIAL_ROWS) where
  abbrev table : Table
  table = table_with trial_fields rules

  -- ---- the part's own files

  base_size : files_size (definition_files table.settings (base_of table) rows) ≤ 226 * length rows + 315
  base_size =
      let size = definition_size table.settings (base_of table) rows (2 ∷ 4 ∷ 8 ∷ 4 ∷ []) 12 (λ none. cc) (All-cons (λ width. width ≤ FRAME_PAYLOAD) 2 (4 ∷ 8 ∷ 4 ∷ []) (lit≤ tt) (narrow 4 8 4 (lit≤ tt) (lit≤ tt) (lit≤ tt))) (trial_widths rows are) (row_key_sizes rows are) in
      omega (arith, size, columns_short, count_short (length rows) few)

  -- ---- the partition

  month_size : length (flat_map (partition_bytes table) (take 1 rows)) ≤ 4
  month_size = by rows are
    where
      by : (rows : List Row) → All IsTrialRow rows → length (flat_map (partition_bytes table) (take 1 rows)) ≤ 4
      by [] are = lit≤ tt
      by (row ∷ rows) are = omega (arith, ap length (all_trial (λ row. partition_bytes table row ≡ january) (λ x. row_month table x refl) (row ∷ rows) are 0 row (omega arith)))

  days_size : files_size (partition_files table rows) ≤ 8
  days_size = omega (arith, month_size, minmax_size Date (column_values 0 rows) 2 (All-map (λ value. length (item_bytes Date value) ≤ 2) (λ row. cell row 0) rows (day_items rows are)))

  -- ---- the index and the projection

  index_size : sum_by (λ skip. files_size (skip_files table rows skip)) table.skips ≤ 65 * length rows
  index_size = omega (arith, skip_size table rows trial_skip 8 refl (lit≤ tt) (v_items rows are))

  groups_size : sum_by (projection_size table rows) table.projections ≤ 166 * length rows + 283
  groups_size =
      let groups : List Row = group_rows rules rows in
      let small : length groups ≤ length rows = groups_few rules rows in
      let size = definition_size table.settings (inner_of table trial_projection) groups (4 ∷ 3 ∷ 8 ∷ []) 4 (λ none. cc) (narrow 4 3 8 (lit≤ tt) (lit≤ tt) (lit≤ tt)) (group_widths rules rows are few) (group_key_sizes rules rows are) in
      omega (arith, size, group_columns_short rules, count_short (length groups) (omega (arith, small, few)), small)

  -- ---- all of it

  pub trial_size : files_size (written_folder table rows) ≤ MAX_FOLDER
  trial_size = omega (arith, folder_size table rows, base_size, days_size, index_size, groups_size, few)
