-- How many bytes the items of a trial's rows have, and those of its projection's.
use Rattle.std.proofs.Common.{◌≡◌, ℕ, ◌+◌, ◌/◌, ◌%◌, ◌≤◌, arith, List, [], ◌∷◌, ◌++◌, length, ap, sym, ◌∙◌, subst, lit≤}
use Rattle.std.specs.Prelude.{All, IsTrue}
use Rattle.std.proofs.lemmas.List.{append-nil, length-append}
use Rattle.std.proofs.lemmas.List.Elements.{All-weaker}
use Rattle.std.proofs.lemmas.Nat.{mod_below}
use Rattle.mt_types.specs.declared.ty.Agg.TheVariants.{Sum}
use Rattle.mt_types.specs.declared.ty.Ty.TheVariants.{UInt, Str, Date, CountState, State as StateOf}
use Rattle.mt_types.specs.declared.ty.Width.TheVariants.{W32, W64}
use Rattle.mt_types.specs.Items.{item_bytes}
use Rattle.mt_table.specs.declared.column.Column.{Column}
use Rattle.mt_table.specs.Kept.{keeps_rules}
use Rattle.mt_table.specs.Stored.{inner_of}
use Rattle.mt_table.specs.Tables.{table_with}
use Rattle.mt_defs.specs.PrimaryIndex.{key_bytes}
use Rattle.mt_defs.specs.Rows.{Row, cell}
use Rattle.mt_trial.specs.declared.rows.TheConstants.{FIRST_DAY, MAX_TRIAL_ROWS}
use Rattle.mt_trial.specs.Rows.{row_of_number}
use Rattle.mt_trial.specs.Tables.{trial_columns, trial_fields, trial_projection}
use Rattle.mt_trial.proofs.GroupRows.{IsGroupRow, group_rows, groups_known}
use Rattle.mt_trial.proofs.ItemLemmas.{count_size, day_size, sum_size, text_size, u32_size, u64_size}
use Rattle.mt_trial.proofs.TrialRows.{IsTrialRow, all_trial}

-- ---- a trial's rows

pub day_item : (x : ℕ) → length (item_bytes Date (cell (row_of_number x) 0)) ≤ 2
day_item x = omega (arith, day_size (FIRST_DAY + x % 31))

pub k_item : (x : ℕ) → length (item_bytes (UInt W32) (cell (row_of_number x) 1)) ≤ 4
k_item x = omega (arith, u32_size (x % 100))

pub v_item : (x : ℕ) → length (item_bytes (UInt W64) (cell (row_of_number x) 2)) ≤ 8
v_item x = omega (arith, u64_size (x / 100 % 1000))

pub text_item : (x : ℕ) → length (item_bytes Str (cell (row_of_number x) 3)) ≤ 4
text_item x = text_size (x % 100) (mod_below x 100 (lit≤ tt))

-- the key (k, v)
pub row_key_size : (x : ℕ) → length (key_bytes trial_columns (1 ∷ 2 ∷ []) (row_of_number x)) ≤ 12
row_key_size x =
    let k : List ℕ = item_bytes (UInt W32) (cell (row_of_number x) 1) in
    let v : List ℕ = item_bytes (UInt W64) (cell (row_of_number x) 2) in
    let both : length (k ++ (v ++ [])) ≡ length k + length v = length-append k (v ++ []) ∙ ap (λ (rest : List ℕ). length k + length rest) (append-nil v) in
    omega (arith, both, k_item x, v_item x)

pub day_items : (rows : List Row) → All IsTrialRow rows → All (λ row. length (item_bytes Date (cell row 0)) ≤ 2) rows
day_items = all_trial (λ row. length (item_bytes Date (cell row 0)) ≤ 2) day_item

pub v_items : (rows : List Row) → All IsTrialRow rows → All (λ row. length (item_bytes (UInt W64) (cell row 2)) ≤ 8) rows
v_items = all_trial (λ row. length (item_bytes (UInt W64) (cell row 2)) ≤ 8) v_item

pub row_key_sizes : (rows : List Row) → All IsTrialRow rows → All (λ row. length (key_bytes trial_columns (1 ∷ 2 ∷ []) row) ≤ 12) rows
row_key_sizes = all_trial (λ row. length (key_bytes trial_columns (1 ∷ 2 ∷ []) row) ≤ 12) row_key_size

-- ---- its projection's rows

-- the columns of the projection
abbrev pub group_columns : IsTrue (keeps_rules trial_fields) → List Column
group_columns rules = (inner_of (table_with trial_fields rules) trial_projection).columns

module _ (most : ℕ) (row : Row) (is : IsGroupRow most row) where
  pub key_item : length (item_bytes (UInt W32) (cell row 0)) ≤ 4
  key_item = omega (arith, ap (λ (r : Row). length (item_bytes (UInt W32) (cell r 0))) is.is, u32_size is.k)

  pub count_item : most ≤ MAX_TRIAL_ROWS → length (item_bytes CountState (cell row 1)) ≤ 3
  count_item few = subst (λ (r : Row). length (item_bytes CountState (cell r 1)) ≤ 3) (sym is.is) (count_size is.count (omega (arith, few, is.few)))

  pub sum_item : length (item_bytes (StateOf Sum (UInt W64)) (cell row 2)) ≤ 8
  sum_item = omega (arith, ap (λ (r : Row). length (item_bytes (StateOf Sum (UInt W64)) (cell r 2))) is.is, sum_size is.sum)

  pub group_key_size : (rules : IsTrue (keeps_rules trial_fields)) → length (key_bytes (group_columns rules) (0 ∷ []) row) ≤ 4
  group_key_size rules = omega (arith, ap length (append-nil (item_bytes (UInt W32) (cell row 0))), key_item)

module _ (rules : IsTrue (keeps_rules trial_fields)) (rows : List Row) (are : All IsTrialRow rows) where
  -- what holds of each row of a key, a count and a sum
  pub all_groups : (P : Row → Type 0) → ((row : Row) → IsGroupRow (length rows) row → P row) → All P (group_rows rules rows)
  all_groups P holds = All-weaker (IsGroupRow (length rows)) P holds (group_rows rules rows) (groups_known rules rows are)

  pub group_key_sizes : All (λ row. length (key_bytes (group_columns rules) (0 ∷ []) row) ≤ 4) (group_rows rules rows)
  group_key_sizes = all_groups (λ row. length (key_bytes (group_columns rules) (0 ∷ []) row) ≤ 4) (λ row is. group_key_size (length rows) row is rules)
