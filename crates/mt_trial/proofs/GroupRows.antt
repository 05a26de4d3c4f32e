-- The rows of the trial's projection: a key, a count and a sum, one for each key.
use Rattle.std.proofs.Common.{◌≡◌, ℕ, ◌%◌, ◌^◌, ◌≤◌, arith, Bool, List, [], ◌∷◌, ◌++◌, length, map, refl, ap, sym, subst}
use Rattle.std.specs.Prelude.{All, IsTrue, pos}
use Rattle.std.proofs.lemmas.List.{length-map}
use Rattle.std.proofs.lemmas.List.Elements.{All-map, All-weaker}
use Rattle.std.proofs.lemmas.List.Sums.{count_by-le-length, length-filter}
use Rattle.mt_types.specs.declared.ty.Agg.TheVariants.{Sum}
use Rattle.mt_types.specs.declared.value.AggState.TheVariants as state
use Rattle.mt_types.specs.declared.value.Value.{Value}
use Rattle.mt_types.specs.declared.value.Value.TheVariants.{Num, State}
use Rattle.mt_table.specs.declared.limits.TheConstants.{MAX_CELLS}
use Rattle.mt_table.specs.declared.projection.Aggregate.TheVariants as aggregate
use Rattle.mt_table.specs.Kept.{keeps_rules}
use Rattle.mt_table.specs.Rows.{cell_count}
use Rattle.mt_table.specs.Stored.{inner_of}
use Rattle.mt_table.specs.Tables.{table_with}
use Rattle.mt_defs.specs.Folds.{number_taken, wrapped_sum}
use Rattle.mt_defs.specs.Lists.{distinct_by}
use Rattle.mt_defs.specs.Projections.{is_same_key, with_key}
use Rattle.mt_defs.specs.Rows.{Row, key_of}
use Rattle.mt_defs.specs.Sorting.{sorted_rows}
use Rattle.mt_defs.specs.Writer.{folded_row, projection_rows}
use Rattle.mt_defs.proofs.Sorted.{length-sorted_rows}
use Rattle.mt_defs.proofs.ListLemmas.{All-distinct_by, length-distinct_by}
use Rattle.mt_trial.specs.Tables.{trial_fields, trial_projection}
use Rattle.mt_trial.specs.declared.rows.TheConstants.{MAX_TRIAL_ROWS}
use Rattle.mt_trial.proofs.CellLemmas.{HasNone, cells_are, num_none, state_none}
use Rattle.mt_trial.proofs.TrialRows.{IsTrialRow, all_trial, sorted_trial}

-- its rows
abbrev pub group_rows : IsTrue (keeps_rules trial_fields) → List Row → List Row
group_rows rules rows = projection_rows (table_with trial_fields rules) trial_projection rows

-- ---- their values

-- a key of the projection
abbrev IsGroupKey : List Value → Type 0
IsGroupKey key = (k : ℕ) × (key ≡ Num (pos k) ∷ [])

-- a row over so many rows at most
pub record IsGroupRow (most : ℕ) (row : Row) : Type 0 where
  pub k : ℕ
  pub count : ℕ
  pub sum : ℕ
  pub few : count ≤ most
  pub is : row ≡ Num (pos k) ∷ State (state.Count count) ∷ State (state.Sum sum) ∷ []

-- the keys of rows, each once, in their order
abbrev group_keys : List Row → List (List Value)
group_keys rows = distinct_by is_same_key (map (key_of (1 ∷ [])) (sorted_rows (1 ∷ []) rows))

keys_known : (rows : List Row) → All IsTrialRow rows → All IsGroupKey (group_keys rows)
keys_known rows are =
    let sorted = sorted_rows (1 ∷ []) rows in
    All-distinct_by IsGroupKey is_same_key (map (key_of (1 ∷ [])) sorted)
    (All-map IsGroupKey (key_of (1 ∷ [])) sorted (all_trial (λ row. IsGroupKey (key_of (1 ∷ []) row)) (λ x. (x % 100, refl)) sorted (sorted_trial (1 ∷ []) rows are)))

count_few : (key : List Value) (rows : List Row) → length (map (number_taken aggregate.Count) (with_key (1 ∷ []) key rows)) % 2 ^ 64 ≤ length rows
count_few key rows =
    let same : Row → Bool = λ row. is_same_key key (key_of (1 ∷ []) row) in
    let all = length-map (with_key (1 ∷ []) key rows) (number_taken aggregate.Count) in
    let kept = length-filter same rows in
    let few = count_by-le-length same rows in
    omega (arith, all, kept, few)

group_row : (rows : List Row) (key : List Value) → IsGroupKey key → IsGroupRow (length rows) (folded_row trial_projection rows key)
group_row rows key is =
    let some : List Row = with_key (1 ∷ []) key rows in
    let states : List Value = State (state.Count (length (map (number_taken aggregate.Count) some) % 2 ^ 64)) ∷ State (state.Sum (wrapped_sum (map (number_taken (aggregate.Of Sum 2)) some))) ∷ [] in
    record {
      k = is.0;
      count = length (map (number_taken aggregate.Count) some) % 2 ^ 64;
      sum = wrapped_sum (map (number_taken (aggregate.Of Sum 2)) some);
      few = count_few key rows;
      is = ap (λ (k : List Value). k ++ states) is.1;
    }

pub groups_known : (rules : IsTrue (keeps_rules trial_fields)) (rows : List Row) → All IsTrialRow rows → All (IsGroupRow (length rows)) (group_rows rules rows)
groups_known rules rows are =
    All-map (IsGroupRow (length rows)) (folded_row trial_projection rows) (group_keys rows)
    (All-weaker IsGroupKey (λ key. IsGroupRow (length rows) (folded_row trial_projection rows key)) (group_row rows) (group_keys rows) (keys_known rows are))

-- ---- how many they are

pub groups_few : (rules : IsTrue (keeps_rules trial_fields)) (rows : List Row) → length (group_rows rules rows) ≤ length rows
groups_few rules rows =
    let sorted = sorted_rows (1 ∷ []) rows in
    let one = length-map (group_keys rows) (folded_row trial_projection rows) in
    let two = length-distinct_by is_same_key (map (key_of (1 ∷ [])) sorted) in
    let three = length-map sorted (key_of (1 ∷ [])) in
    omega (arith, one, two, three, length-sorted_rows (1 ∷ []) rows)

groups_none : (rules : IsTrue (keeps_rules trial_fields)) (rows : List Row) → All IsTrialRow rows → All HasNone (group_rows rules rows)
groups_none rules rows are = All-weaker (IsGroupRow (length rows)) HasNone none (group_rows rules rows) (groups_known rules rows are)
  where
    none : (row : Row) → IsGroupRow (length rows) row → HasNone row
    none row known = subst HasNone (sym known.is) (simp (num_none, state_none) refl)

pub group_cells : (rules : IsTrue (keeps_rules trial_fields)) (rows : List Row) → All IsTrialRow rows → length rows ≤ MAX_TRIAL_ROWS
    → cell_count (inner_of (table_with trial_fields rules) trial_projection).columns (group_rows rules rows) ≤ MAX_CELLS
group_cells rules rows are few =
    let cells = cells_are (inner_of (table_with trial_fields rules) trial_projection).columns (group_rows rules rows) (groups_none rules rows are) in
    omega (arith, cells, few, groups_few rules rows)
