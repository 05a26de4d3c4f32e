-- A table's own definition and those of its projections have columns of different names, of types of the profile.
use Rattle.std.proofs.Common.{◌≡◌, ◌≢◌, ℕ, ◌<◌, Bool, true, List, ◌++◌, length, map, get_or, arith, eqb}
use Rattle.std.specs.Prelude.{All}
use Rattle.std.specs.List.{list_all, list_any, range_with_len}
use Rattle.std.proofs.lemmas.Bool.{and_parts}
use Rattle.std.proofs.lemmas.List.Elements.{All-append, All-filter, All-weaker}
use Rattle.mt_facts.proofs.Lists.{each_passes}
use Rattle.mt_types.specs.Profile.{is_profile}
use Rattle.mt_types.specs.Words.{is_name}
use Rattle.mt_table.specs.declared.column.Column.{Column}
use Rattle.mt_table.specs.declared.definition.Table.{Table}
use Rattle.mt_table.specs.declared.projection.Aggregate.{Aggregate}
use Rattle.mt_table.specs.declared.projection.Projection.{Projection}
use Rattle.mt_table.specs.declared.projection.Projection.TheVariants.{Normal, Grouped}
use Rattle.mt_table.specs.ColumnTypes.{is_column_type, is_key_type, place_has}
use Rattle.mt_table.specs.Names.{names_differ, places_differ}
use Rattle.mt_table.specs.Kept.{is_column, names_of, keeps_columns, keeps_key, keeps_grouped, keeps_projection, keeps_aggregate, aggregates_differ}
use Rattle.mt_defs.specs.Metadata.{column_at, no_column}
use Rattle.mt_defs.specs.Projections.{inner_of, stored_columns, state_column}
use Rattle.mt_law_written.proofs.ListLemmas.{All-mapped}
use Rattle.mt_law_written.proofs.ApartLemmas.{Differ, later_unmapped, later_mapped}
use Rattle.mt_law_written.proofs.DataNames.{AreOwn}
use Rattle.mt_law_written.proofs.RuleLemmas.{names_are_different, places_are_different, HasPlace, places_of, selected_differ, range_differs, range_below, later_kept, later_appended}
use Rattle.mt_law_written.proofs.AggregateLemmas.{Apart, IsKnown, IsOver, aggregates_apart, all_states_apart, is_over, key_state_apart, once_of, state_type}

-- ---- a table's own columns

pub base_own : (columns : List Column) → keeps_columns columns ≡ true → AreOwn columns
base_own columns keeps =
    let both = and_parts (list_all is_column columns) (names_differ (names_of columns)) (and_parts _ _ keeps).1 in
    record {
      differ = later_unmapped (λ a b. a ≢ b) (λ column. column.name) columns (names_are_different (names_of columns) both.1);
      types = All-weaker (λ column. is_column column ≡ true) IsKnown (λ column is. (and_parts (is_profile column.ty) _ (and_parts (is_name column.name) (is_column_type column.ty) is).1).0) columns (each_passes is_column columns both.0);
    }

-- their names are words
pub names_are_words : (columns : List Column) → keeps_columns columns ≡ true → All (λ column. is_name column.name ≡ true) columns
names_are_words columns keeps =
    let both = and_parts (list_all is_column columns) (names_differ (names_of columns)) (and_parts _ _ keeps).1 in
    All-weaker (λ column. is_column column ≡ true) (λ column. is_name column.name ≡ true) (λ column is. (and_parts (is_name column.name) (is_column_type column.ty) is).0) columns (each_passes is_column columns both.0)

-- ---- columns at places

selected_own : (columns : List Column) (places : List ℕ) → AreOwn columns → All (λ i. i < length columns) places → Differ places → AreOwn (map (column_at columns) places)
selected_own columns places own within differ = record {
  differ = selected_differ columns places own.differ within differ;
  types = All-mapped IsKnown (column_at columns) places (λ k d inside. own.types (get_or places k d) no_column (within k d inside));
}

pub stored_within : (table : Table) (selected : List ℕ) → All (λ i. i < length table.columns) (stored_columns table selected)
stored_within table selected =
    let count = length table.columns in
    All-filter (λ i. list_any (λ j. eqb j i) selected) (λ i. i < count) (range_with_len 0 count) (range_below 0 count count (omega arith))

normal_own : (table : Table) (selected : List ℕ) → AreOwn table.columns → AreOwn (map (column_at table.columns) (stored_columns table selected))
normal_own table selected own =
    let count = length table.columns in
    let test : ℕ → Bool = λ i. list_any (λ j. eqb j i) selected in
    selected_own table.columns (stored_columns table selected) own (stored_within table selected)
    (later_kept test (λ i j. i ≢ j) (range_with_len 0 count) (range_differs 0 count))

-- ---- keys and aggregates

-- what the rules say of the keys and aggregates of a projection
pub record GroupRules (columns : List Column) (keys : List ℕ) (aggs : List Aggregate) : Type 0 where
  pub within : All (λ i. i < length columns) keys
  pub keys_differ : Differ keys
  pub each : All (λ a. keeps_aggregate columns a ≡ true) aggs
  pub aggs_differ : Differ aggs

pub grouped_rules : (columns : List Column) (keys : List ℕ) (aggs : List Aggregate) → keeps_grouped columns keys aggs ≡ true → GroupRules columns keys aggs
grouped_rules columns keys aggs keeps =
    let one = and_parts (keeps_key columns keys) _ keeps in
    let key = and_parts (places_differ keys) (list_all (place_has is_key_type columns) keys) (and_parts _ _ one.0).1 in
    let rules = and_parts (aggregates_differ aggs) (list_all (keeps_aggregate columns) aggs) (and_parts _ _ one.1).1 in
    record {
      within = All-weaker (HasPlace is_key_type columns) (λ i. i < length columns) (λ i place. place.within) keys (places_of is_key_type columns keys key.1);
      keys_differ = places_are_different keys key.0;
      each = each_passes (keeps_aggregate columns) aggs rules.1;
      aggs_differ = aggregates_apart aggs (once_of aggs rules.0);
    }

grouped_own : (table : Table) (keys : List ℕ) (aggs : List Aggregate) → keeps_columns table.columns ≡ true → keeps_grouped table.columns keys aggs ≡ true
    → AreOwn (map (column_at table.columns) keys ++ map (state_column table) aggs)
grouped_own table keys aggs columns keeps =
    let own = base_own table.columns columns in
    let rules = grouped_rules table.columns keys aggs keeps in
    let Keeps : Aggregate → Type 0 = λ a. keeps_aggregate table.columns a ≡ true in
    let words = names_are_words table.columns columns in
    let chosen = selected_own table.columns keys own rules.within rules.keys_differ in
    record {
      differ =
          later_appended Apart (map (column_at table.columns) keys) (map (state_column table) aggs) chosen.differ
          (later_mapped Apart (state_column table) aggs (all_states_apart table aggs own.differ (All-weaker Keeps (IsOver table.columns) (is_over table.columns) aggs rules.each) rules.aggs_differ))
          (All-mapped (λ column. All (Apart column) (map (state_column table) aggs)) (column_at table.columns) keys (λ k d inside.
          All-mapped (Apart (column_at table.columns (get_or keys k d))) (state_column table) aggs (λ j e within_aggs. key_state_apart table (get_or keys k d) (get_or aggs j e) (words (get_or keys k d) no_column (rules.within k d inside)))));
      types = All-append IsKnown (map (column_at table.columns) keys) (map (state_column table) aggs) chosen.types (All-mapped IsKnown (state_column table) aggs (All-weaker Keeps (λ a. IsKnown (state_column table a)) (state_type table) aggs rules.each));
    }

-- ---- each projection

pub inner_own : (table : Table) (projection : Projection) → keeps_columns table.columns ≡ true → keeps_projection table.columns projection ≡ true → AreOwn (inner_of table projection).columns
inner_own table (Normal name selected sort) columns keeps = normal_own table selected (base_own table.columns columns)
inner_own table (Grouped name keys aggs) columns keeps = grouped_own table keys aggs columns (and_parts (is_name name) (keeps_grouped table.columns keys aggs) keeps).1
