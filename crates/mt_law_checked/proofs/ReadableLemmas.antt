-- What each folder of a table stores can be read.
use Rattle.std.proofs.Common.{◌≡◌, ◌≢◌, ℕ, ◌<◌, true, false, not, List, [], ◌∷◌, ◌++◌, length, map, get_or, refl, sym, ap, ◌∙◌, inl, inr, eqb}
use Rattle.std.specs.Prelude.{All, codes}
use Rattle.std.specs.List.{list_all}
use Rattle.std.proofs.lemmas.Bool.{and_parts, cases_order, ne_eqb}
use Rattle.std.proofs.lemmas.List.Elements.{All-append, All-map, All-weaker}
use Rattle.mt_types.specs.declared.ty.Agg.{Agg}
use Rattle.mt_types.specs.declared.ty.Agg.TheVariants.{Sum, Min, Max}
use Rattle.mt_types.proofs.StepLemmas.{both_of}
use Rattle.mt_types.specs.Words.{is_word_byte, is_name}
use Rattle.mt_table.specs.declared.column.Column.{Column}
use Rattle.mt_table.specs.declared.definition.PartDef.{PartDef}
use Rattle.mt_table.specs.declared.definition.Table.{Table}
use Rattle.mt_table.specs.declared.projection.Aggregate.{Aggregate}
use Rattle.mt_table.specs.declared.projection.Aggregate.TheVariants.{Count, Of}
use Rattle.mt_table.specs.declared.projection.Projection.{Projection}
use Rattle.mt_table.specs.declared.projection.Projection.TheVariants.{Normal, Grouped}
use Rattle.mt_table.specs.Kept.{keeps_aggregate, keeps_grouped, keeps_projection}
use Rattle.mt_table.specs.Tables.{fields_of_table}
use Rattle.mt_table.proofs.KeptLemmas.{each_of}
use Rattle.mt_defs.specs.Lists.{AreBytes}
use Rattle.mt_defs.specs.Metadata.{column_at, no_column}
use Rattle.mt_defs.specs.Projections.{aggregate_word, base_of, inner_of, state_column, stored_columns}
use Rattle.mt_defs.proofs.ListLemmas.{tested_bytes}
use Rattle.mt_meta.specs.declared.ascii.TheConstants.{LINE_END, BACKQUOTE}
use Rattle.mt_meta.specs.ColumnsReading.{lacks}
use Rattle.mt_meta.specs.Definitions.{IsDefinition}
use Rattle.mt_meta.proofs.InnerLemmas.{projections_kept, stored_known}
use Rattle.mt_meta.proofs.DefinitionLemmas.{base_is}
use Rattle.mt_meta.proofs.InnerLemmas.{projections_are}
use Rattle.mt_law_written.specs.Stored.{IsStored}
use Rattle.mt_law_written.proofs.AggregateLemmas.{IsOver, is_over}
use Rattle.mt_meta.proofs.PlainLemmas.{lacks_append}
use Rattle.mt_law_written.proofs.PlainLemmas.{word_bytes}
use Rattle.mt_law_written.proofs.RuleLemmas.{name_bytes}
use Rattle.mt_law_written.proofs.StoredLemmas.{grouped_rules, names_are_words}
use Rattle.mt_law_checked.specs.Readable.{IsReadable}
use Rattle.mt_law_checked.proofs.ByteLemmas.{joined_bytes}

-- ---- names

-- a name that a columns.txt can list
record IsListed (name : List ℕ) : Type 0 where
  some : name ≢ []
  one_line : lacks LINE_END name ≡ true
  unquoted : lacks BACKQUOTE name ≡ true
  bytes : AreBytes name

abbrev HasListedName : Column → Type 0
HasListedName column = IsListed column.name

word_lacks : (separator : ℕ) → is_word_byte separator ≡ false → (name : List ℕ) → list_all is_word_byte name ≡ true → lacks separator name ≡ true
word_lacks separator apart [] e = refl
word_lacks separator apart (c ∷ name) e =
    let both = and_parts (is_word_byte c) (list_all is_word_byte name) e in
    let other : eqb c separator ≡ false = ne_eqb c separator (λ is. let bad : false ≡ true = sym apart ∙ ap is_word_byte (sym is) ∙ both.0 in cc) in
    both_of (not (eqb c separator)) (lacks separator name) (ap not other) (word_lacks separator apart name both.1)

word_some : (name : List ℕ) → is_name name ≡ true → name ≢ []
word_some [] e none = let bad : false ≡ true = e in cc
word_some (c ∷ name) e none = cc

word_listed : (name : List ℕ) → is_name name ≡ true → IsListed name
word_listed name e =
    let bytes = name_bytes name e in
    record { some = word_some name e; one_line = word_lacks LINE_END refl name bytes; unquoted = word_lacks BACKQUOTE refl name bytes; bytes = word_bytes name bytes }

-- the name of an aggregate's states
bytes_of : (agg : Agg) (name : List ℕ) → AreBytes name → AreBytes (aggregate_word agg ++ codes "(" ++ name ++ codes ")")
bytes_of agg name are = joined_bytes (aggregate_word agg ++ codes "(" ++ name) (codes ")") (joined_bytes (aggregate_word agg ++ codes "(") name (opening agg) are) (tested_bytes (codes ")") refl)
  where
    opening : (agg : Agg) → AreBytes (aggregate_word agg ++ codes "(")
    opening Sum = tested_bytes (codes "sum(") refl
    opening Min = tested_bytes (codes "min(") refl
    opening Max = tested_bytes (codes "max(") refl

state_name : (agg : Agg) (name : List ℕ) → IsListed name → IsListed (aggregate_word agg ++ codes "(" ++ name ++ codes ")")
state_name Sum name listed = record {
  some = λ none. cc;
  one_line = lacks_append LINE_END name (codes ")") listed.one_line refl;
  unquoted = lacks_append BACKQUOTE name (codes ")") listed.unquoted refl;
  bytes = bytes_of Sum name listed.bytes;
}
state_name Min name listed = record {
  some = λ none. cc;
  one_line = lacks_append LINE_END name (codes ")") listed.one_line refl;
  unquoted = lacks_append BACKQUOTE name (codes ")") listed.unquoted refl;
  bytes = bytes_of Min name listed.bytes;
}
state_name Max name listed = record {
  some = λ none. cc;
  one_line = lacks_append LINE_END name (codes ")") listed.one_line refl;
  unquoted = lacks_append BACKQUOTE name (codes ")") listed.unquoted refl;
  bytes = bytes_of Max name listed.bytes;
}

state_listed : (table : Table) (aggregate : Aggregate) → All HasListedName table.columns → IsOver table.columns aggregate → HasListedName (state_column table aggregate)
state_listed table Count listed over = record { some = λ none. cc; one_line = refl; unquoted = refl; bytes = tested_bytes (codes "count()") refl }
state_listed table (Of agg i) listed over = state_name agg (column_at table.columns i).name (listed i no_column over)

-- ---- definitions

table_listed : (table : Table) → All HasListedName table.columns
table_listed table =
    All-weaker (λ column. is_name column.name ≡ true) HasListedName (λ column word. word_listed column.name word) table.columns (names_are_words table.columns (each_of (fields_of_table table) table.rules).columns)

places_listed : (columns : List Column) (places : List ℕ) → All HasListedName columns → All (λ i. i < length columns) places → All HasListedName (map (column_at columns) places)
places_listed columns places listed known = All-map HasListedName (column_at columns) places (λ k d inside. listed (get_or places k d) no_column (known k d inside))

inner_listed : (table : Table) (projection : Projection) → keeps_projection table.columns projection ≡ true → All HasListedName (inner_of table projection).columns
inner_listed table (Normal name columns sort) keeps = places_listed table.columns (stored_columns table columns) (table_listed table) (stored_known table columns)
inner_listed table (Grouped name keys aggs) keeps =
    let rules = grouped_rules table.columns keys aggs (and_parts (is_name name) (keeps_grouped table.columns keys aggs) keeps).1 in
    let listed = table_listed table in
    All-append HasListedName (map (column_at table.columns) keys) (map (state_column table) aggs) (places_listed table.columns keys listed rules.within)
    (All-map HasListedName (state_column table) aggs
    (All-weaker (λ a. keeps_aggregate table.columns a ≡ true) (λ a. HasListedName (state_column table a)) (λ a kept. state_listed table a listed (is_over table.columns a kept)) aggs rules.each))

readable_of : (definition : PartDef) → IsDefinition definition → IsStored definition → All HasListedName definition.columns → IsReadable definition
readable_of definition is stored listed = record {
  some = is.listed;
  named = λ k d inside. (listed k d inside).bytes;
  listed = record {
    few = is.columns.few;
    types = λ i inside. is.columns.profile i no_column inside;
    some = λ i inside. (listed i no_column inside).some;
    one_line = λ i inside. (listed i no_column inside).one_line;
    unquoted = λ i inside. (listed i no_column inside).unquoted;
    differ = λ i j inside there same. elim (cases_order i j) [
      | inl e ↦ e
      | inr (inl below) ↦ absurd (stored.names i j no_column below there same)
      | inr (inr above) ↦ absurd (stored.names j i no_column above inside (sym same))
    ];
  };
}

-- ---- those of a table

pub base_readable : (table : Table) → IsStored (base_of table) → IsReadable (base_of table)
base_readable table stored = readable_of (base_of table) (base_is table) stored (table_listed table)

pub projections_readable : (table : Table) → All (λ projection. IsStored (inner_of table projection)) table.projections → All (λ projection. IsReadable (inner_of table projection)) table.projections
projections_readable table stored k d inside =
    let projection : Projection = get_or table.projections k d in
    readable_of (inner_of table projection) (projections_are table k d inside) (stored k d inside) (inner_listed table projection (projections_kept table k d inside))
