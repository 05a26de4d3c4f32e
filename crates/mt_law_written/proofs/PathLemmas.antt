-- The name of each file of the writer's folder is a relative path, in UTF-8.
use Rattle.std.proofs.Common.{◌≡◌, ℕ, ◌<◌, ◌≤◌, Bool, true, false, List, [], ◌∷◌, ◌++◌, length, map, take, get_or, refl, subst, append_assoc, arith, lit≤}
use Rattle.std.specs.Prelude.{All, IsTrue, codes}
use Rattle.std.specs.List.{flat_map, enumerate_from}
use Rattle.std.proofs.lemmas.Bool.{and_parts}
use Rattle.std.proofs.lemmas.List.{length-append}
use Rattle.std.proofs.lemmas.List.Elements.{All-nil, All-cons, All-append, All-weaker}
use Rattle.mt_types.specs.Profile.{is_profile}
use Rattle.mt_fault.specs.declared.file.FileBytes.{FileBytes}
use Rattle.mt_shelf.specs.Held.{HasName}
use Rattle.mt_types.specs.Words.{is_name}
use Rattle.mt_table.specs.declared.column.Column.{Column}
use Rattle.mt_table.specs.declared.definition.Table.{Table}
use Rattle.mt_table.specs.declared.definition.PartDef.{PartDef}
use Rattle.mt_table.specs.declared.settings.Settings.{Settings}
use Rattle.mt_table.specs.declared.skip.Skip.{Skip}
use Rattle.mt_table.specs.declared.skip.SkipKind.{SkipKind}
use Rattle.mt_table.specs.declared.skip.SkipKind.TheVariants.{Minmax, Set}
use Rattle.mt_table.specs.declared.projection.Aggregate.{Aggregate}
use Rattle.mt_table.specs.declared.projection.Aggregate.TheVariants.{Count, Of}
use Rattle.mt_table.specs.declared.projection.Projection.{Projection}
use Rattle.mt_table.specs.declared.projection.Projection.TheVariants.{Normal, Grouped}
use Rattle.mt_table.specs.Kept.{keeps_aggregate, keeps_columns, keeps_grouped, keeps_partition, keeps_projection}
use Rattle.mt_types.specs.declared.ty.Agg.{Agg}
use Rattle.mt_types.specs.declared.ty.Agg.TheVariants.{Sum, Min, Max}
use Rattle.mt_defs.specs.Metadata.{column_at, no_column}
use Rattle.mt_defs.specs.Lists.{AreBytes}
use Rattle.mt_defs.specs.Rows.{Row}
use Rattle.mt_defs.specs.FileNames.{file_name}
use Rattle.mt_defs.specs.Part.{marks_ending}
use Rattle.mt_defs.specs.Partition.{minmax_name, partition_bytes, partition_name}
use Rattle.mt_defs.specs.Projections.{aggregate_word, base_of, inner_of, projection_name, projection_prefix, state_column, stored_columns}
use Rattle.mt_defs.specs.SkipIndexes.{data_ending}
use Rattle.mt_defs.specs.WrittenColumns.{file, wide_column, wide_files}
use Rattle.mt_defs.specs.WrittenGranules.{written_granules, is_small}
use Rattle.mt_defs.specs.WrittenPartition.{minmax_file, partition_files}
use Rattle.mt_defs.specs.WrittenSkips.{skip_files}
use Rattle.mt_defs.specs.Writer.{definition_files, file_below, file_cmp, projection_files, projection_rows, written_folder}
use Rattle.mt_defs.proofs.Sorted.{All-sorted_by}
use Rattle.mt_defs.proofs.ListLemmas.{All-distinct_by, tested_bytes}
use Rattle.mt_law_written.proofs.ListLemmas.{All-right, All-two, All-mapped, All-to_flat_map, All-both}
use Rattle.mt_law_written.proofs.RuleLemmas.{name_bytes}
use Rattle.mt_law_written.proofs.StoredLemmas.{base_own, grouped_rules, inner_own, names_are_words, stored_within}
use Rattle.mt_law_written.proofs.AggregateLemmas.{IsKnown, is_over}
use Rattle.mt_law_written.proofs.PartitionLemmas.{distinct, is_same, files_by, key_columns, key_within}
use Rattle.mt_law_written.proofs.SkipNames.{index_stem}
use Rattle.mt_law_written.proofs.ProjectionLemmas.{name_kept}
use Rattle.mt_law_written.proofs.FolderLemmas.{TableRules, all_files, index_files, own_files, rules_of, stored_files}
use Rattle.mt_law_written.proofs.WideLemmas.{no_file}
use Rattle.mt_law_written.proofs.PlainLemmas.{is_plain, plain_appended, file_name_plain, word_bytes, word_plain}
use Rattle.mt_law_written.proofs.ApartLemmas.{All-numbered}
use Rattle.mt_law_written.proofs.SuffixLemmas.{IsSuffix}
use Rattle.mt_law_written.proofs.DefinitionLemmas.{data_files, listing_files, written_layout}
use Rattle.mt_law_written.proofs.DataNames.{of_column, of_compact, of_listing}
use Rattle.mt_law_written.proofs.PlainPaths.{IsPlainName, OfPlainName, below_path, plain_path}

-- ---- names of files

with_ending : (stem ending : List ℕ) → is_plain stem ≡ true → is_plain ending ≡ true → 3 ≤ length ending → IsPlainName (stem ++ ending)
with_ending stem ending one two long = record { plain = plain_appended stem ending one two; long = omega (arith, long, length-append stem ending) }

stream_plain : (name suffix ending : List ℕ) → AreBytes name → IsSuffix suffix → is_plain ending ≡ true → 3 ≤ length ending → IsPlainName ((file_name name ++ suffix) ++ ending)
stream_plain name suffix ending bytes is plain long = with_ending (file_name name ++ suffix) ending (plain_appended (file_name name) suffix (file_name_plain name bytes) is.plain) plain long

column_plain : (rows : List Row) (granules : List ℕ) (k : ℕ) (column : Column) → is_profile column.ty ≡ true → AreBytes column.name → All OfPlainName (wide_column rows granules (k, column))
column_plain rows granules k column profile bytes =
    of_column IsPlainName rows granules k column profile (λ suffix is. (stream_plain column.name suffix (codes ".bin") bytes is refl (lit≤ tt), stream_plain column.name suffix (codes ".mrk2") bytes is refl (lit≤ tt)))

abbrev Named : Column → Type 0
Named column = IsTrue (is_profile column.ty) × AreBytes column.name

wide_plain : (columns : List Column) (rows : List Row) (granules : List ℕ) → All Named columns → All OfPlainName (wide_files columns rows granules)
wide_plain columns rows granules named =
    All-to_flat_map OfPlainName (wide_column rows granules) (enumerate_from 0 columns)
    (All-weaker (λ p. Named p.1) (λ p. All OfPlainName (wide_column rows granules p)) (λ p both. column_plain rows granules p.0 p.1 both.0 both.1) (enumerate_from 0 columns) (All-numbered Named 0 columns named))

data_plain : (columns : List Column) (rows : List Row) (granules : List ℕ) (compact : Bool) → All Named columns → All OfPlainName (data_files columns rows granules compact)
data_plain columns rows granules true named = of_compact OfPlainName columns rows granules (record { plain = refl; long = lit≤ tt }) (record { plain = refl; long = lit≤ tt })
data_plain columns rows granules false named = wide_plain columns rows granules named

pub definition_plain : (settings : Settings) (definition : PartDef) (rows : List Row) → All Named definition.columns → All OfPlainName (definition_files settings definition rows)
definition_plain settings definition rows named =
    let granules = written_granules settings definition.columns rows in
    let compact : Bool = written_layout settings definition rows in
    All-append OfPlainName (listing_files definition rows granules) (data_files definition.columns rows granules compact)
    (of_listing OfPlainName definition rows granules (record { plain = refl; long = lit≤ tt }) (record { plain = refl; long = lit≤ tt }) (record { plain = refl; long = lit≤ tt })) (data_plain definition.columns rows granules compact named)

-- ---- columns' names are bytes

base_named : (columns : List Column) → keeps_columns columns ≡ true → All Named columns
base_named columns keeps =
    All-both IsKnown (λ column. is_name column.name ≡ true) Named (λ column profile word. (profile, word_bytes column.name (name_bytes column.name word))) columns (base_own columns keeps).types (names_are_words columns keeps)

selected_named : (columns : List Column) (places : List ℕ) → All Named columns → All (λ i. i < length columns) places → All Named (map (column_at columns) places)
selected_named columns places named within = All-mapped Named (column_at columns) places (λ k d inside. named (get_or places k d) no_column (within k d inside))

word_of_agg : (agg : Agg) → AreBytes (aggregate_word agg)
word_of_agg Sum = tested_bytes (codes "sum") refl
word_of_agg Min = tested_bytes (codes "min") refl
word_of_agg Max = tested_bytes (codes "max") refl

state_named : (table : Table) (aggregate : Aggregate) → All Named table.columns → keeps_aggregate table.columns aggregate ≡ true → AreBytes (state_column table aggregate).name
state_named table Count named keeps = tested_bytes (codes "count()") refl
state_named table (Of agg i) named keeps =
    let P : ℕ → Type 0 = λ byte. byte < 256 in
    let name : List ℕ = (column_at table.columns i).name in
    All-append P (aggregate_word agg ++ codes "(" ++ name) (codes ")") (All-append P (aggregate_word agg ++ codes "(") name (All-append P (aggregate_word agg) (codes "(") (word_of_agg agg) (tested_bytes (codes "(") refl))
    (named i no_column (is_over table.columns (Of agg i) keeps)).1) (tested_bytes (codes ")") refl)

inner_named : (table : Table) (projection : Projection) → keeps_columns table.columns ≡ true → keeps_projection table.columns projection ≡ true → All Named (inner_of table projection).columns
inner_named table (Normal name selected sort) columns keeps =
    selected_named table.columns (stored_columns table selected) (base_named table.columns columns) (stored_within table selected)
inner_named table (Grouped name keys aggs) columns keeps =
    let named = base_named table.columns columns in
    let rules = grouped_rules table.columns keys aggs (and_parts (is_name name) (keeps_grouped table.columns keys aggs) keeps).1 in
    let own = inner_own table (Grouped name keys aggs) columns keeps in
    let states : List Column = map (state_column table) aggs in
    All-append Named (map (column_at table.columns) keys) states (selected_named table.columns keys named rules.within)
    (All-both IsKnown (λ column. AreBytes column.name) Named (λ column profile bytes. (profile, bytes)) states (All-right IsKnown (map (column_at table.columns) keys) states own.types)
    (All-mapped (λ column. AreBytes column.name) (state_column table) aggs (All-weaker (λ a. keeps_aggregate table.columns a ≡ true) (λ a. AreBytes (state_column table a).name) (λ a keeps. state_named table a named keeps) aggs rules.each)))

-- ---- the other files

minmax_plain : (table : Table) (i : ℕ) → AreBytes (column_at table.columns i).name → IsPlainName (minmax_name table i)
minmax_plain table i bytes =
    let name : List ℕ = file_name (column_at table.columns i).name in
    with_ending (codes "minmax_" ++ name) (codes ".idx") (plain_appended (codes "minmax_") name refl (file_name_plain (column_at table.columns i).name bytes)) refl (lit≤ tt)

partition_plain : (table : Table) (rows : List Row) → All Named table.columns → keeps_partition table.columns table.partition ≡ true → All OfPlainName (partition_files table rows)
partition_plain table rows named keeps =
    let places : List ℕ = distinct (key_columns table) in
    let within : All (λ i. i < length table.columns) places = All-distinct_by (λ i. i < length table.columns) is_same (key_columns table) (key_within table keeps) in
    files_by table rows (All OfPlainName) (All-nil OfPlainName)
    (All-cons OfPlainName (file partition_name (flat_map (partition_bytes table) (take 1 rows))) (map (minmax_file table rows) places) (record { plain = refl; long = lit≤ tt })
    (All-mapped OfPlainName (minmax_file table rows) places (λ k d inside. minmax_plain table (get_or places k d) (named (get_or places k d) no_column (within k d inside)).1)))

data_ending_plain : (name : List ℕ) (kind : SkipKind) → is_plain (index_stem name) ≡ true → IsPlainName (index_stem name ++ data_ending kind)
data_ending_plain name Minmax plain = with_ending (index_stem name) (codes ".idx2") plain refl (lit≤ tt)
data_ending_plain name (Set n) plain = with_ending (index_stem name) (codes ".idx") plain refl (lit≤ tt)

marks_ending_plain : (name : List ℕ) (compact : Bool) → is_plain (index_stem name) ≡ true → IsPlainName (index_stem name ++ marks_ending compact)
marks_ending_plain name true plain = with_ending (index_stem name) (codes ".mrk3") plain refl (lit≤ tt)
marks_ending_plain name false plain = with_ending (index_stem name) (codes ".mrk2") plain refl (lit≤ tt)

skip_plain : (table : Table) (rows : List Row) (skip : Skip) → is_name skip.name ≡ true → All OfPlainName (skip_files table rows skip)
skip_plain table rows skip word =
    let files = skip_files table rows skip in
    let plain : is_plain (index_stem skip.name) ≡ true = plain_appended (codes "skp_idx_") (file_name skip.name) refl (file_name_plain skip.name (word_bytes skip.name (name_bytes skip.name word))) in
    All-two OfPlainName (get_or files 0 no_file) (get_or files 1 no_file) (data_ending_plain skip.name skip.kind plain) (marks_ending_plain skip.name (is_small table.settings table.columns rows) plain)

-- ---- the files of a projection

above_plain : (name : List ℕ) → is_name name ≡ true → IsPlainName (name ++ codes ".proj")
above_plain name word = with_ending name (codes ".proj") (word_plain name (name_bytes name word)) refl (lit≤ tt)

projection_paths : (table : Table) (rows : List Row) (projection : Projection) → keeps_columns table.columns ≡ true → keeps_projection table.columns projection ≡ true → All HasName (projection_files table rows projection)
projection_paths table rows projection columns keeps =
    let above : List ℕ = projection_name projection ++ codes ".proj" in
    let same : above ++ 47 ∷ [] ≡ projection_prefix projection = append_assoc (projection_name projection) (codes ".proj") (47 ∷ []) in
    let files = definition_files table.settings (inner_of table projection) (projection_rows table projection rows) in
    let plain : All OfPlainName files = definition_plain table.settings (inner_of table projection) (projection_rows table projection rows) (inner_named table projection columns keeps) in
    All-mapped HasName (file_below (projection_prefix projection)) files (λ k d inside.
    subst (λ prefix. HasName (file_below prefix (get_or files k d))) same (below_path above (get_or files k d) (above_plain (projection_name projection) (name_kept table projection keeps)) (plain k d inside)))

-- ---- all files

all_paths : (table : Table) (rows : List Row) → TableRules table → All HasName (all_files table rows)
all_paths table rows rules =
    let named = base_named table.columns rules.columns in
    let Plain : FileBytes → Type 0 = OfPlainName in
    let plain : All Plain (own_files table rows ++ partition_files table rows ++ index_files table rows) =
    All-append Plain (own_files table rows ++ partition_files table rows) (index_files table rows)
    (All-append Plain (own_files table rows) (partition_files table rows) (definition_plain table.settings (base_of table) rows named) (partition_plain table rows named rules.partition))
    (All-to_flat_map Plain (skip_files table rows) table.skips (All-weaker (λ skip. is_name skip.name ≡ true) (λ skip. All Plain (skip_files table rows skip)) (skip_plain table rows) table.skips rules.skips.words)) in
    All-append HasName (own_files table rows ++ partition_files table rows ++ index_files table rows) (stored_files table rows)
    (All-weaker Plain HasName plain_path (own_files table rows ++ partition_files table rows ++ index_files table rows) plain)
    (All-to_flat_map HasName (projection_files table rows) table.projections
    (All-weaker (λ p. keeps_projection table.columns p ≡ true) (λ p. All HasName (projection_files table rows p)) (λ p keeps. projection_paths table rows p rules.columns keeps) table.projections rules.projections.each))

pub written_paths : (table : Table) (rows : List Row) → All HasName (written_folder table rows)
written_paths table rows = All-sorted_by file_cmp HasName (all_files table rows) (all_paths table rows (rules_of table))
