-- Names differ in the writer's folder of every table: each file is found by its name.
use Rattle.std.proofs.Common.{◌≡◌, ◌≢◌, ℕ, Bool, true, false, List, [], ◌∷◌, ◌++◌, get_or, refl, ap, sym, ◌∙◌}
use Rattle.std.specs.Prelude.{All, IsTrue, Some, None, codes, if◌then◌else◌}
use Rattle.std.specs.List.{flat_map, enumerate_from}
use Rattle.std.proofs.lemmas.List.Elements.{All-nil, All-cons, All-append, All-head, All-tail, All-weaker}
use Rattle.mt_types.specs.Profile.{is_profile}
use Rattle.mt_fault.specs.declared.file.FileBytes.{FileBytes}
use Rattle.mt_table.specs.declared.column.Column.{Column}
use Rattle.mt_table.specs.declared.definition.Table.{Table}
use Rattle.mt_table.specs.declared.skip.Skip.{Skip}
use Rattle.mt_table.specs.Fields.{fields}
use Rattle.mt_table.specs.Names.{skip_stem}
use Rattle.mt_table.specs.Kept.{keeps_columns, keeps_partition}
use Rattle.mt_table.proofs.KeptLemmas.{each_of}
use Rattle.mt_defs.specs.Folder.{folder_of}
use Rattle.mt_defs.specs.Rows.{Row}
use Rattle.mt_defs.specs.FileNames.{file_name}
use Rattle.mt_defs.specs.Projections.{base_of}
use Rattle.mt_defs.specs.WrittenGranules.{written_granules, is_small}
use Rattle.mt_defs.specs.WrittenColumns.{wide_column, wide_files, compact_files}
use Rattle.mt_defs.specs.WrittenPartition.{partition_files}
use Rattle.mt_defs.specs.WrittenSkips.{skip_files}
use Rattle.mt_defs.specs.Writer.{definition_files, projection_files, written_folder, file_cmp}
use Rattle.mt_law_written.proofs.LookupLemmas.{Apart, AreApart, found_here, found_later, other_name, sorted_folder}
use Rattle.mt_law_written.proofs.ListLemmas.{All-to_flat_map}
use Rattle.mt_law_written.proofs.NameLemmas.{stem_of, has_slash, file_name_injective}
use Rattle.mt_law_written.proofs.ApartLemmas.{Across, Unnamed, Labelled, across_flat, across_labels, apart_appended, no, yes, All-numbered}
use Rattle.mt_law_written.proofs.DefinitionLemmas.{data_files, listing_files}
use Rattle.mt_law_written.proofs.DataNames.{IsData, column_named, data_are, data_end, definition_apart, ends_as_data, labels_of, of_compact, of_listing}
use Rattle.mt_law_written.proofs.StoredLemmas.{base_own}
use Rattle.mt_law_written.proofs.PartitionLemmas.{OfPartition, begins_as_skip, is_listing, partition_apart, partition_named}
use Rattle.mt_law_written.proofs.SkipNames.{IndexRules, OfIndex, index_rules, index_stem, skip_labels, skip_named, skips_apart, stem_of_column}
use Rattle.mt_law_written.proofs.ProjectionLemmas.{ProjectionRules, files_slash, projection_rules, projections_apart}
use Rattle.mt_law_written.proofs.WideLemmas.{HasFile}

-- ---- the rules of a table

pub record TableRules (table : Table) : Type 0 where
  pub columns : keeps_columns table.columns ≡ true
  pub partition : keeps_partition table.columns table.partition ≡ true
  pub skips : IndexRules table
  pub projections : ProjectionRules table

pub rules_of : (table : Table) → TableRules table
rules_of table =
    let each = each_of (fields table.name table.columns table.partition table.sort table.primary table.skips table.projections table.settings) table.rules in
    record { columns = each.columns; partition = each.partition; skips = index_rules table each.skips; projections = projection_rules table each.projections }

-- ---- the parts of the folder

abbrev pub own_files : Table → List Row → List FileBytes
own_files table rows = definition_files table.settings (base_of table) rows

abbrev pub index_files : Table → List Row → List FileBytes
index_files table rows = flat_map (skip_files table rows) table.skips

abbrev pub stored_files : Table → List Row → List FileBytes
stored_files table rows = flat_map (projection_files table rows) table.projections

-- all files, before they are sorted by their names
abbrev pub all_files : Table → List Row → List FileBytes
all_files table rows = own_files table rows ++ partition_files table rows ++ index_files table rows ++ stored_files table rows

abbrev pub granules_of : Table → List Row → List ℕ
granules_of table rows = written_granules table.settings table.columns rows

abbrev pub own_data : Table → List Row → List FileBytes
own_data table rows = data_files table.columns rows (granules_of table rows) (is_small table.settings table.columns rows)

abbrev pub own_listing : Table → List Row → List FileBytes
own_listing table rows = listing_files (base_of table) rows (granules_of table rows)

pub data_of : (table : Table) (rows : List Row) → TableRules table → All IsData (own_data table rows)
data_of table rows rules = data_are table.columns rows (granules_of table rows) (is_small table.settings table.columns rows) (base_own table.columns rules.columns).types

-- ---- no two parts have a name in common

pub partition_label : {L : Type 0} (label : List ℕ → L) (value : L) (table : Table) (rows : List Row) → ((file : FileBytes) → OfPartition file → label file.name ≡ value) → Labelled label value (partition_files table rows)
partition_label label value table rows f = All-weaker OfPartition (λ file. label file.name ≡ value) f (partition_files table rows) (partition_named table rows)

pub index_label : {L : Type 0} (label : List ℕ → L) (value : L) (table : Table) (rows : List Row) → ((skip : Skip) (file : FileBytes) → OfIndex skip file → label file.name ≡ value) → Labelled label value (index_files table rows)
index_label label value table rows f =
    All-to_flat_map (λ file. label file.name ≡ value) (skip_files table rows) table.skips (λ k d inside.
    let skip : Skip = get_or table.skips k d in
    All-weaker (OfIndex skip) (λ file. label file.name ≡ value) (f skip) (skip_files table rows skip) (skip_named table rows skip))

pub listing_label : {L : Type 0} (label : List ℕ → L) (value : L) (table : Table) (rows : List Row) → label (codes "columns.txt") ≡ value → label (codes "count.txt") ≡ value → label (codes "primary.idx") ≡ value
    → Labelled label value (own_listing table rows)
listing_label label value table rows one two three = of_listing (λ f. label f.name ≡ value) (base_of table) rows (granules_of table rows) one two three

own_partition : (table : Table) (rows : List Row) → TableRules table → Across (own_files table rows) (partition_files table rows)
own_partition table rows rules =
    All-append (λ f. Unnamed f.name (partition_files table rows)) (own_listing table rows) (own_data table rows)
    (across_labels is_listing true false (own_listing table rows) (partition_files table rows) yes (listing_label is_listing true table rows refl refl refl) (partition_label is_listing false table rows (λ f is. is.listing)))
    (across_labels ends_as_data true false (own_data table rows) (partition_files table rows) yes (data_end (own_data table rows) (data_of table rows rules)) (partition_label ends_as_data false table rows (λ f is. is.ends)))

-- no column is named as an index's files
column_index : (table : Table) (rows : List Row) (granules : List ℕ) (k : ℕ) (column : Column) (skip : Skip) → is_profile column.ty ≡ true → column.name ≢ skip_stem skip.name
    → Across (wide_column rows granules (k, column)) (skip_files table rows skip)
column_index table rows granules k column skip profile other =
    across_labels stem_of (file_name column.name) (index_stem skip.name) (wide_column rows granules (k, column)) (skip_files table rows skip)
    (λ same. other (file_name_injective column.name (skip_stem skip.name) (same ∙ sym (stem_of_column skip.name))))
    (labels_of (file_name column.name) (wide_column rows granules (k, column)) (column_named rows granules k column profile)) (skip_labels table rows skip)

abbrev Free : Table → Column → Type 0
Free table column = IsTrue (is_profile column.ty) × All (λ skip. column.name ≢ skip_stem skip.name) table.skips

free_columns : (table : Table) → TableRules table → All (Free table) table.columns
free_columns table rules k d inside = ((base_own table.columns rules.columns).types k d inside, λ j e within. rules.skips.no_column j e within k d inside)

wide_index : (table : Table) (rows : List Row) → TableRules table → Across (wide_files table.columns rows (granules_of table rows)) (index_files table rows)
wide_index table rows rules =
    let granules = granules_of table rows in
    All-to_flat_map (λ f. Unnamed f.name (index_files table rows)) (wide_column rows granules) (enumerate_from 0 table.columns)
    (All-weaker (λ p. Free table p.1) (λ p. Across (wide_column rows granules p) (index_files table rows)) (λ p free.
    across_flat (skip_files table rows) (wide_column rows granules p) table.skips (λ j e within. column_index table rows granules p.0 p.1 (get_or table.skips j e) free.0 (free.1 j e within))) (enumerate_from 0 table.columns)
    (All-numbered (Free table) 0 table.columns (free_columns table rules)))

data_index : (table : Table) (rows : List Row) (compact : Bool) → TableRules table → Across (data_files table.columns rows (granules_of table rows) compact) (index_files table rows)
data_index table rows true rules =
    across_labels begins_as_skip false true (compact_files table.columns rows (granules_of table rows)) (index_files table rows) no (of_compact (λ f. begins_as_skip f.name ≡ false) table.columns rows (granules_of table rows) refl refl) (index_label begins_as_skip true table rows (λ skip f is. is.begins))
data_index table rows false rules = wide_index table rows rules

own_index : (table : Table) (rows : List Row) → TableRules table → Across (own_files table rows ++ partition_files table rows) (index_files table rows)
own_index table rows rules =
    let P : FileBytes → Type 0 = λ f. Unnamed f.name (index_files table rows) in
    let indexes = index_label begins_as_skip true table rows (λ skip f is. is.begins) in
    All-append P (own_files table rows) (partition_files table rows)
    (All-append P (own_listing table rows) (own_data table rows) (across_labels begins_as_skip false true (own_listing table rows) (index_files table rows) no (listing_label begins_as_skip false table rows refl refl refl) indexes)
    (data_index table rows (is_small table.settings table.columns rows) rules))
    (across_labels begins_as_skip false true (partition_files table rows) (index_files table rows) no (partition_label begins_as_skip false table rows (λ f is. is.begins)) indexes)

-- no slash is in the names of the part's own files
pub plain_files : (table : Table) (rows : List Row) → TableRules table → Labelled has_slash false (own_files table rows ++ partition_files table rows ++ index_files table rows)
plain_files table rows rules =
    let P : FileBytes → Type 0 = λ f. has_slash f.name ≡ false in
    All-append P (own_files table rows ++ partition_files table rows) (index_files table rows)
    (All-append P (own_files table rows) (partition_files table rows)
    (All-append P (own_listing table rows) (own_data table rows) (listing_label has_slash false table rows refl refl refl) (All-weaker IsData P (λ f is. is.no_slash) (own_data table rows) (data_of table rows rules)))
    (partition_label has_slash false table rows (λ f is. is.no_slash))) (index_label has_slash false table rows (λ skip f is. is.no_slash))

pub stored_slash : (table : Table) (rows : List Row) → Labelled has_slash true (stored_files table rows)
stored_slash table rows = All-to_flat_map (λ f. has_slash f.name ≡ true) (projection_files table rows) table.projections (λ k d inside. files_slash table rows (get_or table.projections k d))

-- all names differ
pub folder_apart : (table : Table) (rows : List Row) → TableRules table → AreApart (all_files table rows)
folder_apart table rows rules =
    let own = base_own table.columns rules.columns in
    let plain = own_files table rows ++ partition_files table rows ++ index_files table rows in
    apart_appended plain (stored_files table rows)
    (apart_appended (own_files table rows ++ partition_files table rows) (index_files table rows)
    (apart_appended (own_files table rows) (partition_files table rows) (definition_apart table.settings (base_of table) rows own) (partition_apart table rows own.differ rules.partition) (own_partition table rows rules))
    (skips_apart table rows rules.skips) (own_index table rows rules))
    (projections_apart table rows rules.columns rules.projections) (across_labels has_slash false true plain (stored_files table rows) no (plain_files table rows rules) (stored_slash table rows))

-- ---- what is found

later_found : (file : FileBytes) (files others : List FileBytes) → Apart file others → All (HasFile (folder_of files)) others → All (HasFile (folder_of (file ∷ files))) others
later_found file files [] apart there = All-nil _
later_found file files (other ∷ others) apart there =
    let Has : FileBytes → Type 0 = HasFile (folder_of files) in
    All-cons (HasFile (folder_of (file ∷ files))) other others (found_later file files other.name (Some other.bytes) apart.0 (All-head Has other others there)) (later_found file files others apart.1 (All-tail Has other others there))

-- files of different names are all found
pub all_found : (files : List FileBytes) → AreApart files → All (HasFile (folder_of files)) files
all_found [] apart = All-nil _
all_found (file ∷ files) apart = All-cons (HasFile (folder_of (file ∷ files))) file files (found_here file files) (later_found file files files apart.0 (all_found files apart.1))

-- a name of no file isn't
pub absent : (files : List FileBytes) (name : List ℕ) → All (λ file. file.name ≢ name) files → folder_of files name ≡ None
absent [] name none = refl
absent (file ∷ files) name none =
    let P : FileBytes → Type 0 = λ f. f.name ≢ name in
    ap (λ b. if b then Some file.bytes else folder_of files name) (other_name file.name name (All-head P file files none)) ∙ absent files name (All-tail P file files none)

-- the writer's folder is that of all its files
pub folder_is : (table : Table) (rows : List Row) → TableRules table → folder_of (written_folder table rows) ≡ folder_of (all_files table rows)
folder_is table rows rules = sorted_folder file_cmp (all_files table rows) (folder_apart table rows rules)
