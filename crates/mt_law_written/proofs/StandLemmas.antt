-- The writer's folder of writable rows stands for these rows.
use Rattle.std.proofs.Common.{◌≡◌, ◌≢◌, ℕ, suc, ◌<◌, ◌≤◌, List, [], ◌∷◌, ◌++◌, length, get_or, refl, sym, subst, arith, inr}
use Rattle.std.specs.Prelude.{All, AllPairs, Contains, IsSome, IsTrue}
use Rattle.std.proofs.lemmas.List.Elements.{All-weaker}
use Rattle.mt_types.specs.Profile.{is_profile}
use Rattle.mt_fault.specs.declared.file.FileBytes.{FileBytes}
use Rattle.mt_table.specs.declared.column.Column.{Column}
use Rattle.mt_table.specs.declared.definition.Table.{Table}
use Rattle.mt_table.specs.declared.definition.PartDef.{PartDef}
use Rattle.mt_table.specs.declared.settings.Settings.{Settings}
use Rattle.mt_table.specs.declared.projection.Projection.{Projection}
use Rattle.mt_table.specs.declared.skip.Skip.{Skip}
use Rattle.mt_defs.specs.Folder.{Folder, folder_of, folder_below}
use Rattle.mt_defs.specs.Rows.{Row, ArePartRows}
use Rattle.mt_defs.specs.Compact.{compact_marks_name}
use Rattle.mt_defs.specs.Metadata.{no_column}
use Rattle.mt_defs.specs.Part.{HasProjection, HoldsRows, StandsForIn, is_compact, known_names, marks_ending}
use Rattle.mt_defs.specs.Projections.{base_of, inner_of, projection_prefix}
use Rattle.mt_defs.specs.SkipIndexes.{HasSkipIndex}
use Rattle.mt_defs.specs.WrittenGranules.{written_granules}
use Rattle.mt_defs.specs.WrittenPartition.{partition_files}
use Rattle.mt_defs.specs.WrittenSkips.{skip_files}
use Rattle.mt_defs.specs.Writer.{IsWritable, definition_files, file_cmp, file_below, projection_files, projection_rows, written_folder}
use Rattle.mt_defs.proofs.Sorted.{All-sorted_by}
use Rattle.mt_proj.proofs.LawLemmas.{written_stand}
use Rattle.mt_law_written.specs.Stored.{IsStored}
use Rattle.mt_law_written.proofs.ListLemmas.{All-left, All-right, All-of_flat_map, All-of_map}
use Rattle.mt_law_written.proofs.WideLemmas.{HasFile, column_holds}
use Rattle.mt_law_written.proofs.OrderLemmas.{Differently, each_later, later_sorted, pairs_of}
use Rattle.mt_law_written.proofs.ApartLemmas.{EachLater}
use Rattle.mt_law_written.proofs.ListedLemmas.{ArePlaces, own_order}
use Rattle.mt_law_written.proofs.MustLemmas.{base_must, inner_must}
use Rattle.mt_law_written.proofs.DefinitionLemmas.{definition_held, definition_layout, held_order, written_layout}
use Rattle.mt_law_written.proofs.DataNames.{AreOwn, definition_apart}
use Rattle.mt_law_written.proofs.StoredLemmas.{base_own, inner_own}
use Rattle.mt_law_written.proofs.PartitionLemmas.{partition_held}
use Rattle.mt_law_written.proofs.SkipLemmas.{skip_held}
use Rattle.mt_law_written.proofs.FolderLemmas.{TableRules, absent, all_files, all_found, folder_apart, folder_is, index_files, own_files, rules_of, stored_files}
use Rattle.mt_law_written.proofs.AbsentLemmas.{below_absent, definition_absent, marks_absent, partition_absent}
use Rattle.mt_law_written.proofs.KnownLemmas.{Layouts, names_known}

-- ---- one definition

pub own_columns : (columns : List Column) → AllPairs (λ a b. a.name ≢ b.name) columns → All (λ column. IsTrue (is_profile column.ty)) columns → AreOwn columns
own_columns columns names types = record { differ = later columns names; types = types }
  where
    later : (columns : List Column) → AllPairs (λ a b. a.name ≢ b.name) columns → EachLater (λ a b. a.name ≢ b.name) columns
    later [] pairs = tt
    later (column ∷ columns) pairs =
        (λ k d inside. pairs 0 (suc k) d (omega arith) (omega (arith, inside)), later columns (λ i j d low inside. pairs (suc i) (suc j) d (omega (arith, low)) (omega (arith, inside))))

own_of : (definition : PartDef) → IsStored definition → AreOwn definition.columns
own_of definition stored = own_columns definition.columns stored.names stored.types

stored_of : (definition : PartDef) → AreOwn definition.columns → ArePlaces definition.columns definition.must → IsStored definition
stored_of definition own must = record { names = pairs_of (λ a b. a.name ≢ b.name) definition.columns own.differ; types = own.types; must = must }

-- the definitions of a table
pub base_stored : (table : Table) → IsStored (base_of table)
base_stored table = stored_of (base_of table) (base_own table.columns (rules_of table).columns) (base_must table)

pub inner_stored : (table : Table) → All (λ projection. IsStored (inner_of table projection)) table.projections
inner_stored table k d inside =
    let rules = rules_of table in
    let projection : Projection = get_or table.projections k d in
    stored_of (inner_of table projection) (inner_own table projection rules.columns (rules.projections.each k d inside)) (inner_must table projection)

-- the writer's files of a definition's rows hold these rows
pub definition_holds : (settings : Settings) (definition : PartDef) (rows : List Row) → IsStored definition → ArePartRows definition rows
    → HoldsRows definition (folder_of (definition_files settings definition rows)) rows (written_granules settings definition.columns rows)
definition_holds settings definition rows stored are =
    let own = own_of definition stored in
    let files = definition_files settings definition rows in
    definition_held settings definition rows (folder_of files) own.types stored.must are (λ wide. absent files compact_marks_name (definition_absent settings definition rows own.types wide))
    (all_found files (definition_apart settings definition rows own))

-- ---- the parts of a table's folder

record Parts (table : Table) (rows : List Row) (folder : Folder) : Type 0 where
  own : All (HasFile folder) (own_files table rows)
  partition : All (HasFile folder) (partition_files table rows)
  indexes : All (λ skip. All (HasFile folder) (skip_files table rows skip)) table.skips
  stored : All (λ projection. All (HasFile (folder_below folder (projection_prefix projection))) (definition_files table.settings (inner_of table projection) (projection_rows table projection rows))) table.projections

parts_of : (table : Table) (rows : List Row) (folder : Folder) → All (HasFile folder) (all_files table rows) → Parts table rows folder
parts_of table rows folder all =
    let Has : FileBytes → Type 0 = HasFile folder in
    let own = own_files table rows in
    let partition = partition_files table rows in
    let indexes = index_files table rows in
    let stored = stored_files table rows in
    let plain = All-left Has (own ++ partition ++ indexes) stored all in
    let first = All-left Has (own ++ partition) indexes plain in
    record {
      own = All-left Has own partition first;
      partition = All-right Has own partition first;
      indexes = All-of_flat_map Has (skip_files table rows) table.skips (All-right Has (own ++ partition) indexes plain);
      stored =
          All-weaker (λ projection. All Has (projection_files table rows projection))
          (λ projection. All (HasFile (folder_below folder (projection_prefix projection))) (definition_files table.settings (inner_of table projection) (projection_rows table projection rows))) (λ projection there.
          All-of_map Has (file_below (projection_prefix projection)) (definition_files table.settings (inner_of table projection) (projection_rows table projection rows)) there) table.projections
          (All-of_flat_map Has (projection_files table rows) table.projections (All-right Has (own ++ partition ++ indexes) stored all));
    }

module _ (table : Table) (rows : List Row) (writable : IsWritable table rows) where
  abbrev folder : Folder
  folder = folder_of (all_files table rows)

  rules : TableRules table
  rules = rules_of table

  parts : Parts table rows folder
  parts = parts_of table rows folder (all_found (all_files table rows) (folder_apart table rows rules))

  compact_is : is_compact folder ≡ written_layout table.settings (base_of table) rows
  compact_is = definition_layout table.settings (base_of table) rows folder (marks_absent table rows rules) parts.own

  has_index : (skip : Skip) → skip.column < length table.columns → 1 ≤ skip.granularity → All (HasFile folder) (skip_files table rows skip)
      → HasSkipIndex table skip (marks_ending (is_compact folder)) rows (written_granules table.settings table.columns rows) folder
  has_index skip known coarse there =
      let holds = column_holds table.columns rows (base_own table.columns rules.columns).types writable.part_rows.fit skip.column no_column known in
      subst (λ compact. HasSkipIndex table skip (marks_ending compact) rows (written_granules table.settings table.columns rows) folder) (sym compact_is) (skip_held table skip rows folder coarse holds writable.part_rows.few_rows there)

  has_projection : (k : ℕ) (d : Projection) → k < length table.projections → HasProjection table folder rows (get_or table.projections k d)
  has_projection k d inside =
      let projection : Projection = get_or table.projections k d in
      let definition : PartDef = inner_of table projection in
      let stored : List Row = projection_rows table projection rows in
      record {
        stored = stored;
        granules = written_granules table.settings definition.columns stored;
        holds =
            definition_held table.settings definition stored (folder_below folder (projection_prefix projection)) (inner_own table projection rules.columns (rules.projections.each k d inside)).types (inner_must table projection) (writable.projections k d inside)
            (below_absent table rows rules k d inside) (parts.stored k d inside);
        stands = written_stand table projection rows;
      }

  layouts : Layouts table rows folder
  layouts = record {
    own = compact_is;
    stored = λ k d inside.
        let projection : Projection = get_or table.projections k d in
        definition_layout table.settings (inner_of table projection) (projection_rows table projection rows) (folder_below folder (projection_prefix projection)) (below_absent table rows rules k d inside) (parts.stored k d inside);
  }

  abbrev AllKnown : List ℕ → Type 0
  AllKnown order = (name : List ℕ) → IsSome (folder name) → Contains (known_names table order folder) name

  types : All (λ column. IsTrue (is_profile column.ty)) table.columns
  types = (base_own table.columns rules.columns).types

  lists_all : (definition_held table.settings (base_of table) rows folder types (base_must table) writable.part_rows (marks_absent table rows rules) parts.own).order ≡ own_order table.columns
  lists_all = held_order table.settings (base_of table) rows folder types (base_must table) writable.part_rows (marks_absent table rows rules) parts.own

  files_stand : StandsForIn table folder rows (written_granules table.settings table.columns rows)
  files_stand = record {
    holds = definition_held table.settings (base_of table) rows folder types (base_must table) writable.part_rows (marks_absent table rows rules) parts.own;
    one_partition = writable.one_partition;
    partition = partition_held table rows folder writable.part_rows.not_empty (partition_absent table rows rules) parts.partition;
    skips = λ k d inside. inr (has_index (get_or table.skips k d) (rules.skips.known k d inside) (rules.skips.coarse k d inside) (parts.indexes k d inside));
    projections = λ k d inside. inr (has_projection k d inside);
    known = subst AllKnown (sym lists_all) (names_known table rows folder refl layouts);
  }

-- each file of the writer's folder is found by its name
pub written_found : (table : Table) (rows : List Row) → All (HasFile (folder_of (written_folder table rows))) (written_folder table rows)
written_found table rows =
    let rules = rules_of table in
    let files = all_files table rows in
    subst (λ folder. All (HasFile folder) (written_folder table rows)) (sym (folder_is table rows rules)) (All-sorted_by file_cmp (HasFile (folder_of files)) files (all_found files (folder_apart table rows rules)))

-- no two files of the writer's folder have one name
pub written_differ : (table : Table) (rows : List Row) → AllPairs (λ f g. f.name ≢ g.name) (written_folder table rows)
written_differ table rows =
    let files = all_files table rows in
    pairs_of Differently (written_folder table rows) (later_sorted Differently (λ f g other same. other (sym same)) file_cmp files (each_later files (folder_apart table rows (rules_of table))))

-- the writer's folder stands for the rows, in the writer's granules
pub written_stands : (table : Table) (rows : List Row) → IsWritable table rows → StandsForIn table (folder_of (written_folder table rows)) rows (written_granules table.settings table.columns rows)
written_stands table rows writable = subst (λ folder. StandsForIn table folder rows (written_granules table.settings table.columns rows)) (sym (folder_is table rows (rules_of table))) (files_stand table rows writable)
