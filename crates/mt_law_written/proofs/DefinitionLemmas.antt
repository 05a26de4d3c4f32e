-- A folder that has the writer's files of a definition's rows holds these rows.
use Rattle.std.proofs.Common.{◌≡◌, ℕ, ◌<◌, ◌^◌, Bool, true, false, List, [], ◌∷◌, length, map, refl, ap, sym, ◌∙◌, subst, arith, lit<, inl, inr}
use Rattle.std.specs.Prelude.{All, IsTrue, Option, Some, None, is_some, if◌then◌else◌}
use Rattle.std.specs.List.{range_with_len, enumerate_from}
use Rattle.std.specs.Fmt.{decimal}
use Rattle.std.proofs.lemmas.List.Elements.{All-head, All-tail, All-weaker}
use Rattle.mt_facts.proofs.Numbers.{each_below_sum}
use Rattle.mt_types.specs.declared.value.Value.TheVariants.{Null}
use Rattle.mt_types.specs.Fits.{fits_of}
use Rattle.mt_types.specs.Profile.{is_profile}
use Rattle.mt_fault.specs.declared.file.FileBytes.{FileBytes}
use Rattle.mt_table.specs.declared.column.Column.{Column}
use Rattle.mt_table.specs.declared.definition.PartDef.{PartDef}
use Rattle.mt_table.specs.declared.settings.Settings.{Settings}
use Rattle.mt_table.specs.declared.limits.TheConstants.{MAX_ROWS}
use Rattle.mt_table.proofs.PointwiseLemmas.{Pointwise-length}
use Rattle.mt_defs.specs.Folder.{Folder}
use Rattle.mt_defs.specs.Rows.{Row, RowFits, ArePartRows, cell, key_of}
use Rattle.mt_defs.specs.Granules.{AreGranules, granule_rows}
use Rattle.mt_defs.specs.Metadata.{column_at, no_column, columns_name, count_name, columns_text}
use Rattle.mt_defs.specs.PrimaryIndex.{index_name, primary_index_of}
use Rattle.mt_defs.specs.Compact.{compact_marks_name}
use Rattle.mt_defs.specs.Part.{HasColumns, HoldsRows, is_compact}
use Rattle.mt_defs.specs.WrittenGranules.{written_granules, is_small}
use Rattle.mt_defs.specs.WrittenColumns.{file, wide_files, compact_files}
use Rattle.mt_defs.specs.Writer.{definition_files}
use Rattle.mt_layout.proofs.HoldLemmas.{granules_hold}
use Rattle.mt_law_written.specs.Layouts.{AreLaidOut}
use Rattle.mt_law_written.proofs.ListLemmas.{All-left, All-right, All-granules, all_places, some_of}
use Rattle.mt_law_written.proofs.WideLemmas.{HasFile, no_file, ColumnHolds, columns_hold, wide_held}
use Rattle.mt_law_written.proofs.CompactLemmas.{compact_held}
use Rattle.mt_law_written.proofs.ShortFiles.{compact_short, wide_short}
use Rattle.mt_law_written.proofs.ListedLemmas.{ArePlaces, all_listed, none_lacks, own_order}

-- ---- the columns in their own order

pub same_columns : (columns : List Column) → map (column_at columns) (own_order columns) ≡ columns
same_columns columns = all_places columns no_column

same_row : (columns : List Column) (row : Row) → RowFits columns row → key_of (own_order columns) row ≡ row
same_row columns row fits = ap (λ n. map (cell row) (range_with_len 0 n)) (Pointwise-length (λ column value. IsTrue (fits_of column.ty value)) columns row fits) ∙ all_places row Null

same_rows : (columns : List Column) (rows : List Row) → All (RowFits columns) rows → map (key_of (own_order columns)) rows ≡ rows
same_rows columns [] fit = refl
same_rows columns (row ∷ rows) fit =
    ap (λ r. r ∷ map (key_of (own_order columns)) rows) (same_row columns row (All-head (RowFits columns) row rows fit))
    ∙ ap (λ rest. row ∷ rest) (same_rows columns rows (All-tail (RowFits columns) row rows fit))

-- ---- the layout

-- the data and marks files in a layout
abbrev pub data_files : List Column → List Row → List ℕ → Bool → List FileBytes
data_files columns rows granules compact = if compact then compact_files columns rows granules else wide_files columns rows granules

-- a folder is Compact where its files are
pub layout_is : (columns : List Column) (rows : List Row) (granules : List ℕ) (folder : Folder) (compact : Bool) → (compact ≡ false → folder compact_marks_name ≡ None) → All (HasFile folder) (data_files columns rows granules compact)
    → is_compact folder ≡ compact
layout_is columns rows granules folder true none files = ap (λ (o : Option (List ℕ)). is_some o) (files 1 no_file (lit< tt))
layout_is columns rows granules folder false none files = ap (λ (o : Option (List ℕ)). is_some o) (none refl)

pub granules_of : (columns : List Column) (granules : List ℕ) (rows : List Row) → All (λ column. IsTrue (is_profile column.ty)) columns → All (RowFits columns) rows
    → All (λ granule. All (λ (column_index, column). ColumnHolds column column_index granule) (enumerate_from 0 columns)) (granule_rows granules rows)
granules_of columns granules rows types fit =
    All-weaker (All (RowFits columns)) (λ granule. All (λ (column_index, column). ColumnHolds column column_index granule) (enumerate_from 0 columns)) (λ granule fit. columns_hold columns granule types fit)
    (granule_rows granules rows) (All-granules (RowFits columns) granules rows fit)

columns_held : (columns : List Column) (rows : List Row) (granules : List ℕ) (folder : Folder) (compact : Bool) → AreLaidOut columns rows granules → All (λ count. count < 2 ^ 64) granules
    → (compact ≡ false → folder compact_marks_name ≡ None) → All (HasFile folder) (data_files columns rows granules compact) → HasColumns columns rows granules folder
columns_held columns rows granules folder true are few none files =
    inl (layout_is columns rows granules folder true none files, compact_held columns rows granules folder are.cut few (granules_of columns granules rows are.types are.fit) (compact_short columns rows granules are) files)
columns_held columns rows granules folder false are few none files =
    inr (layout_is columns rows granules folder false none files, wide_held columns rows granules folder are.cut few (columns_hold columns rows are.types are.fit) (wide_short columns rows granules are) files)

-- ---- all files of a definition

-- columns.txt, count.txt and primary.idx
abbrev pub listing_files : PartDef → List Row → List ℕ → List FileBytes
listing_files definition rows granules =
    file columns_name (columns_text definition.columns) ∷ file count_name (decimal (length rows)) ∷ file index_name (primary_index_of definition rows granules) ∷ []

-- the writer's choice of the layout
abbrev pub written_layout : Settings → PartDef → List Row → Bool
written_layout settings definition rows = is_small settings definition.columns rows

-- a folder that has the writer's files holds the rows
pub definition_held : (settings : Settings) (definition : PartDef) (rows : List Row) (folder : Folder) → All (λ column. IsTrue (is_profile column.ty)) definition.columns → ArePlaces definition.columns definition.must → ArePartRows definition rows
    → (written_layout settings definition rows ≡ false → folder compact_marks_name ≡ None) → All (HasFile folder) (definition_files settings definition rows)
    → HoldsRows definition folder rows (written_granules settings definition.columns rows)
definition_held settings definition rows folder types must are none files =
    let columns : List Column = definition.columns in
    let granules = written_granules settings columns rows in
    let cut : AreGranules granules rows = granules_hold settings columns rows in
    let limit : MAX_ROWS < 2 ^ 64 = lit< tt in
    let few : All (λ count. count < 2 ^ 64) granules = each_below_sum (2 ^ 64) granules (omega (arith, cut.all, are.few_rows)) in
    let laid : AreLaidOut columns rows granules = record { types = types; not_empty = some_of rows are.not_empty; few_rows = are.few_rows; few_cells = are.few_cells; fit = are.fit; cut = cut } in
    let Has : FileBytes → Type 0 = HasFile folder in
    let compact : Bool = written_layout settings definition rows in
    let listing : All Has (listing_files definition rows granules) = All-left Has (listing_files definition rows granules) (data_files columns rows granules compact) files in
    let there : HasColumns columns rows granules folder =
    columns_held columns rows granules folder compact laid few none (All-right Has (listing_files definition rows granules) (data_files columns rows granules compact) files) in
    record {
      part_rows = are;
      order = own_order columns;
      metadata = record {
        listed = all_listed columns definition.must must;
        lists_columns = listing 0 no_file (lit< tt) ∙ ap (λ cs. Some (columns_text cs)) (sym (same_columns columns));
        counts_rows = listing 1 no_file (lit< tt);
      };
      defaults = none_lacks columns rows;
      columns = subst (λ cs. HasColumns cs (map (key_of (own_order columns)) rows) granules folder) (sym (same_columns columns)) (subst (λ rs. HasColumns columns rs granules folder) (sym (same_rows columns rows are.fit)) there);
      index = listing 2 no_file (lit< tt);
    }

-- it lists all columns, in their own order
pub held_order : (settings : Settings) (definition : PartDef) (rows : List Row) (folder : Folder) (types : All (λ column. IsTrue (is_profile column.ty)) definition.columns) (must : ArePlaces definition.columns definition.must)
    (are : ArePartRows definition rows) (none : written_layout settings definition rows ≡ false → folder compact_marks_name ≡ None) (files : All (HasFile folder) (definition_files settings definition rows))
    → (definition_held settings definition rows folder types must are none files).order ≡ own_order definition.columns
unfolding definition_held
held_order settings definition rows folder types must are none files = refl

-- and is Compact or Wide as the writer chose
pub definition_layout : (settings : Settings) (definition : PartDef) (rows : List Row) (folder : Folder) → (written_layout settings definition rows ≡ false → folder compact_marks_name ≡ None)
    → All (HasFile folder) (definition_files settings definition rows) → is_compact folder ≡ written_layout settings definition rows
definition_layout settings definition rows folder none files =
    let granules = written_granules settings definition.columns rows in
    let compact : Bool = written_layout settings definition rows in
    layout_is definition.columns rows granules folder compact none (All-right (HasFile folder) (listing_files definition rows granules) (data_files definition.columns rows granules compact) files)
