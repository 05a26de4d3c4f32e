-- The one folder that the writer makes of some rows: docs/FORMAT.md, "The writer's folder".
use Rattle.std.specs.Prelude.{ℕ, Bool, if◌then◌else◌, List, ◌∷◌, ◌++◌, length, map, All}
use Rattle.std.specs.List.{flat_map}
use Rattle.std.specs.Fmt.{decimal}
use Rattle.std.specs.Ordering.{nat_cmp}
use Rattle.std.specs.declared.cmp.Ordering.{Ordering}
use Rattle.std.specs.Cmp.Lexicographic.{slice_cmp}
use Rattle.mt_types.specs.declared.value.Value.{Value}
use Rattle.mt_types.specs.declared.value.Value.TheVariants.{State}
use Rattle.mt_fault.specs.declared.file.FileBytes.{FileBytes}
use Rattle.mt_table.specs.declared.definition.Table.{Table}
use Rattle.mt_table.specs.declared.definition.PartDef.{PartDef}
use Rattle.mt_table.specs.declared.settings.Settings.{Settings}
use Rattle.mt_table.specs.declared.projection.Projection.{Projection}
use Rattle.mt_table.specs.declared.projection.Projection.TheVariants.{Normal, Grouped}
use Rattle.mt_defs.specs.Lists.{distinct_by}
use Rattle.mt_defs.specs.Rows.{Row, key_of, ArePartRows}
use Rattle.mt_defs.specs.Sorting.{sorted_by, sorted_rows}
use Rattle.mt_defs.specs.Metadata.{columns_name, count_name, columns_text}
use Rattle.mt_defs.specs.PrimaryIndex.{primary_index_of, index_name}
use Rattle.mt_defs.specs.Partition.{HaveOnePartition}
use Rattle.mt_defs.specs.Folds.{fold_of}
use Rattle.mt_defs.specs.Projections.{base_of, inner_of, stored_columns, with_key, is_same_key, projection_prefix}
use Rattle.mt_defs.specs.WrittenGranules.{written_granules, is_small}
use Rattle.mt_defs.specs.WrittenColumns.{file, wide_files, compact_files}
use Rattle.mt_defs.specs.WrittenPartition.{partition_files}
use Rattle.mt_defs.specs.WrittenSkips.{skip_files}

-- ---- one folder

-- the files of a definition's rows, in these granules and in this layout
abbrev pub files_with : PartDef → List Row → List ℕ → Bool → List FileBytes
files_with definition rows granules compact =
    file columns_name (columns_text definition.columns)
    ∷ file count_name (decimal (length rows))
    ∷ file index_name (primary_index_of definition rows granules)
    ∷ (if compact then compact_files definition.columns rows granules else wide_files definition.columns rows granules)

-- the files of a definition's rows
abbrev pub definition_files : Settings → PartDef → List Row → List FileBytes
definition_files settings definition rows =
    files_with definition rows (written_granules settings definition.columns rows) (is_small settings definition.columns rows)

-- ---- projections

-- a row of an aggregate projection: a key, and the states over its rows
abbrev pub folded_row : Projection → List Row → List Value → Row
folded_row (Normal name columns sort) rows key = key
folded_row (Grouped name keys aggs) rows key = key ++ map (λ aggregate. State (fold_of (with_key keys key rows) aggregate)) aggs

-- the rows that the writer stores in a projection: sorted by its key, or one per key, in key order
abbrev pub projection_rows : Table → Projection → List Row → List Row
projection_rows table (Normal name columns sort) rows =
    sorted_rows (inner_of table (Normal name columns sort)).sort (map (key_of (stored_columns table columns)) rows)
projection_rows table (Grouped name keys aggs) rows =
    map (folded_row (Grouped name keys aggs) rows) (distinct_by is_same_key (map (key_of keys) (sorted_rows keys rows)))

-- a file with a prefix before its name
abbrev pub file_below : List ℕ → FileBytes → FileBytes
file_below prefix below = file (prefix ++ below.name) below.bytes

-- the files of a projection, below the part
abbrev pub projection_files : Table → List Row → Projection → List FileBytes
projection_files table rows projection =
    map (file_below (projection_prefix projection)) (definition_files table.settings (inner_of table projection) (projection_rows table projection rows))

-- ---- the folder

-- files in the byte order of their names
abbrev pub file_cmp : FileBytes → FileBytes → Ordering
file_cmp a b = slice_cmp nat_cmp a.name b.name

-- the files that the writer makes of some rows, in the byte order of their names
abbrev pub written_folder : Table → List Row → List FileBytes
written_folder table rows =
    sorted_by file_cmp (definition_files table.settings (base_of table) rows ++ partition_files table rows ++ flat_map (skip_files table rows) table.skips ++ flat_map (projection_files table rows) table.projections)

-- rows of which the writer makes a folder that stands for them
pub record IsWritable (table : Table) (rows : List Row) : Type 0 where
  pub part_rows : ArePartRows (base_of table) rows
  pub one_partition : HaveOnePartition table rows
  pub projections : All (λ projection. ArePartRows (inner_of table projection) (projection_rows table projection rows)) table.projections
