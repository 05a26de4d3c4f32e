-- The folder of a part, and the rows for which it stands: docs/FORMAT.md, "Parts".
use Rattle.std.specs.Prelude.{◌≡◌, ℕ, Bool, false, ◌==◌, if◌then◌else◌, List, [], ◌∷◌, ◌++◌, length, map, codes, Some, None, is_some, All, IsTrue, Contains, IsSome, ◌⊎◌}
use Rattle.std.specs.List.{flat_map}
use Rattle.mt_table.specs.declared.column.Column.{Column}
use Rattle.mt_table.specs.declared.skip.Skip.{Skip}
use Rattle.mt_table.specs.declared.definition.Table.{Table}
use Rattle.mt_table.specs.declared.definition.PartDef.{PartDef}
use Rattle.mt_table.specs.declared.projection.Projection.{Projection}
use Rattle.mt_defs.specs.Folder.{Folder, folder_below}
use Rattle.mt_defs.specs.Rows.{Row, key_of, ArePartRows}
use Rattle.mt_defs.specs.FileNames.{stream_names, data_name, marks_name}
use Rattle.mt_defs.specs.Wide.{IsWide}
use Rattle.mt_defs.specs.Compact.{IsCompact, compact_data_name, compact_marks_name}
use Rattle.mt_defs.specs.Metadata.{HasDefaults, HasMetadata, column_at, columns_name, count_name}
use Rattle.mt_defs.specs.PrimaryIndex.{primary_index_of, index_name}
use Rattle.mt_defs.specs.Partition.{HasPartition, HaveOnePartition, minmax_name, partition_name, expression_column}
use Rattle.mt_defs.specs.SkipIndexes.{MayHaveSkipIndex, skip_data_name, skip_marks_name}
use Rattle.mt_defs.specs.Projections.{base_of, inner_of, projection_prefix, IsProjectionOf}

-- ---- one folder: the part's own, or a projection's

-- a Compact folder is one that has data.mrk3
abbrev pub is_compact : Folder → Bool
is_compact folder = is_some (folder compact_marks_name)

-- the ending of a part's marks files, Compact or Wide
abbrev pub marks_ending : Bool → List ℕ
marks_ending compact = if compact then codes ".mrk3" else codes ".mrk2"

-- the data and marks files of these columns, in the folder's own layout
abbrev pub HasColumns : List Column → List Row → List ℕ → Folder → Type 0
HasColumns columns rows granules folder =
    (IsTrue (is_compact folder) × IsCompact columns rows granules folder) ⊎ ((is_compact folder ≡ false) × IsWide columns rows granules folder)

-- the folder holds these rows of a definition: the columns that it lists, in this order, and the defaults of all others
pub record HoldsRows (definition : PartDef) (folder : Folder) (rows : List Row) (granules : List ℕ) : Type 0 where
  pub part_rows : ArePartRows definition rows
  pub order : List ℕ
  pub metadata : HasMetadata definition order rows folder
  pub defaults : All (HasDefaults definition.columns order) rows
  pub columns : HasColumns (map (column_at definition.columns) order) (map (key_of order) rows) granules folder
  pub index : folder index_name ≡ Some (primary_index_of definition rows granules)

-- ---- names

-- files that ClickHouse may put beside a part's own, passed over unread
abbrev pub side_names : List (List ℕ)
side_names =
    codes "checksums.txt" ∷ codes "default_compression_codec.txt" ∷ codes "metadata_version.txt" ∷ codes "serialization.json"
    ∷ codes "uuid.txt" ∷ codes "ttl.txt" ∷ codes "txn_version.txt" ∷ codes "columns_substreams.txt" ∷ []

-- the files of a column in a Wide part
abbrev pub wide_names : Column → List (List ℕ)
wide_names column = flat_map (λ name. data_name name ∷ marks_name name ∷ []) (stream_names column)

-- the data and marks files of the columns that a folder lists
abbrev pub column_names : List Column → Folder → List (List ℕ)
column_names columns folder = if is_compact folder then compact_data_name ∷ compact_marks_name ∷ [] else flat_map wide_names columns

-- the names that may stand in the folder that lists these columns, side files among them
abbrev pub definition_names : List Column → Folder → List (List ℕ)
definition_names columns folder = columns_name ∷ count_name ∷ index_name ∷ (column_names columns folder ++ side_names)

-- the files of a table's partition key
abbrev pub partition_names : Table → List (List ℕ)
partition_names table =
    if length table.partition == 0 then [] else partition_name ∷ map (λ expression. minmax_name table (expression_column expression)) table.partition

-- the files of a skip index
abbrev pub skip_file_names : Folder → Skip → List (List ℕ)
skip_file_names folder skip = skip_data_name skip ∷ skip_marks_name skip (marks_ending (is_compact folder)) ∷ []

-- the names that may stand in the folder of a projection
abbrev pub projection_names : Table → Folder → Projection → List (List ℕ)
projection_names table folder projection =
    map (λ name. projection_prefix projection ++ name) (definition_names (inner_of table projection).columns (folder_below folder (projection_prefix projection)))

-- the names that may stand below a part that lists these columns of the table, side files among them
abbrev pub known_names : Table → List ℕ → Folder → List (List ℕ)
known_names table order folder =
    definition_names (map (column_at table.columns) order) folder ++ partition_names table ++ flat_map (skip_file_names folder) table.skips ++ flat_map (projection_names table folder) table.projections

-- ---- the part

-- no file is in a projection's folder
abbrev pub LacksProjection : Folder → Projection → Type 0
LacksProjection folder projection = (name : List ℕ) → folder (projection_prefix projection ++ name) ≡ None

-- a projection's folder holds rows that stand for these
pub record HasProjection (table : Table) (folder : Folder) (rows : List Row) (projection : Projection) : Type 0 where
  pub stored : List Row
  pub granules : List ℕ
  pub holds : HoldsRows (inner_of table projection) (folder_below folder (projection_prefix projection)) stored granules
  pub stands : IsProjectionOf table projection rows stored

-- a projection is absent or holds rows that stand for these
abbrev pub MayHaveProjection : Table → Folder → List Row → Projection → Type 0
MayHaveProjection table folder rows projection = LacksProjection folder projection ⊎ HasProjection table folder rows projection

-- the folder holds these rows in these granules, with all that belongs to them and is there, and nothing else
pub record StandsForIn (table : Table) (folder : Folder) (rows : List Row) (granules : List ℕ) : Type 0 where
  pub holds : HoldsRows (base_of table) folder rows granules
  pub one_partition : HaveOnePartition table rows
  pub partition : HasPartition table rows folder
  pub skips : All (MayHaveSkipIndex table (marks_ending (is_compact folder)) rows granules folder) table.skips
  pub projections : All (MayHaveProjection table folder rows) table.projections
  pub known : (name : List ℕ) → IsSome (folder name) → Contains (known_names table holds.order folder) name

-- the folder stands for these rows
abbrev pub StandsFor : Table → Folder → List Row → Type 0
StandsFor table folder rows = (granules : List ℕ) × StandsForIn table folder rows granules
