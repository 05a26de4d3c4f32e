-- Nothing else is in the writer's folder: each of its names may stand below a part.
use Rattle.std.proofs.Common.{◌≡◌, ℕ, ◌+◌, Bool, true, false, List, [], ◌∷◌, ◌++◌, length, map, take, get_or, refl, ap, sym, ◌∙◌, subst, arith}
use Rattle.std.specs.Prelude.{All, Contains, IsSome, ◌==◌, if◌then◌else◌}
use Rattle.std.specs.List.{flat_map, enumerate_from}
use Rattle.std.proofs.lemmas.List.{map-append, length-map, get_or-map}
use Rattle.std.proofs.lemmas.List.Elements.{All-nil, All-cons, All-append, All-contains, All-contains_itself, All-weaker, Contains-append_left, Contains-append_right}
use Rattle.mt_fault.specs.declared.file.FileBytes.{FileBytes}
use Rattle.mt_table.specs.declared.column.Column.{Column}
use Rattle.mt_table.specs.declared.definition.Table.{Table}
use Rattle.mt_table.specs.declared.definition.PartDef.{PartDef}
use Rattle.mt_table.specs.declared.settings.Settings.{Settings}
use Rattle.mt_table.specs.declared.skip.Skip.{Skip}
use Rattle.mt_table.specs.declared.projection.Projection.{Projection}
use Rattle.mt_defs.specs.Folder.{Folder, folder_of, folder_below}
use Rattle.mt_defs.specs.Rows.{Row}
use Rattle.mt_defs.specs.FileNames.{data_name, marks_name, stream_names}
use Rattle.mt_defs.specs.Compact.{compact_data_name, compact_marks_name}
use Rattle.mt_defs.specs.Metadata.{column_at, columns_name, count_name}
use Rattle.mt_defs.specs.PrimaryIndex.{index_name}
use Rattle.mt_defs.specs.Partition.{partition_bytes, partition_name, minmax_name, expression_column}
use Rattle.mt_defs.specs.Projections.{base_of, inner_of, projection_prefix}
use Rattle.mt_defs.specs.Part.{is_compact, marks_ending, side_names, wide_names, column_names, definition_names, partition_names, skip_file_names, projection_names, known_names}
use Rattle.mt_defs.specs.SkipIndexes.{skip_data_name, skip_marks_name}
use Rattle.mt_defs.specs.Wide.{stream_payloads}
use Rattle.mt_defs.specs.WrittenColumns.{file, stream_files, granule_streams, wide_column}
use Rattle.mt_defs.specs.WrittenGranules.{written_granules, is_small}
use Rattle.mt_defs.specs.WrittenPartition.{minmax_file, partition_files}
use Rattle.mt_defs.specs.WrittenSkips.{skip_files}
use Rattle.mt_defs.specs.Writer.{definition_files, file_below, projection_files, projection_rows}
use Rattle.mt_defs.proofs.ListLemmas.{All-distinct_by}
use Rattle.mt_law_written.proofs.LookupLemmas.{found_is_listed}
use Rattle.mt_law_written.proofs.ListLemmas.{All-mapped, All-of_map, All-to_flat_map}
use Rattle.mt_law_written.proofs.DefinitionLemmas.{data_files, same_columns, written_layout}
use Rattle.mt_law_written.proofs.ListedLemmas.{own_order}
use Rattle.mt_law_written.proofs.PartitionLemmas.{distinct, is_same, key_columns}
use Rattle.mt_law_written.proofs.FolderLemmas.{all_files, index_files, own_files, stored_files}

-- each file's name is one of these
abbrev pub Known : List (List ℕ) → List FileBytes → Type 0
Known names = All (λ file. Contains names file.name)

abbrev name_of : FileBytes → List ℕ
name_of file = file.name

-- ---- lists of names

own_names : (files : List FileBytes) → Known (map name_of files) files
own_names files = All-of_map (Contains (map name_of files)) name_of files (All-contains_itself (map name_of files))

wider : (some names : List (List ℕ)) (files : List FileBytes) → ((name : List ℕ) → Contains some name → Contains names name) → Known some files → Known names files
wider some names files f = All-weaker (λ file. Contains some file.name) (λ file. Contains names file.name) (λ file among. f file.name among) files

-- the names of each thing are among those of all
among_all : {X : Type 0} (names : X → List (List ℕ)) (xs : List X) → All (λ x. (name : List ℕ) → Contains (names x) name → Contains (flat_map names xs) name) xs
among_all names [] = All-nil _
among_all names (x ∷ xs) =
    All-cons (λ y. (name : List ℕ) → Contains (names y) name → Contains (names x ++ flat_map names xs) name) x xs (λ name among. Contains-append_left (names x) (flat_map names xs) name among)
    (All-weaker (λ y. (name : List ℕ) → Contains (names y) name → Contains (flat_map names xs) name) (λ y. (name : List ℕ) → Contains (names y) name → Contains (names x ++ flat_map names xs) name) (λ y f name among.
    Contains-append_right (names x) (flat_map names xs) name (f name among)) xs (among_all names xs))

mapped_among : (f : List ℕ → List ℕ) (names : List (List ℕ)) (name : List ℕ) → Contains names name → Contains (map f names) (f name)
mapped_among f names name (k, inside, is) = (k, omega (arith, inside, length-map names f), get_or-map f names k name (f name) inside ∙ ap f is)

known_flat : {X : Type 0} (files : X → List FileBytes) (names : X → List (List ℕ)) (xs : List X) → All (λ x. Known (names x) (files x)) xs → Known (flat_map names xs) (flat_map files xs)
known_flat files names xs each =
    All-to_flat_map (λ file. Contains (flat_map names xs) file.name) files xs (λ k d inside.
    wider (names (get_or xs k d)) (flat_map names xs) (files (get_or xs k d)) (among_all names xs k d inside) (each k d inside))

-- ---- the files of a definition

stream_names_are : (granules : List ℕ) (payloads : ℕ → List (List ℕ)) (n : ℕ) (names : List (List ℕ))
    → map name_of (flat_map (λ (i, name). stream_files granules name (payloads i)) (enumerate_from n names)) ≡ flat_map (λ name. data_name name ∷ marks_name name ∷ []) names
stream_names_are granules payloads n [] = refl
stream_names_are granules payloads n (name ∷ names) = ap (λ rest. data_name name ∷ marks_name name ∷ rest) (stream_names_are granules payloads (n + 1) names)

column_names_are : (rows : List Row) (granules : List ℕ) (n : ℕ) (columns : List Column) → map name_of (flat_map (wide_column rows granules) (enumerate_from n columns)) ≡ flat_map wide_names columns
column_names_are rows granules n [] = refl
column_names_are rows granules n (column ∷ columns) =
    map-append name_of (wide_column rows granules (n, column)) (flat_map (wide_column rows granules) (enumerate_from (n + 1) columns))
    ∙ ap (λ names. names ++ map name_of (flat_map (wide_column rows granules) (enumerate_from (n + 1) columns)))
    (stream_names_are granules (λ i. stream_payloads i (granule_streams rows granules n column)) 0 (stream_names column)) ∙ ap (λ rest. wide_names column ++ rest) (column_names_are rows granules (n + 1) columns)

abbrev names_in : List Column → Bool → List (List ℕ)
names_in columns compact = if compact then compact_data_name ∷ compact_marks_name ∷ [] else flat_map wide_names columns

data_names_are : (columns : List Column) (rows : List Row) (granules : List ℕ) (compact : Bool) → map name_of (data_files columns rows granules compact) ≡ names_in columns compact
data_names_are columns rows granules true = refl
data_names_are columns rows granules false = column_names_are rows granules 0 columns

pub definition_known : (settings : Settings) (definition : PartDef) (rows : List Row) (folder : Folder) → is_compact folder ≡ written_layout settings definition rows → Known (definition_names definition.columns folder) (definition_files settings definition rows)
definition_known settings definition rows folder layout =
    let granules = written_granules settings definition.columns rows in
    let files = definition_files settings definition rows in
    let heads : List (List ℕ) = columns_name ∷ count_name ∷ index_name ∷ [] in
    let same : map name_of files ≡ heads ++ column_names definition.columns folder =
    ap (λ names. heads ++ names) (data_names_are definition.columns rows granules (written_layout settings definition rows) ∙ ap (names_in definition.columns) (sym layout)) in
    wider (map name_of files) (definition_names definition.columns folder) files (λ name among.
    Contains-append_left (heads ++ column_names definition.columns folder) side_names name (subst (λ names. Contains names name) same among)) (own_names files)

-- ---- the other files

partition_by : (table : Table) (rows : List Row) (first : FileBytes) (none : Bool) → first.name ≡ partition_name
    → Known (if none then [] else partition_name ∷ map (λ expression. minmax_name table (expression_column expression)) table.partition) (if none then [] else first ∷ map (minmax_file table rows) (distinct (key_columns table)))
partition_by table rows first true is = All-nil _
partition_by table rows first false is =
    let names : List (List ℕ) = map (λ expression. minmax_name table (expression_column expression)) table.partition in
    let later : (name : List ℕ) → Contains names name → Contains (partition_name ∷ names) name = λ name among. Contains-append_right (partition_name ∷ []) names name among in
    let each : All (λ i. Contains (partition_name ∷ names) (minmax_name table i)) (key_columns table) =
    All-mapped (λ i. Contains (partition_name ∷ names) (minmax_name table i)) expression_column table.partition
    (All-weaker (λ e. Contains names (minmax_name table (expression_column e))) (λ e. Contains (partition_name ∷ names) (minmax_name table (expression_column e))) (λ e among. later (minmax_name table (expression_column e)) among) table.partition
    (All-of_map (Contains names) (λ expression. minmax_name table (expression_column expression)) table.partition (All-contains_itself names))) in
    All-cons (λ f. Contains (partition_name ∷ names) f.name) first (map (minmax_file table rows) (distinct (key_columns table))) (0, omega arith, sym is)
    (All-mapped (λ f. Contains (partition_name ∷ names) f.name) (minmax_file table rows) (distinct (key_columns table)) (All-distinct_by (λ i. Contains (partition_name ∷ names) (minmax_name table i)) is_same (key_columns table) each))

partition_known : (table : Table) (rows : List Row) → Known (partition_names table) (partition_files table rows)
partition_known table rows = partition_by table rows (file partition_name (flat_map (partition_bytes table) (take 1 rows))) (length table.partition == 0) refl

index_known : (table : Table) (rows : List Row) (folder : Folder) → is_compact folder ≡ is_small table.settings table.columns rows → Known (flat_map (skip_file_names folder) table.skips) (index_files table rows)
index_known table rows folder layout =
    known_flat (skip_files table rows) (skip_file_names folder) table.skips (λ k d inside.
    let skip : Skip = get_or table.skips k d in
    let same : map name_of (skip_files table rows skip) ≡ skip_file_names folder skip = ap (λ compact. skip_data_name skip ∷ skip_marks_name skip (marks_ending compact) ∷ []) (sym layout) in
    subst (λ names. Known names (skip_files table rows skip)) same (own_names (skip_files table rows skip)))

below_known : (prefix : List ℕ) (names : List (List ℕ)) (files : List FileBytes) → Known names files → Known (map (λ name. prefix ++ name) names) (map (file_below prefix) files)
below_known prefix names files known =
    All-mapped (λ f. Contains (map (λ name. prefix ++ name) names) f.name) (file_below prefix) files
    (All-weaker (λ f. Contains names f.name) (λ f. Contains (map (λ name. prefix ++ name) names) (prefix ++ f.name)) (λ f among. mapped_among (λ name. prefix ++ name) names f.name among) files known)

-- the layouts of the part's folder and of each projection's are the writer's
pub record Layouts (table : Table) (rows : List Row) (folder : Folder) : Type 0 where
  pub own : is_compact folder ≡ written_layout table.settings (base_of table) rows
  pub stored :
      All (λ projection. is_compact (folder_below folder (projection_prefix projection)) ≡ written_layout table.settings (inner_of table projection) (projection_rows table projection rows)) table.projections

stored_known : (table : Table) (rows : List Row) (folder : Folder) → Layouts table rows folder → Known (flat_map (projection_names table folder) table.projections) (stored_files table rows)
stored_known table rows folder layouts =
    known_flat (projection_files table rows) (projection_names table folder) table.projections (λ k d inside.
    let projection : Projection = get_or table.projections k d in
    let prefix : List ℕ = projection_prefix projection in
    let definition : PartDef = inner_of table projection in
    let stored : List Row = projection_rows table projection rows in
    below_known prefix (definition_names definition.columns (folder_below folder prefix)) (definition_files table.settings definition stored)
    (definition_known table.settings definition stored (folder_below folder prefix) (layouts.stored k d inside)))

-- ---- the folder

all_known : (table : Table) (rows : List Row) (folder : Folder) → Layouts table rows folder → Known (known_names table (own_order table.columns) folder) (all_files table rows)
all_known table rows folder layouts =
    let own : List (List ℕ) = definition_names (map (column_at table.columns) (own_order table.columns)) folder in
    let partition : List (List ℕ) = partition_names table in
    let indexes : List (List ℕ) = flat_map (skip_file_names folder) table.skips in
    let stored : List (List ℕ) = flat_map (projection_names table folder) table.projections in
    let P : FileBytes → Type 0 = λ f. Contains (known_names table (own_order table.columns) folder) f.name in
    let one = wider own (known_names table (own_order table.columns) folder) (own_files table rows) (λ name among.
    Contains-append_left (own ++ partition ++ indexes) stored name (Contains-append_left (own ++ partition) indexes name (Contains-append_left own partition name among)))
    (subst (λ columns. Known (definition_names columns folder) (own_files table rows)) (sym (same_columns table.columns)) (definition_known table.settings (base_of table) rows folder layouts.own)) in
    let two = wider partition (known_names table (own_order table.columns) folder) (partition_files table rows) (λ name among.
    Contains-append_left (own ++ partition ++ indexes) stored name (Contains-append_left (own ++ partition) indexes name (Contains-append_right own partition name among))) (partition_known table rows) in
    let three = wider indexes (known_names table (own_order table.columns) folder) (index_files table rows) (λ name among.
    Contains-append_left (own ++ partition ++ indexes) stored name (Contains-append_right (own ++ partition) indexes name among)) (index_known table rows folder layouts.own) in
    let four = wider stored (known_names table (own_order table.columns) folder) (stored_files table rows) (λ name among. Contains-append_right (own ++ partition ++ indexes) stored name among) (stored_known table rows folder layouts) in
    All-append P (own_files table rows ++ partition_files table rows ++ index_files table rows) (stored_files table rows)
    (All-append P (own_files table rows ++ partition_files table rows) (index_files table rows) (All-append P (own_files table rows) (partition_files table rows) one two) three) four

-- each name that is there is known
pub names_known : (table : Table) (rows : List Row) (folder : Folder) → folder ≡ folder_of (all_files table rows) → Layouts table rows folder → (name : List ℕ) → IsSome (folder name)
    → Contains (known_names table (own_order table.columns) folder) name
names_known table rows folder is layouts name there =
    let files = all_files table rows in
    let known : List (List ℕ) = known_names table (own_order table.columns) folder in
    All-contains (Contains known) (map name_of files) name (All-mapped (Contains known) name_of files (all_known table rows folder layouts)) (
    found_is_listed files name (subst (λ f. IsSome (f name)) is there))
