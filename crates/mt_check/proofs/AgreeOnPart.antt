-- The files of a partition and of skip indexes: folders that agree at their names are read alike.
use Rattle.std.proofs.Common.{◌≡◌, ℕ, Bool, true, false, ◌||◌, List, [], ◌∷◌, length, map, take, refl, ap, sym, subst, ◌∙◌}
use Rattle.std.specs.Prelude.{Option, None, Result, Ok, ◌==◌, if◌then◌else◌, cond, filter, not}
use Rattle.std.specs.List.{flat_map, list_any}
use Rattle.std.proofs.lemmas.Bool.{eqb-true}
use Rattle.std.specs.Str.{bytes_eq}
use Rattle.mt_types.specs.Steps.{◌>>=◌, ok_or, require}
use Rattle.mt_fault.specs.declared.fault.Fault.{Fault}
use Rattle.mt_fault.specs.declared.fault.Why.TheVariants as why
use Rattle.mt_fault.specs.declared.file.FileBytes.{FileBytes}
use Rattle.mt_table.specs.declared.definition.Table.{Table}
use Rattle.mt_table.specs.declared.skip.Skip.{Skip}
use Rattle.mt_defs.specs.Lists.{distinct_by}
use Rattle.mt_defs.specs.Folder.{Folder}
use Rattle.mt_defs.specs.Part.{is_compact, marks_ending}
use Rattle.mt_defs.specs.Partition.{expression_column, minmax_name, partition_bytes, partition_name}
use Rattle.mt_defs.specs.Rows.{Row}
use Rattle.mt_defs.specs.SkipIndexes.{skip_data_name, skip_marks_name}
use Rattle.mt_defs.specs.WrittenColumns.{file}
use Rattle.mt_defs.specs.WrittenPartition.{minmax_file, partition_files}
use Rattle.mt_definition.specs.declared.accepted.Accepted.{Accepted}
use Rattle.mt_fault.specs.Faults.{blame, file_fault, granule_fault}
use Rattle.mt_granules.specs.FileFaults.{file_at, frame_fault, file_reading}
use Rattle.mt_files.specs.Faults.{none_found}
use Rattle.mt_files.specs.OwnNames as own
use Rattle.mt_files.specs.OwnNames.{each_once, skip_names_in}
use Rattle.mt_check.specs.PartitionReading.{files_reading, other_partition, partition_reading}
use Rattle.mt_definition.specs.RowsReading.{granule_of}
use Rattle.mt_files.specs.SkipMarks.{index_entries, skip_marks_reading, pieces_at, positions_reading}
use Rattle.mt_definition.proofs.AgreeLemmas.{AgreeAt, file_same}
use Rattle.mt_frame.specs.FrameReading.{frames_reading, layout}
use Rattle.mt_defs.specs.Frames.{file_of, payload_of}

-- ---- the partition

files_same : (f g : Folder) (files : List FileBytes) → AgreeAt f g (map (λ file. file.name) files) → files_reading f files ≡ files_reading g files
unfolding files_reading
files_same f g [] all = refl
files_same f g (file ∷ files) all =
    ap (λ (o : Option (List ℕ)). ok_or (file_fault file.name why.Missing) o >>= λ bytes. require (bytes_eq bytes file.bytes) (file_fault file.name why.Value) >>= λ _. files_reading f files) (file_same f g file.name all.0)
    ∙ ap (λ (r : Result Unit Fault). file_reading g file.name >>= λ bytes. require (bytes_eq bytes file.bytes) (file_fault file.name why.Value) >>= λ _. r) (files_same f g files all.1)

-- the columns of a partition key, each where it is first used
abbrev distinct : List ℕ → List ℕ
distinct columns = distinct_by (λ i j. i == j) columns

some_agree : (f g : Folder) (name : ℕ → List ℕ) (test : ℕ → Bool) (columns : List ℕ) → AgreeAt f g (map name columns) → AgreeAt f g (map name (filter test columns))
some_agree f g name test [] all = tt
some_agree f g name test (i ∷ columns) all = by_test (test i) (some_agree f g name test columns all.1)
  where
    by_test : (b : Bool) → AgreeAt f g (map name (filter test columns)) → AgreeAt f g (map name (cond b (i ∷ filter test columns) (filter test columns)))
    by_test true later = (all.0, later)
    by_test false later = later

distinct_agree : (f g : Folder) (name : ℕ → List ℕ) (columns : List ℕ) → AgreeAt f g (map name columns) → AgreeAt f g (map name (distinct columns))
distinct_agree f g name [] all = tt
distinct_agree f g name (i ∷ columns) all = (all.0, some_agree f g name (λ j. not (i == j)) (distinct columns) (distinct_agree f g name columns all.1))

-- the minmax files of some columns
minmax_agree : (f g : Folder) (table : Table) (rows : List Row) (columns : List ℕ) → AgreeAt f g (map (minmax_name table) columns) → AgreeAt f g (map (λ file. file.name) (map (minmax_file table rows) columns))
minmax_agree f g table rows [] all = tt
minmax_agree f g table rows (i ∷ columns) all = (all.0, minmax_agree f g table rows columns all.1)

one_of : (f g : Folder) (name : ℕ → List ℕ) (columns : List ℕ) (column : ℕ) → list_any (λ i. i == column) columns ≡ true → AgreeAt f g (map name columns) → f (name column) ≡ g (name column)
one_of f g name [] column among all = cc
one_of f g name (i ∷ columns) column among all = by_test (i == column) refl among (λ later. one_of f g name columns column later all.1)
  where
    by_test : (b : Bool) → (i == column) ≡ b → (b || list_any (λ j. j == column) columns) ≡ true → (list_any (λ j. j == column) columns ≡ true → f (name column) ≡ g (name column)) → f (name column) ≡ g (name column)
    by_test true same among later = subst (λ k. f (name k) ≡ g (name k)) (eqb-true i column same) all.0
    by_test false other among later = later among

once_agree : (f g : Folder) (name : ℕ → List ℕ) (columns : List ℕ) → AgreeAt f g (map name (each_once columns)) → AgreeAt f g (map name columns)
once_agree f g name [] all = tt
once_agree f g name (i ∷ columns) all = by_test (list_any (λ j. j == i) columns) refl all (λ later. once_agree f g name columns later)
  where
    by_test : (b : Bool) → list_any (λ j. j == i) columns ≡ b → AgreeAt f g (map name (cond b (each_once columns) (i ∷ each_once columns))) → (AgreeAt f g (map name (each_once columns)) → AgreeAt f g (map name columns)) → AgreeAt f g (map name (i ∷ columns))
    by_test true among all later = (one_of f g name columns i among (later all), later all)
    by_test false last all later = (all.0, later all.1)

abbrev value_file : Table → List Row → FileBytes
value_file table rows = file partition_name (flat_map (partition_bytes table) (take 1 rows))

written_agree : (f g : Folder) (table : Table) (rows : List Row) → AgreeAt f g (own.partition_file_names table) → AgreeAt f g (map (λ file. file.name) (partition_files table rows))
written_agree f g table rows = by_test (length table.partition == 0)
  where
    by_test : (b : Bool) → AgreeAt f g (if b then [] else partition_name ∷ map (minmax_name table) (each_once (map expression_column table.partition)))
        → AgreeAt f g (map (λ file. file.name) (if b then [] else value_file table rows ∷ map (minmax_file table rows) (distinct (map expression_column table.partition))))
    by_test true all = tt
    by_test false all =
        (all.0, minmax_agree f g table rows (distinct (map expression_column table.partition)) (distinct_agree f g (minmax_name table) (map expression_column table.partition) (once_agree f g (minmax_name table) (map expression_column table.partition) all.1)))

abbrev partition_by : Bool → Table → Accepted → Option (List ℕ) → Result Unit Fault → Result Unit Fault
partition_by none table accepted value files =
    if none then Ok tt
    else (ok_or (file_fault partition_name why.Missing) value >>= λ _. none_found (other_partition table accepted.rows) (λ row. granule_fault partition_name (granule_of accepted.granules row) why.Partition) >>= λ _. files)

partition_is : (table : Table) (folder : Folder) (accepted : Accepted) → partition_reading table folder accepted ≡ partition_by (length table.partition == 0) table accepted (file_at folder partition_name) (files_reading folder (partition_files table accepted.rows))
unfolding partition_reading
partition_is table folder accepted = refl

pub partition_same : (f g : Folder) (table : Table) (accepted : Accepted) → AgreeAt f g (own.partition_file_names table) → partition_reading table f accepted ≡ partition_reading table g accepted
partition_same f g table accepted all =
    let files : files_reading f (partition_files table accepted.rows) ≡ files_reading g (partition_files table accepted.rows) = files_same f g (partition_files table accepted.rows) (written_agree f g table accepted.rows all) in
    partition_is table f accepted ∙ ap (partition_by (length table.partition == 0) table accepted (file_at f partition_name)) files
    ∙ by_test (length table.partition == 0) all ∙ sym (partition_is table g accepted)
  where
    by_test : (b : Bool) → AgreeAt f g (if b then [] else partition_name ∷ map (minmax_name table) (each_once (map expression_column table.partition)))
        → partition_by b table accepted (file_at f partition_name) (files_reading g (partition_files table accepted.rows)) ≡ partition_by b table accepted (file_at g partition_name) (files_reading g (partition_files table accepted.rows))
    by_test true all = refl
    by_test false all = ap (λ o. partition_by false table accepted o (files_reading g (partition_files table accepted.rows))) (file_same f g partition_name all.0)

-- ---- the entries of a skip index

abbrev entries_by : List ℕ → Skip → ℕ → Option (List ℕ) → Option (List ℕ) → Result (List (List ℕ)) Fault
entries_by ending skip count file marks =
    (ok_or (file_fault (skip_data_name skip) why.Missing) file >>= λ bytes. blame (frame_fault (skip_data_name skip)) (frames_reading bytes)) >>= λ blocks.
    ok_or (file_fault (skip_marks_name skip ending) why.Missing) marks >>= λ bytes.
    skip_marks_reading (skip_marks_name skip ending) count bytes >>= λ marks.
    positions_reading (skip_marks_name skip ending) skip.granularity (length (file_of blocks)) (layout blocks) 0 None marks >>= λ positions.
    Ok (pieces_at (payload_of blocks) positions)

entries_are : (folder : Folder) (ending : List ℕ) (skip : Skip) (count : ℕ) → index_entries folder ending skip count ≡ entries_by ending skip count (file_at folder (skip_data_name skip)) (file_at folder (skip_marks_name skip ending))
unfolding index_entries
entries_are folder ending skip count = refl

pub entries_same : (f g : Folder) (skip : Skip) (count : ℕ) → is_compact f ≡ is_compact g → AgreeAt f g (skip_names_in (is_compact f) skip) → index_entries f (marks_ending (is_compact f)) skip count ≡ index_entries g (marks_ending (is_compact g)) skip count
entries_same f g skip count kind all =
    let ending = marks_ending (is_compact f) in
    entries_are f ending skip count
    ∙ ap (λ o. entries_by ending skip count o (file_at f (skip_marks_name skip ending))) (file_same f g (skip_data_name skip) all.0)
    ∙ ap (entries_by ending skip count (file_at g (skip_data_name skip))) (file_same f g (skip_marks_name skip ending) all.1.0)
    ∙ sym (entries_are g ending skip count)
    ∙ ap (λ b. index_entries g (marks_ending b) skip count) kind
