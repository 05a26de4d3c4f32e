-- The frames of granules of columns, one after another.
use Rattle.std.proofs.Common.{◌≡◌, ℕ, ◌+◌, ◌*◌, ◌<◌, ◌≤◌, List, [], ◌∷◌, ◌++◌, length, map, take, drop, get_or, refl, ap, sym, ◌∙◌, subst, arith, append_assoc}
use Rattle.std.specs.Prelude.{All}
use Rattle.std.specs.List.{concat, enumerate_from, flat_map}
use Rattle.std.proofs.lemmas.List.{append-nil, length-map, length-append, drop_all, take_more}
use Rattle.std.proofs.lemmas.List.Folds.{concat-append}
use Rattle.std.proofs.lemmas.List.FromFn.{length-enumerate_from}
use Rattle.std.proofs.lemmas.List.Elements.{All-nil, All-cons}
use Rattle.mt_fault.specs.declared.file.FileBytes.{FileBytes}
use Rattle.mt_table.specs.declared.column.Column.{Column}
use Rattle.mt_defs.specs.Lists.{offsets_from}
use Rattle.mt_defs.specs.Rows.{Row, column_values}
use Rattle.mt_defs.specs.Granules.{granule_rows}
use Rattle.mt_defs.specs.Compact.{compact_data_name, compact_marks_name}
use Rattle.mt_defs.specs.WrittenFrames.{mark_at, written_frames}
use Rattle.mt_defs.specs.WrittenStreams.{written_streams}
use Rattle.mt_defs.specs.WrittenColumns.{file, compact_files, compact_frames}
use Rattle.mt_defs.proofs.GranuleLemmas.{length-granule_rows}
use Rattle.mt_granules.specs.declared.data_file.DataFile.{DataFile}
use Rattle.mt_granules.specs.declared.data_file.MarkedData.{MarkedData}
use Rattle.mt_granules.specs.DataFiles.{AreRunsOf, all_runs, data_file_of, marked_data}
use Rattle.mt_granules.proofs.DataFileLemmas.{length-offsets}
use Rattle.mt_granules.proofs.NumberedLemmas.{numbered_map_step, numbered_map_end}

-- the frames of a column in a granule
abbrev pub column_frames : List Row → ℕ × Column → List ℕ
column_frames rows (column_index, column) = written_frames (concat (written_streams column.ty (column_values column_index rows)))

-- ---- a granule, column by column

pub frames_step : (rows : List Row) (columns : List Column) (i : ℕ) (column : Column) (runs : List (List ℕ)) (now new : DataFile) (payload slice : List ℕ) → i < length columns → column ≡ get_or columns i column
    → payload ≡ concat (written_streams column.ty (column_values i rows)) → slice ≡ payload → ((r : List (List ℕ)) → now ≡ data_file_of r → new ≡ data_file_of (r ++ written_frames slice ∷ []))
    → now ≡ data_file_of (runs ++ map (column_frames rows) (take i (enumerate_from 0 columns))) → new ≡ data_file_of (runs ++ map (column_frames rows) (take (i + 1) (enumerate_from 0 columns)))
frames_step rows columns i column runs now new payload slice h is encoded same put ahead =
    let done = map (column_frames rows) (take i (enumerate_from 0 columns)) in
    put (runs ++ done) ahead
    ∙ ap (λ (bytes : List ℕ). data_file_of ((runs ++ done) ++ written_frames bytes ∷ [])) (same ∙ encoded)
    ∙ ap data_file_of (append_assoc runs done (column_frames rows (i, column) ∷ []) ∙ ap (λ (l : List (List ℕ)). runs ++ l) (sym (numbered_map_step (column_frames rows) columns i column h is)))

pub frames_end : (rows : List Row) (columns : List Column) (i : ℕ) (runs : List (List ℕ)) (now : DataFile) → length columns ≤ i
    → now ≡ data_file_of (runs ++ map (column_frames rows) (take i (enumerate_from 0 columns))) → now ≡ data_file_of (runs ++ compact_frames columns rows)
frames_end rows columns i runs now h ahead = ahead ∙ ap (λ (l : List (List ℕ)). data_file_of (runs ++ l)) (numbered_map_end (column_frames rows) columns i h)

-- ---- granule by granule

pub granule_step : (columns : List Column) (runs : List (List ℕ)) (left later : List (List Row)) (granule : List Row) (all : List (List ℕ)) → left ≡ granule ∷ later
    → runs ++ flat_map (compact_frames columns) left ≡ all → (runs ++ compact_frames columns granule) ++ flat_map (compact_frames columns) later ≡ all
granule_step columns runs left later granule all next ahead =
    append_assoc runs (compact_frames columns granule) (flat_map (compact_frames columns) later) ∙ ap (λ (l : List (List Row)). runs ++ flat_map (compact_frames columns) l) (sym next) ∙ ahead

pub granules_end : (columns : List Column) (granules : List ℕ) (i : ℕ) (rest : List Row) (runs all : List (List ℕ)) (now : DataFile) → length granules ≤ i → now ≡ data_file_of runs
    → runs ++ flat_map (compact_frames columns) (granule_rows (drop i granules) rest) ≡ all → now ≡ data_file_of all
granules_end columns granules i rest runs all now h is ahead =
    let none : drop i granules ≡ [] = drop_all i granules h in
    is ∙ ap data_file_of (sym (append-nil runs) ∙ ap (λ (l : List ℕ). runs ++ flat_map (compact_frames columns) (granule_rows l rest)) (sym none) ∙ ahead)

-- ---- the two files

granules_flat : (columns : List Column) (granules : List (List Row)) → all_runs (map (compact_frames columns) granules) ≡ flat_map (compact_frames columns) granules
granules_flat columns [] = refl
granules_flat columns (g ∷ granules) = ap (λ (l : List (List ℕ)). compact_frames columns g ++ l) (granules_flat columns granules)

length-frames : (columns : List Column) (rows : List Row) → length (compact_frames columns rows) ≡ length columns
length-frames columns rows = length-map (enumerate_from 0 columns) (column_frames rows) ∙ length-enumerate_from 0 columns

frames_complete : (columns : List Column) (granules : List (List Row)) → All (λ granule. length granule ≡ length columns) (map (compact_frames columns) granules)
frames_complete columns [] = All-nil (λ (g : List (List ℕ)). length g ≡ length columns)
frames_complete columns (g ∷ granules) = All-cons (λ (g : List (List ℕ)). length g ≡ length columns) (compact_frames columns g) (map (compact_frames columns) granules) (length-frames columns g) (frames_complete columns granules)

length-flat : (columns : List Column) (granules : List (List Row)) → length (flat_map (compact_frames columns) granules) ≡ length granules * length columns
length-flat columns [] = omega arith
length-flat columns (g ∷ granules) =
    let more = length-flat columns granules in
    let here = length-frames columns g in
    let whole = length-append (compact_frames columns g) (flat_map (compact_frames columns) granules) in
    whole ∙ grind (arith, more, here)

pub marks_count : (columns : List Column) (rows : List Row) (granules : List ℕ) (written : DataFile) → written ≡ data_file_of (flat_map (compact_frames columns) (granule_rows granules rows)) → length written.marks ≡ length granules * length columns
marks_count columns rows granules written is =
    let runs = flat_map (compact_frames columns) (granule_rows granules rows) in
    let sizes = map (λ (run : List ℕ). length run) runs in
    ap (λ (f : DataFile). length f.marks) is ∙ length-map (offsets_from 0 sizes) mark_at ∙ length-offsets 0 sizes ∙ length-map runs (λ (run : List ℕ). length run)
    ∙ length-flat columns (granule_rows granules rows) ∙ ap (λ (n : ℕ). n * length columns) (length-granule_rows granules rows)

runs_of_granules : (columns : List Column) (rows : List Row) (granules : List ℕ) → AreRunsOf (length columns) (map (compact_frames columns) (granule_rows granules rows)) granules
runs_of_granules columns rows granules = record {
  complete = frames_complete columns (granule_rows granules rows);
  one_each = length-map (granule_rows granules rows) (compact_frames columns) ∙ length-granule_rows granules rows;
}

pub files_are : (columns : List Column) (rows : List Row) (granules data_name marks_name : List ℕ) (per : ℕ) (unfinished : DataFile) (written : MarkedData) (none one two : List FileBytes) → per ≡ length columns
    → unfinished ≡ data_file_of (flat_map (compact_frames columns) (granule_rows granules rows))
    → ((runs : List (List (List ℕ))) → AreRunsOf per runs granules → unfinished ≡ data_file_of (all_runs runs) → written ≡ marked_data per runs granules)
    → data_name ≡ compact_data_name → marks_name ≡ compact_marks_name → none ≡ [] → one ≡ none ++ file data_name written.bytes ∷ [] → two ≡ one ++ file marks_name written.marks ∷ []
    → two ≡ compact_files columns rows granules
files_are columns rows granules data_name marks_name per unfinished written none one two count is finished data_is marks_is nothing first second =
    let frames = map (compact_frames columns) (granule_rows granules rows) in
    let complete : AreRunsOf per frames granules = subst (λ (n : ℕ). AreRunsOf n frames granules) (sym count) (runs_of_granules columns rows granules) in
    let done : written ≡ marked_data (length columns) frames granules = finished frames complete (is ∙ ap data_file_of (sym (granules_flat columns (granule_rows granules rows)))) ∙ ap (λ (n : ℕ). marked_data n frames granules) count in
    second ∙ ap (λ (l : List FileBytes). l ++ file marks_name written.marks ∷ []) (first ∙ ap (λ (l : List FileBytes). l ++ file data_name written.bytes ∷ []) nothing)
    ∙ ap (λ (n : List ℕ). file n written.bytes ∷ file marks_name written.marks ∷ []) data_is
    ∙ ap (λ (n : List ℕ). file compact_data_name written.bytes ∷ file n written.marks ∷ []) marks_is
    ∙ ap (λ (w : MarkedData). file compact_data_name w.bytes ∷ file compact_marks_name w.marks ∷ []) done

-- a stream more is joined
pub joined_step : (streams : List (List ℕ)) (i : ℕ) (stream slice now new : List ℕ) → i < length streams → stream ≡ get_or streams i stream → slice ≡ stream → new ≡ now ++ slice → now ≡ concat (take i streams) → new ≡ concat (take (i + 1) streams)
joined_step streams i stream slice now new h is same push ahead =
    push ∙ ap (λ (l : List ℕ). l ++ slice) ahead ∙ ap (λ (l : List ℕ). concat (take i streams) ++ l) (same ∙ sym (append-nil stream))
    ∙ sym (ap concat (take_more streams i stream h ∙ ap (λ (s : List ℕ). take i streams ++ s ∷ []) (sym is)) ∙ concat-append (take i streams) (stream ∷ []))
