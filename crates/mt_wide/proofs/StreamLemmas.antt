-- The two files of a substream.
use Rattle.std.proofs.Common.{◌≡◌, ℕ, ◌+◌, ◌*◌, ◌<◌, List, [], ◌∷◌, ◌++◌, length, map, take, get_or, refl, ap, sym, ◌∙◌, arith, append_assoc}
use Rattle.std.specs.Prelude.{All, slice_index_or}
use Rattle.std.specs.List.{concat, enumerate_from, flat_map}
use Rattle.std.proofs.lemmas.List.{take_more, map-append, length-map, append-nil}
use Rattle.std.proofs.lemmas.List.Elements.{All-nil, All-cons}
use Rattle.mt_types.specs.declared.ty.Ty.{Ty}
use Rattle.mt_fault.specs.declared.file.FileBytes.{FileBytes}
use Rattle.mt_defs.specs.Lists.{offsets_from}
use Rattle.mt_defs.specs.Rows.{Row, column_values}
use Rattle.mt_defs.specs.WrittenStreams.{written_streams}
use Rattle.mt_wide.specs.StreamFiles.{numbered_files}
use Rattle.mt_defs.specs.FileNames.{data_name, marks_name, stream_names}
use Rattle.mt_defs.specs.Wide.{stream_payloads}
use Rattle.mt_defs.specs.WrittenFrames.{mark_at, written_frames, written_marks_bytes}
use Rattle.mt_defs.specs.Granules.{granule_rows}
use Rattle.mt_defs.specs.WrittenColumns.{file, granule_streams, stream_files, wide_column}
use Rattle.mt_table.specs.declared.column.Column.{Column}
use Rattle.mt_defs.proofs.GranuleLemmas.{length-granule_rows}
use Rattle.mt_granules.specs.declared.data_file.DataFile.{DataFile}
use Rattle.mt_granules.specs.declared.data_file.MarkedData.{MarkedData}
use Rattle.mt_granules.specs.DataFiles.{AreRunsOf, all_runs, data_file_of, marked_data}
use Rattle.mt_granules.proofs.DataFileLemmas.{length-offsets}

abbrev single : List ℕ → List (List ℕ)
single run = run ∷ []

-- one payload more
pub payload_more : (streams : List (List (List ℕ))) (i k : ℕ) (granule : List (List ℕ)) (payload : List ℕ) → i < length streams → granule ≡ get_or streams i granule → payload ≡ slice_index_or granule k []
    → map written_frames (stream_payloads k (take (i + 1) streams)) ≡ map written_frames (stream_payloads k (take i streams)) ++ written_frames payload ∷ []
payload_more streams i k granule payload h is at =
    ap (λ (l : List (List (List ℕ))). map written_frames (stream_payloads k l)) (take_more streams i granule h ∙ ap (λ (g : List (List ℕ)). take i streams ++ g ∷ []) (sym is))
    ∙ ap (λ (l : List (List ℕ)). map written_frames l) (map-append (λ (s : List (List ℕ)). slice_index_or s k []) (take i streams) (granule ∷ []))
    ∙ map-append written_frames (stream_payloads k (take i streams)) (slice_index_or granule k [] ∷ [])
    ∙ ap (λ (p : List ℕ). map written_frames (stream_payloads k (take i streams)) ++ written_frames p ∷ []) (sym at)

-- ---- one mark per granule

singles_flat : (frames : List (List ℕ)) → all_runs (map single frames) ≡ frames
singles_flat [] = refl
singles_flat (run ∷ frames) = ap (λ (l : List (List ℕ)). run ∷ l) (singles_flat frames)

singles_complete : (frames : List (List ℕ)) → All (λ granule. length granule ≡ 1) (map single frames)
singles_complete [] = All-nil (λ (g : List (List ℕ)). length g ≡ 1)
singles_complete (run ∷ frames) = All-cons (λ (g : List (List ℕ)). length g ≡ 1) (single run) (map single frames) refl (singles_complete frames)

singles_joined : (frames : List (List ℕ)) → concat (map concat (map single frames)) ≡ concat frames
singles_joined [] = refl
singles_joined (run ∷ frames) = ap (λ (l : List ℕ). (run ++ []) ++ l) (singles_joined frames) ∙ ap (λ (l : List ℕ). l ++ concat frames) (append-nil run)

singles_sizes : (frames : List (List ℕ)) → map (map (λ (run : List ℕ). length run)) (map single frames) ≡ map (λ (run : List ℕ). length run ∷ []) frames
singles_sizes [] = refl
singles_sizes (run ∷ frames) = ap (λ (l : List (List ℕ)). (length run ∷ []) ∷ l) (singles_sizes frames)

pub marks_count : (k : ℕ) (streams : List (List (List ℕ))) (granules : List ℕ) (written : DataFile) → length streams ≡ length granules → written ≡ data_file_of (map written_frames (stream_payloads k streams)) → length written.marks ≡ length granules * 1
marks_count k streams granules written count is =
    let frames = map written_frames (stream_payloads k streams) in
    let sizes = map (λ (run : List ℕ). length run) frames in
    let long : length written.marks ≡ length granules =
    ap (λ (f : DataFile). length f.marks) is ∙ length-map (offsets_from 0 sizes) mark_at ∙ length-offsets 0 sizes ∙ length-map frames (λ (run : List ℕ). length run)
    ∙ length-map (stream_payloads k streams) written_frames ∙ length-map streams (λ (s : List (List ℕ)). slice_index_or s k []) ∙ count in
    omega arith

runs_of_stream : (k : ℕ) (streams : List (List (List ℕ))) (granules : List ℕ) → length streams ≡ length granules → AreRunsOf 1 (map single (map written_frames (stream_payloads k streams))) granules
runs_of_stream k streams granules count = record {
  complete = singles_complete (map written_frames (stream_payloads k streams));
  one_each = length-map (map written_frames (stream_payloads k streams)) single ∙ length-map (stream_payloads k streams) written_frames ∙ length-map streams (λ (s : List (List ℕ)). slice_index_or s k []) ∙ count;
}

-- what is appended for a substream is what the definition says
pub stream_appended : (k : ℕ) (streams : List (List (List ℕ))) (granules name data_file marks_file : List ℕ) (unfinished : DataFile) (written : MarkedData) (before middle after : List FileBytes) → length streams ≡ length granules
    → unfinished ≡ data_file_of (map written_frames (stream_payloads k streams))
    → ((runs : List (List (List ℕ))) → AreRunsOf 1 runs granules → unfinished ≡ data_file_of (all_runs runs) → written ≡ marked_data 1 runs granules)
    → data_file ≡ data_name name → marks_file ≡ marks_name name → middle ≡ before ++ file data_file written.bytes ∷ [] → after ≡ middle ++ file marks_file written.marks ∷ []
    → after ≡ before ++ stream_files granules name (stream_payloads k streams)
stream_appended k streams granules name data_file marks_file unfinished written before middle after count is finished data_is marks_is one two =
    let frames = map written_frames (stream_payloads k streams) in
    let done : written ≡ marked_data 1 (map single frames) granules = finished (map single frames) (runs_of_stream k streams granules count) (is ∙ ap data_file_of (sym (singles_flat frames))) in
    let bytes : written.bytes ≡ concat frames = ap (λ (w : MarkedData). w.bytes) done ∙ singles_joined frames in
    let marks : written.marks ≡ written_marks_bytes 1 (map (λ (run : List ℕ). length run ∷ []) frames) granules = ap (λ (w : MarkedData). w.marks) done ∙ ap (λ (l : List (List ℕ)). written_marks_bytes 1 l granules) (singles_sizes frames) in
    two ∙ ap (λ (l : List FileBytes). l ++ file marks_file written.marks ∷ []) one ∙ append_assoc before (file data_file written.bytes ∷ []) (file marks_file written.marks ∷ [])
    ∙ ap (λ (n : List ℕ). before ++ (file n written.bytes ∷ file marks_file written.marks ∷ [])) data_is
    ∙ ap (λ (n : List ℕ). before ++ (file (data_name name) written.bytes ∷ file n written.marks ∷ [])) marks_is
    ∙ ap (λ (b : List ℕ). before ++ (file (data_name name) b ∷ file (marks_name name) written.marks ∷ [])) bytes
    ∙ ap (λ (m : List ℕ). before ++ (file (data_name name) (concat frames) ∷ file (marks_name name) m ∷ [])) marks

-- ---- steps of loops

-- the name as a slice
pub same_name : (granules : List ℕ) (streams : List (List (List ℕ))) (k : ℕ) (slice name : List ℕ) (now new : List FileBytes) → slice ≡ name
    → new ≡ now ++ stream_files granules slice (stream_payloads k streams) → new ≡ now ++ numbered_files granules streams (k, name)
same_name granules streams k slice name now new same push = push ∙ ap (λ (n : List ℕ). now ++ stream_files granules n (stream_payloads k streams)) same

-- files that were appended to none
pub from_none : (files before all : List FileBytes) → before ≡ [] → files ≡ before ++ all → files ≡ all
from_none files before all none is = is ∙ ap (λ (l : List FileBytes). l ++ all) none

-- a granule more is encoded
pub encoded_step : (ty : Ty) (k : ℕ) (made now : List (List (List ℕ))) (here : List (List ℕ)) (left later : List (List Row)) (granule : List Row) (all : List (List (List ℕ))) → left ≡ granule ∷ later
    → here ≡ written_streams ty (column_values k granule) → now ≡ made ++ here ∷ []
    → made ++ map (λ (g : List Row). written_streams ty (column_values k g)) left ≡ all → now ++ map (λ (g : List Row). written_streams ty (column_values k g)) later ≡ all
encoded_step ty k made now here left later granule all next is push ahead =
    let f : List Row → List (List ℕ) = λ g. written_streams ty (column_values k g) in
    ap (λ (l : List (List (List ℕ))). l ++ map f later) (push ∙ ap (λ (h : List (List ℕ)). made ++ h ∷ []) is)
    ∙ append_assoc made (f granule ∷ []) (map f later) ∙ ap (λ (l : List (List Row)). made ++ map f l) (sym next) ∙ ahead

-- a column's substreams are as many as its granules
pub streams_count : (rows : List Row) (granules : List ℕ) (k : ℕ) (column : Column) (streams : List (List (List ℕ))) → streams ≡ granule_streams rows granules k column → length streams ≡ length granules
streams_count rows granules k column streams is =
    ap (λ (l : List (List (List ℕ))). length l) is ∙ length-map (granule_rows granules rows) (λ (g : List Row). written_streams column.ty (column_values k g)) ∙ length-granule_rows granules rows

-- what is appended for a column is what the definition says
pub column_appended : (rows : List Row) (granules : List ℕ) (k : ℕ) (column : Column) (names : List (List ℕ)) (streams : List (List (List ℕ))) (before after : List FileBytes) → names ≡ stream_names column → streams ≡ granule_streams rows granules k column
    → after ≡ before ++ flat_map (numbered_files granules streams) (enumerate_from 0 names) → after ≡ before ++ wide_column rows granules (k, column)
column_appended rows granules k column names streams before after names_are streams_are push =
    push ∙ ap (λ (n : List (List ℕ)). before ++ flat_map (numbered_files granules streams) (enumerate_from 0 n)) names_are
    ∙ ap (λ (s : List (List (List ℕ))). before ++ flat_map (numbered_files granules s) (enumerate_from 0 (stream_names column))) streams_are
