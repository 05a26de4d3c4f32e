-- The two files of a column of numbers.
use Rattle.std.proofs.Common.{◌≡◌, ℕ, ◌+◌, min, List, [], ◌∷◌, ◌++◌, length, map, take, drop, refl, ap, sym, ◌∙◌, arith, append_assoc}
use Rattle.std.specs.Prelude.{codes, sum, IsTrue}
use Rattle.std.specs.List.{flat_map, concat, enumerate_from}
use Rattle.std.proofs.lemmas.List.{append-nil, length-append, take_min, drop_min}
use Rattle.std.proofs.lemmas.List.Sums.{sum_by-cons}
use Rattle.mt_facts.proofs.Numbers.{sum_single}
use Rattle.mt_types.specs.declared.ty.Ty.TheVariants.{UInt}
use Rattle.mt_types.specs.declared.ty.Width.TheVariants.{W64}
use Rattle.mt_fault.specs.declared.file.FileBytes.{FileBytes}
use Rattle.mt_types.specs.Words.{is_name}
use Rattle.mt_table.specs.Form.{uint64_column}
use Rattle.mt_defs.specs.Rows.{Row, column_values}
use Rattle.mt_defs.specs.Granules.{granule_rows}
use Rattle.mt_defs.specs.Marks.{entry_bytes, marks_bytes, granule_starts}
use Rattle.mt_defs.specs.Wide.{stream_payloads}
use Rattle.mt_defs.specs.WrittenStreams.{written_streams}
use Rattle.mt_defs.specs.WrittenFrames.{written_frames, written_marks_bytes, mark_at}
use Rattle.mt_defs.specs.WrittenColumns.{file, stream_files, granule_streams, wide_column}
use Rattle.mt_defs.proofs.Numbers.{written_streams_UInt}
use Rattle.mt_defs.proofs.WrittenNames.{Word, word_of, stream_name}
use Rattle.mt_plain.specs.NumberRows.{IsStream, column_data, granule_frames, column_marks_from}

-- ---- a granule of the loop

-- the rows of the granule, and those after it
pub granule_taken : (rest granule : List Row) (n count : ℕ) → n ≡ min count (length rest) → granule ≡ take n rest → granule ≡ take count rest
granule_taken rest granule n count least front = front ∙ ap (λ k. take k rest) least ∙ take_min count rest

pub rows_left : (rest after : List Row) (n count : ℕ) → n ≡ min count (length rest) → after ≡ drop n rest → after ≡ drop count rest
rows_left rest after n count least back = back ∙ ap (λ k. drop k rest) least ∙ drop_min count rest

pub data_step : (k : ℕ) (bytes new all granules later : List ℕ) (count : ℕ) (rest granule after : List Row) → granules ≡ count ∷ later → granule ≡ take count rest → after ≡ drop count rest
    → new ≡ bytes ++ granule_frames k granule → bytes ++ column_data k granules rest ≡ all → new ++ column_data k later after ≡ all
data_step k bytes new all granules later count rest granule after here front back push ahead =
    ap (λ l. l ++ column_data k later after) (push ∙ ap (λ g. bytes ++ granule_frames k g) front)
    ∙ append_assoc bytes (granule_frames k (take count rest)) (column_data k later after)
    ∙ ap (λ a. bytes ++ (granule_frames k (take count rest) ++ column_data k later a)) back
    ∙ ap (λ g. bytes ++ column_data k g rest) (sym here) ∙ ahead

pub marks_step : (k offset : ℕ) (bytes new data_bytes more all granules later : List ℕ) (count : ℕ) (rest granule after : List Row) → granules ≡ count ∷ later → granule ≡ take count rest → after ≡ drop count rest
    → offset ≡ length data_bytes → new ≡ bytes ++ entry_bytes (mark_at offset ∷ []) count → more ≡ data_bytes ++ granule_frames k granule
    → bytes ++ column_marks_from k (length data_bytes) granules rest ≡ all → new ++ column_marks_from k (length more) later after ≡ all
marks_step k offset bytes new data_bytes more all granules later count rest granule after here front back at push grown ahead =
    let entry = entry_bytes (mark_at (length data_bytes) ∷ []) count in
    let size : length more ≡ length data_bytes + length (granule_frames k (take count rest)) =
    ap length grown ∙ length-append data_bytes (granule_frames k granule) ∙ ap (λ g. length data_bytes + length (granule_frames k g)) front in
    ap (λ l. l ++ column_marks_from k (length more) later after) (push ∙ ap (λ o. bytes ++ entry_bytes (mark_at o ∷ []) count) at)
    ∙ append_assoc bytes entry (column_marks_from k (length more) later after)
    ∙ ap (λ a. bytes ++ (entry ++ column_marks_from k (length more) later a)) back
    ∙ ap (λ n. bytes ++ (entry ++ column_marks_from k n later (drop count rest))) size
    ∙ ap (λ g. bytes ++ column_marks_from k (length data_bytes) g rest) (sym here) ∙ ahead

-- three appends are one
pub three_appends : (out a b c x y : List ℕ) → x ≡ out ++ a → y ≡ x ++ b → y ++ c ≡ out ++ ((a ++ b) ++ c)
three_appends out a b c x y p q = rw (q, p) (simp append_assoc)

-- ---- the definition's files

abbrev sizes_of : List (List ℕ) → List (List ℕ)
sizes_of frames = map (λ run. length run ∷ []) frames

abbrev frames_of : ℕ → List ℕ → List Row → List (List ℕ)
frames_of k granules rows = map (granule_frames k) (granule_rows granules rows)

-- the entries of a marks file, one after another
marks_are : (k offset end : ℕ) (granules : List ℕ) (rows : List Row) → end ≡ offset + sum (map sum (sizes_of (frames_of k granules rows)))
    → marks_bytes (map (map mark_at) (granule_starts offset (sizes_of (frames_of k granules rows)) ++ (end ∷ []) ∷ [])) (granules ++ 0 ∷ []) ≡ column_marks_from k offset granules rows
marks_are k offset end [] rows is =
    let same : end ≡ offset = omega (arith, is) in
    ap (λ n. marks_bytes ((mark_at n ∷ []) ∷ []) (0 ∷ [])) same ∙ append-nil (entry_bytes (mark_at offset ∷ []) 0)
marks_are k offset end (count ∷ granules) rows is =
    let run : ℕ = length (granule_frames k (take count rows)) in
    let later : List (List ℕ) = sizes_of (frames_of k granules (drop count rows)) in
    let entry : List ℕ = entry_bytes (mark_at offset ∷ []) count in
    let total : sum (map sum ((run ∷ []) ∷ later)) ≡ sum (run ∷ []) + sum (map sum later) = sum_by-cons (λ x. x) (sum (run ∷ [])) (map sum later) in
    let one : sum (run ∷ []) ≡ run = sum_single run in
    ap (λ n. entry ++ marks_bytes (map (map mark_at) (granule_starts (offset + n) later ++ (end ∷ []) ∷ [])) (granules ++ 0 ∷ [])) one
    ∙ ap (λ l. entry ++ l) (marks_are k (offset + run) end granules (drop count rows) (omega (arith, is, total, one)))

-- the frames of each granule
frames_are : (k : ℕ) (granules : List (List Row)) → map written_frames (stream_payloads 0 (map (λ granule. written_streams (UInt W64) (column_values k granule)) granules)) ≡ map (granule_frames k) granules
frames_are k [] = refl
frames_are k (granule ∷ granules) =
    let rest = map written_frames (stream_payloads 0 (map (λ g. written_streams (UInt W64) (column_values k g)) granules)) in
    ap (λ streams. map written_frames (stream_payloads 0 (streams ∷ [])) ++ rest) (written_streams_UInt W64 (column_values k granule))
    ∙ ap (λ l. granule_frames k granule ∷ l) (frames_are k granules)

two_files : List ℕ → List ℕ → List (List ℕ) → List FileBytes
two_files name granules frames = file (name ++ codes ".bin") (concat frames) ∷ file (name ++ codes ".mrk2") (written_marks_bytes 1 (sizes_of frames) granules) ∷ []

column_is : (k : ℕ) (name : List ℕ) (rows : List Row) (granules : List ℕ) → Word name
    → wide_column rows granules (k, uint64_column name) ≡ file (name ++ codes ".bin") (column_data k granules rows) ∷ file (name ++ codes ".mrk2") (column_marks_from k 0 granules rows) ∷ []
unfolding two_files
column_is k name rows granules word =
    let streams = granule_streams rows granules k (uint64_column name) in
    ap (λ names. flat_map (λ (stream_index, stream). stream_files granules stream (stream_payloads stream_index streams)) (enumerate_from 0 names)) (stream_name name word)
    ∙ ap (two_files name granules) (frames_are k (granule_rows granules rows))
    ∙ ap (λ marks. file (name ++ codes ".bin") (column_data k granules rows) ∷ file (name ++ codes ".mrk2") marks ∷ [])
    (marks_are k 0 (sum (map sum (sizes_of (frames_of k granules rows)))) granules rows (omega arith))

-- the two files of a column are the definition's
pub column_files : (k : ℕ) (name : List ℕ) (rows : List Row) (granules bytes marks : List ℕ) (before middle : List FileBytes) → IsTrue (is_name name) → IsStream k granules rows bytes marks
    → middle ≡ before ++ file (name ++ codes ".bin") bytes ∷ [] → middle ++ file (name ++ codes ".mrk2") marks ∷ [] ≡ before ++ wide_column rows granules (k, uint64_column name)
column_files k name rows granules bytes marks before middle is stream one =
    ap (λ l. l ++ file (name ++ codes ".mrk2") marks ∷ []) one ∙ append_assoc before (file (name ++ codes ".bin") bytes ∷ []) (file (name ++ codes ".mrk2") marks ∷ [])
    ∙ ap (λ b. before ++ (file (name ++ codes ".bin") b ∷ file (name ++ codes ".mrk2") marks ∷ [])) stream.framed
    ∙ ap (λ m. before ++ (file (name ++ codes ".bin") (column_data k granules rows) ∷ file (name ++ codes ".mrk2") m ∷ [])) stream.marked
    ∙ ap (λ l. before ++ l) (sym (column_is k name rows granules (word_of name is)))
