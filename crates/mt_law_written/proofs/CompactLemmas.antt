-- A folder that has the writer's Compact files of some rows has the rows' columns.
use Rattle.std.proofs.Common.{◌≡◌, ℕ, ◌<◌, ◌^◌, List, [], ◌∷◌, ◌++◌, length, map, refl, ap, sym, ◌∙◌, subst, lit<}
use Rattle.std.specs.Prelude.{All}
use Rattle.std.specs.List.{concat, enumerate_from}
use Rattle.std.proofs.lemmas.List.{map-append}
use Rattle.std.proofs.lemmas.List.Folds.{concat-append}
use Rattle.std.proofs.lemmas.List.Elements.{All-nil, All-append, All-head, All-tail, All-weaker}
use Rattle.std.proofs.lemmas.Simd.{map-map}
use Rattle.mt_table.specs.declared.column.Column.{Column}
use Rattle.mt_defs.specs.Lists.{AreBytes}
use Rattle.mt_defs.specs.Folder.{Folder}
use Rattle.mt_defs.specs.Rows.{Row, column_values}
use Rattle.mt_defs.specs.Granules.{AreGranules, granule_rows}
use Rattle.mt_defs.specs.Encoding.{Encodes}
use Rattle.mt_defs.specs.Frames.{IsFramed}
use Rattle.mt_defs.specs.Marks.{IsMarksFile}
use Rattle.mt_defs.specs.Compact.{EncodesColumns, IsCompact}
use Rattle.mt_defs.specs.WrittenStreams.{written_streams}
use Rattle.mt_defs.specs.WrittenFrames.{written_frames, written_marks_bytes}
use Rattle.mt_defs.specs.WrittenColumns.{compact_files, compact_frames}
use Rattle.mt_law_written.specs.Layouts.{AreShort}
use Rattle.mt_law_written.proofs.MarkLemmas.{framed_one_by_one, is_marks_file, joined}
use Rattle.mt_law_written.proofs.ListLemmas.{All-mapped, All-to_flat_map, Pointwise-mapped}
use Rattle.mt_law_written.proofs.WideLemmas.{HasFile, no_file, ColumnHolds, column_encodes, column_bytes}

-- ---- the payloads of a granule

abbrev Numbered : Type 0
Numbered = ℕ × Column

abbrev payload_of : List Row → Numbered → List ℕ
payload_of rows (column_index, column) = concat (written_streams column.ty (column_values column_index rows))

-- a payload per column
abbrev payloads_of : List Column → List Row → List (List ℕ)
payloads_of columns rows = map (payload_of rows) (enumerate_from 0 columns)

-- each column's values fit
abbrev ColumnsHold : List Column → List Row → Type 0
ColumnsHold columns rows = All (λ (column_index, column). ColumnHolds column column_index rows) (enumerate_from 0 columns)

granule_encoded : (columns : List Column) (rows : List Row) → ColumnsHold columns rows → EncodesColumns columns rows (payloads_of columns rows)
granule_encoded columns rows hold =
    let R : Numbered → List ℕ → Type 0 = λ (k, column) payload. (streams : List (List ℕ)) × Encodes column.ty (column_values k rows) streams × (payload ≡ concat streams) in
    Pointwise-mapped R (payload_of rows) (enumerate_from 0 columns)
    (All-weaker (λ (k, column). ColumnHolds column k rows) (λ p. R p (payload_of rows p)) (λ p holds. (written_streams p.1.ty (column_values p.0 rows), column_encodes p.1 p.0 rows holds, refl)) (enumerate_from 0 columns) hold)

pub joined_bytes : (streams : List (List ℕ)) → All AreBytes streams → AreBytes (concat streams)
joined_bytes [] bytes = All-nil (λ byte. byte < 256)
joined_bytes (stream ∷ streams) bytes = All-append (λ byte. byte < 256) stream (concat streams) (All-head AreBytes stream streams bytes) (joined_bytes streams (All-tail AreBytes stream streams bytes))

granule_bytes : (columns : List Column) (rows : List Row) → ColumnsHold columns rows → All AreBytes (payloads_of columns rows)
granule_bytes columns rows hold =
    All-mapped AreBytes (payload_of rows) (enumerate_from 0 columns)
    (All-weaker (λ (k, column). ColumnHolds column k rows) (λ p. AreBytes (payload_of rows p)) (λ p holds. joined_bytes (written_streams p.1.ty (column_values p.0 rows)) (column_bytes p.1 p.0 rows holds)) (enumerate_from 0 columns) hold)

-- ---- payloads and frames one after another

concat_joined : (groups : List (List (List ℕ))) → concat (joined groups) ≡ concat (map concat groups)
concat_joined [] = refl
concat_joined (group ∷ groups) = concat-append group (joined groups) ∙ ap (λ bytes. concat group ++ bytes) (concat_joined groups)

map_joined : (f : List ℕ → List ℕ) (groups : List (List (List ℕ))) → map f (joined groups) ≡ joined (map (map f) groups)
map_joined f [] = refl
map_joined f (group ∷ groups) = map-append f group (joined groups) ∙ ap (λ rest. map f group ++ rest) (map_joined f groups)

frames_are : (columns : List Column) (granules : List (List Row)) → map (map written_frames) (map (payloads_of columns) granules) ≡ map (compact_frames columns) granules
frames_are columns [] = refl
frames_are columns (rows ∷ granules) =
    ap (λ frames. frames ∷ map (map written_frames) (map (payloads_of columns) granules)) (map-map written_frames (payload_of rows) (enumerate_from 0 columns))
    ∙ ap (λ rest. compact_frames columns rows ∷ rest) (frames_are columns granules)

-- ---- the two files

pub compact_held : (columns : List Column) (rows : List Row) (granules : List ℕ) (folder : Folder) → AreGranules granules rows → All (λ count. count < 2 ^ 64) granules
    → All (ColumnsHold columns) (granule_rows granules rows) → AreShort (compact_files columns rows granules) → All (HasFile folder) (compact_files columns rows granules) → IsCompact columns rows granules folder
compact_held columns rows granules folder cut few hold short files =
    let parts : List (List Row) = granule_rows granules rows in
    let payloads : List (List (List ℕ)) = map (payloads_of columns) parts in
    let frames : List (List (List ℕ)) = map (compact_frames columns) parts in
    let each : map (map written_frames) payloads ≡ frames = frames_are columns parts in
    let bytes : All AreBytes (joined payloads) =
    All-to_flat_map AreBytes (λ group. group) payloads
    (All-mapped (All AreBytes) (payloads_of columns) parts (All-weaker (ColumnsHold columns) (λ granule. All AreBytes (payloads_of columns granule)) (granule_bytes columns) parts hold)) in
    let file_is : concat (map written_frames (joined payloads)) ≡ concat (map concat frames) =
    ap concat (map_joined written_frames payloads ∙ ap joined each) ∙ concat_joined frames in
    let few_bytes : length (concat (map written_frames (joined payloads))) < 2 ^ 64 = subst (λ (file : List ℕ). length file < 2 ^ 64) (sym file_is) (short 0 no_file (lit< tt)) in
    let framed : IsFramed (concat (map concat payloads)) (concat (map concat frames)) =
    subst (λ file. IsFramed (concat (map concat payloads)) file) file_is (subst (λ payload. IsFramed payload (concat (map written_frames (joined payloads)))) (concat_joined payloads) (framed_one_by_one (joined payloads) bytes)) in
    let Marks : List ℕ → List (List (List ℕ)) → Type 0 = λ file frames. IsMarksFile (length columns) file (map (map length) payloads) granules (written_marks_bytes (length columns) (map (map length) frames) granules) in
    record {
      cut = cut;
      payloads = payloads;
      encoded =
          Pointwise-mapped (EncodesColumns columns) (payloads_of columns) parts
          (All-weaker (ColumnsHold columns) (λ granule. EncodesColumns columns granule (payloads_of columns granule)) (granule_encoded columns) parts hold);
      data_file = concat (map concat frames);
      marks_file = written_marks_bytes (length columns) (map (map length) frames) granules;
      has_data = files 0 no_file (lit< tt);
      has_marks = files 1 no_file (lit< tt);
      framed = framed;
      marks = subst (Marks (concat (map concat frames))) each (subst (λ file. Marks file (map (map written_frames) payloads)) file_is (is_marks_file (length columns) payloads granules few bytes few_bytes));
    }
