-- The writer's data and marks files, Wide and Compact.
use Rattle.std.specs.Prelude.{ℕ, List, [], ◌∷◌, length, map}
use Rattle.std.specs.List.{flat_map, concat, enumerate_from}
use Rattle.mt_fault.specs.declared.file.FileBytes.{FileBytes}
use Rattle.mt_table.specs.declared.column.Column.{Column}
use Rattle.mt_defs.specs.Rows.{Row, column_values}
use Rattle.mt_defs.specs.Granules.{granule_rows}
use Rattle.mt_defs.specs.FileNames.{stream_names, data_name, marks_name}
use Rattle.mt_defs.specs.Wide.{stream_payloads}
use Rattle.mt_defs.specs.Compact.{compact_data_name, compact_marks_name}
use Rattle.mt_defs.specs.WrittenStreams.{written_streams}
use Rattle.mt_defs.specs.WrittenFrames.{written_frames, written_marks_bytes}

-- a file of this name with these bytes
abbrev pub file : List ℕ → List ℕ → FileBytes
file name bytes = record { name = name; bytes = bytes }

-- ---- Wide: each granule of a substream is framed by itself

-- the two files of a substream with these payloads, one per granule
abbrev pub stream_files : List ℕ → List ℕ → List (List ℕ) → List FileBytes
stream_files granules name payloads =
    let frames = map written_frames payloads in
    file (data_name name) (concat frames) ∷ file (marks_name name) (written_marks_bytes 1 (map (λ run. length run ∷ []) frames) granules) ∷ []

-- a column's substreams in each granule
abbrev pub granule_streams : List Row → List ℕ → ℕ → Column → List (List (List ℕ))
granule_streams rows granules column_index column = map (λ granule. written_streams column.ty (column_values column_index granule)) (granule_rows granules rows)

-- the files of a column
abbrev pub wide_column : List Row → List ℕ → ℕ × Column → List FileBytes
wide_column rows granules (column_index, column) =
    flat_map (λ (stream_index, name). stream_files granules name (stream_payloads stream_index (granule_streams rows granules column_index column)))
    (enumerate_from 0 (stream_names column))

-- the files of all columns
abbrev pub wide_files : List Column → List Row → List ℕ → List FileBytes
wide_files columns rows granules = flat_map (wide_column rows granules) (enumerate_from 0 columns)

-- ---- Compact: each granule of a column is framed by itself

-- the frames of a granule, one run per column
abbrev pub compact_frames : List Column → List Row → List (List ℕ)
compact_frames columns rows =
    map (λ (column_index, column). written_frames (concat (written_streams column.ty (column_values column_index rows)))) (enumerate_from 0 columns)

-- the two files of all columns
abbrev pub compact_files : List Column → List Row → List ℕ → List FileBytes
compact_files columns rows granules =
    let frames = map (compact_frames columns) (granule_rows granules rows) in
    file compact_data_name (concat (map concat frames)) ∷ file compact_marks_name (written_marks_bytes (length columns) (map (map length) frames) granules) ∷ []
