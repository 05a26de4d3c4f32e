-- The writer's data and marks files are shorter than 2^64 bytes, for rows within the limits.
use Rattle.std.proofs.Common.{◌≡◌, ℕ, ◌*◌, ◌≤◌, ◌<◌, ◌^◌, List, [], ◌∷◌, ◌++◌, length, map, get_or, refl, ap, ◌∙◌, arith}
use Rattle.std.specs.Prelude.{All}
use Rattle.std.specs.List.{concat, enumerate_from, flat_map, sum_by}
use Rattle.std.proofs.Math.Nat.{mul-le-mul_right}
use Rattle.std.proofs.lemmas.List.{map-append}
use Rattle.std.proofs.lemmas.List.Elements.{All-map, All-weaker}
use Rattle.std.proofs.lemmas.List.Sums.{sum-map}
use Rattle.mt_types.specs.Fits.{fits_of}
use Rattle.mt_table.specs.declared.column.Column.{Column}
use Rattle.mt_table.specs.declared.limits.TheConstants.{MAX_CELLS, MAX_ROWS}
use Rattle.mt_defs.specs.Compact.{compact_data_name, compact_marks_name}
use Rattle.mt_defs.specs.FileNames.{data_name, marks_name, stream_names}
use Rattle.mt_defs.specs.Granules.{granule_rows}
use Rattle.mt_defs.specs.Rows.{Row, cell, column_values}
use Rattle.mt_defs.specs.Wide.{stream_payloads}
use Rattle.mt_defs.specs.WrittenColumns.{compact_files, compact_frames, file, granule_streams, stream_files, wide_column, wide_files}
use Rattle.mt_defs.specs.WrittenFrames.{written_frames, written_marks_bytes}
use Rattle.mt_defs.specs.WrittenGranules.{column_size, payload_size}
use Rattle.mt_defs.specs.WrittenStreams.{written_streams}
use Rattle.mt_layout.proofs.PayloadLemmas.{columns_size-append}
use Rattle.mt_layout.proofs.StreamLemmas.{additive, streams_size}
use Rattle.mt_law_written.specs.Layouts.{AreLaidOut, AreShort, IsShort}
use Rattle.mt_law_written.proofs.ListLemmas.{All-to_flat_map, All-two, list_all-mapped}
use Rattle.mt_law_written.proofs.WideLemmas.{ColumnHolds, columns_hold}
use Rattle.mt_law_written.proofs.CellSums.{cells_in, cells_of, columns_cells}
use Rattle.mt_law_written.proofs.CompactSizes.{data_is, runs_few}
use Rattle.mt_law_written.proofs.FrameLimits.{IsAdditive, framed_size, framed_granules_size, framed_runs_size, stream_size}
use Rattle.mt_law_written.proofs.MarkLimits.{few_granules, marks_short}
use Rattle.mt_law_written.proofs.SumLemmas.{sum_by-each, sum_by-times}
use Rattle.mt_law_written.proofs.ValueLimits.{cell_limit, values_within}

-- ---- a column

-- the bytes of all columns over all their substreams
abbrev rows_limit : ℕ
rows_limit = 2 ^ 49

column_within : (column : Column) (k : ℕ) (rows : List Row) → ColumnHolds column k rows → streams_size column.ty (column_values k rows) ≤ cell_limit * cells_of (column_values k rows)
column_within column k rows holds = values_within column.ty (column_values k rows) holds.profile (list_all-mapped (fits_of column.ty) (λ row. cell row k) rows holds.fit)

column_additive : (column : Column) (k : ℕ) → IsAdditive (λ rows. streams_size column.ty (column_values k rows))
column_additive column k xs ys = ap (streams_size column.ty) (map-append (λ row. cell row k) xs ys) ∙ additive column.ty (column_values k xs) (column_values k ys)

-- ---- Wide files

-- the frames of a substream in a granule
abbrev granule_frames : Column → (k stream_index : ℕ) → List Row → List ℕ
granule_frames column k stream_index rows = written_frames (get_or (written_streams column.ty (column_values k rows)) stream_index [])

frames_are : (column : Column) (k stream_index : ℕ) (parts : List (List Row))
    → concat (map written_frames (stream_payloads stream_index (map (λ granule. written_streams column.ty (column_values k granule)) parts))) ≡ flat_map (granule_frames column k stream_index) parts
frames_are column k stream_index [] = refl
frames_are column k stream_index (rows ∷ parts) = ap (λ rest. granule_frames column k stream_index rows ++ rest) (frames_are column k stream_index parts)

-- a data file has at most 26 bytes for each byte of the column
data_size : (column : Column) (k stream_index : ℕ) (rows : List Row) (granules : List ℕ)
    → length (concat (map written_frames (stream_payloads stream_index (granule_streams rows granules k column)))) ≤ 26 * streams_size column.ty (column_values k rows)
data_size column k stream_index rows granules =
    let each : (granule : List Row) → length (granule_frames column k stream_index granule) ≤ 26 * streams_size column.ty (column_values k granule) = λ granule.
    let streams = written_streams column.ty (column_values k granule) in
    omega (arith, framed_size (get_or streams stream_index []), stream_size streams stream_index) in
    let all = framed_granules_size (λ rows. streams_size column.ty (column_values k rows)) (column_additive column k) (granule_frames column k stream_index) each granules rows in
    omega (arith, all, ap length (frames_are column k stream_index (granule_rows granules rows)))

stream_short : (granules name : List ℕ) (payloads : List (List ℕ)) → length granules ≤ MAX_ROWS → length (concat (map written_frames payloads)) < 2 ^ 64 → All IsShort (stream_files granules name payloads)
stream_short granules name payloads few short =
    let frames : List (List ℕ) = map written_frames payloads in
    let one : All (λ run. length run ≤ 1) (map (λ run. length run ∷ []) frames) = All-map (λ run. length run ≤ 1) (λ (run : List ℕ). length run ∷ []) frames (λ k d inside. omega arith) in
    All-two IsShort (file (data_name name) (concat frames)) (file (marks_name name) (written_marks_bytes 1 (map (λ run. length run ∷ []) frames) granules))
    short (marks_short 1 (map (λ run. length run ∷ []) frames) granules (omega arith) few one)

column_short : (column : Column) (k : ℕ) (rows : List Row) (granules : List ℕ) → length granules ≤ MAX_ROWS → streams_size column.ty (column_values k rows) ≤ rows_limit → All IsShort (wide_column rows granules (k, column))
column_short column k rows granules few limit =
    let streams : List (List (List ℕ)) = granule_streams rows granules k column in
    let numbered : List (ℕ × List ℕ) = enumerate_from 0 (stream_names column) in
    All-to_flat_map IsShort (λ (stream_index, name). stream_files granules name (stream_payloads stream_index streams)) numbered (λ j d inside.
    let p : ℕ × List ℕ = get_or numbered j d in
    stream_short granules p.1 (stream_payloads p.0 streams) few (omega (arith, limit, data_size column k p.0 rows granules)))

-- ---- the rows of a part

module _ (columns : List Column) (rows : List Row) (granules : List ℕ) (are : AreLaidOut columns rows granules) where
  abbrev numbered : List (ℕ × Column)
  numbered = enumerate_from 0 columns

  -- the columns of rows within the limits
  columns_within : sum_by (column_size rows) numbered ≤ rows_limit
  columns_within =
      let few_cells = are.few_cells in
      let each : All (λ p. column_size rows p ≤ cell_limit * cells_in rows p) numbered =
      All-weaker (λ (k, column). ColumnHolds column k rows) (λ p. column_size rows p ≤ cell_limit * cells_in rows p) (λ p holds. column_within p.1 p.0 rows holds) numbered (columns_hold columns rows are.types are.fit) in
      omega (arith, few_cells, sum_by-times (column_size rows) (cells_in rows) cell_limit numbered each, columns_cells columns rows)

  -- their granules
  granules_within : length granules ≤ MAX_ROWS
  granules_within = let few_rows = are.few_rows in omega (arith, few_granules granules rows are.cut, few_rows)

  -- and the columns
  narrow : length columns ≤ MAX_CELLS
  narrow =
      let few_cells = are.few_cells in
      omega (arith, few_cells, mul-le-mul_right (length columns) are.not_empty)

  pub wide_short : AreShort (wide_files columns rows granules)
  wide_short =
      All-to_flat_map IsShort (wide_column rows granules) numbered
      (All-weaker (λ p. column_size rows p ≤ rows_limit) (λ p. All IsShort (wide_column rows granules p)) (λ p limit. column_short p.1 p.0 rows granules granules_within limit) numbered
      (sum_by-each (column_size rows) rows_limit numbered columns_within))

  -- ---- Compact files

  -- the frames of a granule have at most 26 bytes for each byte of its columns
  granule_size : (rows : List Row) → length (concat (compact_frames columns rows)) ≤ 26 * payload_size columns rows
  granule_size rows = framed_runs_size (λ ((k, column) : ℕ × Column). written_streams column.ty (column_values k rows)) numbered

  pub compact_short : AreShort (compact_files columns rows granules)
  compact_short =
      let parts : List (List Row) = granule_rows granules rows in
      let frames : List (List (List ℕ)) = map (compact_frames columns) parts in
      let all = framed_granules_size (payload_size columns) (columns_size-append 0 columns) (λ granule. concat (compact_frames columns granule)) granule_size granules rows in
      let short : length (concat (map concat frames)) < 2 ^ 64 = omega (arith, all, ap length (data_is columns parts), sum-map (column_size rows) numbered, columns_within) in
      All-two IsShort (file compact_data_name (concat (map concat frames))) (file compact_marks_name (written_marks_bytes (length columns) (map (map length) frames) granules))
      short (marks_short (length columns) (map (map length) frames) granules narrow granules_within (runs_few columns parts))
