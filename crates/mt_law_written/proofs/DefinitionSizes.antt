-- The sizes of the files of a definition's rows.
use Rattle.std.proofs.Common.{◌≡◌, ◌≢◌, ℕ, ◌+◌, ◌-◌, ◌*◌, ◌≤◌, Bool, true, false, List, [], ◌∷◌, length, take, drop, refl, arith, length-append, length-drop, length-take}
use Rattle.std.specs.Prelude.{All, if◌then◌else◌}
use Rattle.std.specs.List.{flat_map}
use Rattle.std.specs.Fmt.{decimal}
use Rattle.std.proofs.Math.Nat.{mul-le-mul_left}
use Rattle.std.proofs.lemmas.List.Elements.{All-append, All-drop}
use Rattle.std.proofs.lemmas.List.Sums.{sum_by-append}
use Rattle.mt_fault.specs.declared.file.FileBytes.{FileBytes}
use Rattle.mt_table.specs.declared.column.Column.{Column}
use Rattle.mt_table.specs.declared.definition.PartDef.{PartDef}
use Rattle.mt_table.specs.declared.settings.Settings.{Settings}
use Rattle.mt_defs.specs.Granules.{granule_rows}
use Rattle.mt_defs.specs.Metadata.{columns_name, columns_text, count_name}
use Rattle.mt_defs.specs.PrimaryIndex.{index_name, index_rows, key_bytes, primary_index_of}
use Rattle.mt_defs.specs.Rows.{Row}
use Rattle.mt_defs.specs.Writer.{definition_files, files_with}
use Rattle.mt_defs.specs.WrittenColumns.{compact_files, file, wide_files}
use Rattle.mt_defs.specs.WrittenGranules.{is_small, written_granules}
use Rattle.mt_defs.proofs.GranuleLemmas.{first_rows_hold}
use Rattle.mt_law_written.specs.Sizes.{HaveWidths, columns_limit, definition_limit, files_size}
use Rattle.mt_law_written.proofs.ColumnSizes.{AreSmall, wide_size}
use Rattle.mt_law_written.proofs.CompactSizes.{compact_size}
use Rattle.mt_law_written.proofs.GranuleSizes.{granules_few}
use Rattle.mt_law_written.proofs.SumLemmas.{runs_size}

-- ---- the primary index

-- the first row of each granule
firsts_few : (granules : List ℕ) (rows : List Row) → length (flat_map (take 1) (granule_rows granules rows)) ≤ length granules
firsts_few [] rows = omega arith
firsts_few (count ∷ granules) rows =
    let rest = firsts_few granules (drop count rows) in
    let all = length-append (take 1 (take count rows)) (flat_map (take 1) (granule_rows granules (drop count rows))) in
    omega (arith, rest, all, length-take 1 (take count rows))

-- rows whose primary keys have at most so many bytes
abbrev pub HaveKeys : PartDef → ℕ → List Row → Type 0
HaveKeys definition key rows = All (λ row. length (key_bytes definition.columns (take definition.primary definition.sort) row) ≤ key) rows

pub index_size : (definition : PartDef) (rows : List Row) (granules : List ℕ) (key : ℕ) → length granules ≤ length rows → HaveKeys definition key rows → length (primary_index_of definition rows granules) ≤ key * (length rows + 1)
index_size definition rows granules key few has =
    let bytes_of : Row → List ℕ = key_bytes definition.columns (take definition.primary definition.sort) in
    let Fits : Row → Type 0 = λ row. length (bytes_of row) ≤ key in
    let firsts = flat_map (take 1) (granule_rows granules rows) in
    let last = drop (length rows - 1) rows in
    let each : All Fits (index_rows rows granules) = All-append Fits firsts last (first_rows_hold Fits granules rows has) (All-drop Fits (length rows - 1) rows has) in
    let count : length (index_rows rows granules) ≤ length rows + 1 = omega (arith, few, firsts_few granules rows, length-drop (length rows - 1) rows, length-append firsts last) in
    omega (arith, runs_size bytes_of key (index_rows rows granules) each, mul-le-mul_left key count)

-- ---- all files

some_column : (columns : List Column) → columns ≢ [] → 1 ≤ length columns
some_column [] some = absurd (some refl)
some_column (column ∷ columns) some = omega arith

data_size : (columns : List Column) (rows : List Row) (granules : List ℕ) (compact : Bool) (widths : List ℕ) → length granules ≤ length rows → columns ≢ [] → AreSmall widths → HaveWidths columns widths rows
    → files_size (if compact then compact_files columns rows granules else wide_files columns rows granules) ≤ columns_limit widths (length rows)
data_size columns rows granules true widths few some small has = compact_size columns widths rows granules (some_column columns some) few small has.flat has.one_each has.within
data_size columns rows granules false widths few some small has = wide_size columns widths rows granules few small has.flat has.one_each has.within

files_size_with : (definition : PartDef) (rows : List Row) (granules : List ℕ) (compact : Bool) (widths : List ℕ) (key : ℕ) → length granules ≤ length rows → definition.columns ≢ [] → AreSmall widths → HaveWidths definition.columns widths rows
    → HaveKeys definition key rows → files_size (files_with definition rows granules compact) ≤ definition_limit definition widths key (length rows)
files_size_with definition rows granules compact widths key few some small has keys =
    let columns : List Column = definition.columns in
    let index : List ℕ = primary_index_of definition rows granules in
    let listing : List FileBytes = file columns_name (columns_text columns) ∷ file count_name (decimal (length rows)) ∷ file index_name index ∷ [] in
    let content : List FileBytes = if compact then compact_files columns rows granules else wide_files columns rows granules in
    let size : files_size content ≤ columns_limit widths (length rows) = data_size columns rows granules compact widths few some small has in
    let listed : files_size listing ≡ length (columns_text columns) + length (decimal (length rows)) + length index = omega arith in
    let all : files_size (files_with definition rows granules compact) ≡ files_size listing + files_size content = sum_by-append (λ (file : FileBytes). length file.bytes) listing content in
    omega (arith, size, listed, all, index_size definition rows granules key few keys)

pub definition_size : (settings : Settings) (definition : PartDef) (rows : List Row) (widths : List ℕ) (key : ℕ) → definition.columns ≢ [] → AreSmall widths → HaveWidths definition.columns widths rows → HaveKeys definition key rows
    → files_size (definition_files settings definition rows) ≤ definition_limit definition widths key (length rows)
definition_size settings definition rows widths key =
    files_size_with definition rows (written_granules settings definition.columns rows) (is_small settings definition.columns rows) widths key (granules_few settings definition.columns rows)
