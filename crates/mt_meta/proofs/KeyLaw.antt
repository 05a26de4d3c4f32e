-- The keys of a written primary index.
use Rattle.std.proofs.Common.{◌≡◌, ℕ, ◌+◌, ◌-◌, ◌<◌, ◌≤◌, true, List, [], ◌∷◌, ◌++◌, length, take, drop, map, refl, ap, ◌∙◌, arith}
use Rattle.std.specs.Prelude.{All, sum}
use Rattle.std.specs.List.{flat_map, list_all}
use Rattle.std.proofs.lemmas.Bool.{and_from}
use Rattle.std.proofs.lemmas.List.{length-append, length-drop, length-take, length-map}
use Rattle.std.proofs.lemmas.List.Elements.{All-head, All-tail, All-drop, All-append}
use Rattle.std.proofs.lemmas.List.Sums.{sum_by-cons}
use Rattle.mt_types.specs.Items.{item_bytes}
use Rattle.mt_table.specs.declared.column.Column.{Column}
use Rattle.mt_table.specs.declared.definition.PartDef.{PartDef}
use Rattle.mt_defs.specs.Granules.{AreGranules, granule_rows}
use Rattle.mt_defs.specs.Metadata.{column_at, no_column}
use Rattle.mt_defs.specs.PrimaryIndex.{key_bytes, index_rows, primary_index_of}
use Rattle.mt_defs.specs.Rows.{Row, RowFits, cell, key_of}
use Rattle.mt_defs.proofs.RowLemmas.{cell_fits, some_rows}
use Rattle.mt_defs.proofs.GranuleLemmas.{first_rows_hold}
use Rattle.mt_meta.specs.Keys.{AreKeys}
use Rattle.mt_meta.specs.KeyReading.{AreKeysOf, fits_key, key_items, key_types, types_of_key}
use Rattle.mt_meta.proofs.KeyReadingLemmas.{keys_taken}

items_of : (columns : List Column) (keys : List ℕ) (row : Row) → key_bytes columns keys row ≡ key_items (types_of_key columns keys) (key_of keys row)
items_of columns [] row = refl
items_of columns (i ∷ keys) row = ap (λ (t : List ℕ). item_bytes (column_at columns i).ty (cell row i) ++ t) (items_of columns keys row)

fits_by : (columns : List Column) (keys : List ℕ) (row : Row) → All (λ i. i < length columns) keys → RowFits columns row → fits_key (types_of_key columns keys) (key_of keys row) ≡ true
fits_by columns [] row known fits = refl
fits_by columns (i ∷ keys) row known fits =
    and_from _ _ (cell_fits columns row i no_column fits (All-head (λ i. i < length columns) i keys known)) (fits_by columns keys row (All-tail (λ i. i < length columns) i keys known) fits)

all_items : (columns : List Column) (keys : List ℕ) (rows : List Row) → flat_map (key_bytes columns keys) rows ≡ flat_map (key_items (types_of_key columns keys)) (map (key_of keys) rows)
all_items columns keys [] = refl
all_items columns keys (row ∷ rows) =
    ap (λ (t : List ℕ). t ++ flat_map (key_bytes columns keys) rows) (items_of columns keys row) ∙ ap (λ (t : List ℕ). key_items (types_of_key columns keys) (key_of keys row) ++ t) (all_items columns keys rows)

all_fit : (columns : List Column) (keys : List ℕ) (rows : List Row) → All (λ i. i < length columns) keys → All (RowFits columns) rows → list_all (fits_key (types_of_key columns keys)) (map (key_of keys) rows) ≡ true
all_fit columns keys [] known fit = refl
all_fit columns keys (row ∷ rows) known fit =
    and_from _ _ (fits_by columns keys row known (All-head (RowFits columns) row rows fit)) (all_fit columns keys rows known (All-tail (RowFits columns) row rows fit))

-- ---- the rows of the index

first_row_each : (granules : List ℕ) (rows : List Row) → All (λ count. 1 ≤ count) granules → sum granules ≤ length rows → length (flat_map (take 1) (granule_rows granules rows)) ≡ length granules
first_row_each [] rows some all = refl
first_row_each (count ∷ granules) rows some all =
    let one = All-head (λ (count : ℕ). 1 ≤ count) count granules some in
    let total = sum_by-cons (λ x. x) count granules in
    let left = length-drop count rows in
    let rest = first_row_each granules (drop count rows) (All-tail (λ (count : ℕ). 1 ≤ count) count granules some) (omega (arith, total, left, all)) in
    let first : length (take 1 (take count rows)) ≡ 1 = omega (arith, length-take 1 (take count rows), length-take count rows, one, total, all) in
    length-append (take 1 (take count rows)) (flat_map (take 1) (granule_rows granules (drop count rows))) ∙ omega (arith, first, rest)

pub written_keys : (definition : PartDef) (rows : List Row) (granules : List ℕ) → AreKeys definition.columns definition.sort → definition.primary ≤ length definition.sort → All (RowFits definition.columns) rows → (rows ≡ [] → ⊥) → AreGranules granules rows
    → AreKeysOf (key_types definition) (length granules + 1) (primary_index_of definition rows granules) (map (key_of (take definition.primary definition.sort)) (index_rows rows granules))
written_keys definition rows granules are few fit some cut =
    let keys = take definition.primary definition.sort in
    let known = (keys_taken definition.columns definition.sort definition.primary are).known in
    let firsts = flat_map (take 1) (granule_rows granules rows) in
    let last = drop (length rows - 1) rows in
    let inside = All-append (RowFits definition.columns) firsts last (first_rows_hold (RowFits definition.columns) granules rows fit) (All-drop (RowFits definition.columns) (length rows - 1) rows fit) in
    let many = first_row_each granules rows cut.not_empty (omega (arith, cut.all)) in
    let one = length-drop (length rows - 1) rows in
    record {
      fit = all_fit definition.columns keys (index_rows rows granules) known inside;
      many = length-map (index_rows rows granules) (key_of keys) ∙ length-append firsts last ∙ omega (arith, many, one, some_rows rows some);
      items = all_items definition.columns keys (index_rows rows granules);
    }
