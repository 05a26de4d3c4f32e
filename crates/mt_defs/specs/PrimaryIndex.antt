-- primary.idx, the sparse primary index: docs/FORMAT.md, "Primary index" (ClickHouse: IMergeTreeDataPart::loadIndex).
use Rattle.std.specs.Prelude.{ℕ, ◌-◌, List, ◌++◌, length, take, drop, codes}
use Rattle.std.specs.List.{flat_map}
use Rattle.mt_types.specs.Items.{item_bytes}
use Rattle.mt_table.specs.declared.column.Column.{Column}
use Rattle.mt_table.specs.declared.definition.PartDef.{PartDef}
use Rattle.mt_defs.specs.Rows.{Row, cell}
use Rattle.mt_defs.specs.Granules.{granule_rows}
use Rattle.mt_defs.specs.Metadata.{column_at}

-- the file of the primary index
abbrev pub index_name : List ℕ
index_name = codes "primary.idx"

-- a row's values of some columns, one item after another
abbrev pub key_bytes : List Column → List ℕ → Row → List ℕ
key_bytes columns column_indexes row = flat_map (λ i. item_bytes (column_at columns i).ty (cell row i)) column_indexes

-- the first row of each granule, and then the last row
abbrev pub index_rows : List Row → List ℕ → List Row
index_rows rows granules = flat_map (take 1) (granule_rows granules rows) ++ drop (length rows - 1) rows

-- the primary key values of these rows
abbrev pub primary_index_of : PartDef → List Row → List ℕ → List ℕ
primary_index_of definition rows granules =
    flat_map (key_bytes definition.columns (take definition.primary definition.sort)) (index_rows rows granules)
