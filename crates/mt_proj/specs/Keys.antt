-- Keys of rows.
use Rattle.std.specs.Prelude.{List, take}
use Rattle.mt_types.specs.declared.value.Value.{Value}
pub use Rattle.mt_table.specs.Stored.{columns_below, projection_at, no_projection}
use Rattle.mt_defs.specs.Rows.{Row, key_of}
use Rattle.mt_proj.specs.declared.key.Key.{Key}
use Rattle.mt_proj.specs.declared.key.Key.TheVariants.{Cells, First, Whole}

-- the key of a row
abbrev pub key_in : Key → Row → List Value
key_in (Cells columns) row = key_of columns.now row
key_in (First count) row = take count row
key_in Whole row = row
