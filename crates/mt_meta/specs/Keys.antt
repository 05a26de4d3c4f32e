-- Key columns: docs/FORMAT.md, "Primary index".
pub use Rattle.mt_item.specs.ItemTypes.{is_scalar}
use Rattle.std.specs.Prelude.{◌≡◌, ℕ, ◌<◌, true, List, length, All}
use Rattle.mt_table.specs.declared.column.Column.{Column}
use Rattle.mt_defs.specs.Metadata.{column_at}

-- a key is of scalar columns, by their indexes
pub record AreKeys (columns : List Column) (keys : List ℕ) : Type 0 where
  pub known : All (λ i. i < length columns) keys
  pub scalar : All (λ i. is_scalar (column_at columns i).ty ≡ true) keys
