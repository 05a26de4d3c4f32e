-- What a table says, as one value: its fields without the proof that they keep the rules.
use Rattle.std.specs.Prelude.{ℕ, List}
use Rattle.mt_table.specs.declared.column.Column.{Column}
use Rattle.mt_table.specs.declared.partition.PartExpr.{PartExpr}
use Rattle.mt_table.specs.declared.skip.Skip.{Skip}
use Rattle.mt_table.specs.declared.projection.Projection.{Projection}
use Rattle.mt_table.specs.declared.settings.Settings.{Settings}

-- the fields of a table; columns are named by their places
pub record Fields : Type 0 where
  pub name : List ℕ
  pub columns : List Column
  pub partition : List PartExpr
  pub sort : List ℕ
  pub primary : ℕ
  pub skips : List Skip
  pub projections : List Projection
  pub settings : Settings

-- fields of these values
abbrev pub fields : List ℕ → List Column → List PartExpr → List ℕ → ℕ → List Skip → List Projection → Settings → Fields
fields name columns partition sort primary skips projections settings = record {
  name = name;
  columns = columns;
  partition = partition;
  sort = sort;
  primary = primary;
  skips = skips;
  projections = projections;
  settings = settings;
}
