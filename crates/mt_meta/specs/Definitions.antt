-- What a part may store: the definitions of tables and of their projections, docs/FORMAT.md, "Parts" and "Projections".
use Rattle.std.specs.Prelude.{◌≤◌, List, length, All, IsTrue}
use Rattle.mt_types.specs.Profile.{is_profile}
use Rattle.mt_table.specs.declared.column.Column.{Column}
use Rattle.mt_table.specs.declared.definition.PartDef.{PartDef}
use Rattle.mt_table.specs.declared.definition.Table.{Table}
use Rattle.mt_table.specs.declared.limits.TheConstants.{MAX_COLUMNS}
use Rattle.mt_defs.specs.Projections.{inner_of}
use Rattle.mt_meta.specs.Keys.{AreKeys}

-- from 1 to 256 columns, of types of the profile
pub record AreColumns (columns : List Column) : Type 0 where
  pub some : 1 ≤ length columns
  pub few : length columns ≤ MAX_COLUMNS
  pub profile : All (λ column. IsTrue (is_profile column.ty)) columns

-- such columns, some of which each folder lists, a sort key of scalar ones, and a primary key at its beginning
pub record IsDefinition (definition : PartDef) : Type 0 where
  pub columns : AreColumns definition.columns
  pub listed : 1 ≤ length definition.must
  pub keys : AreKeys definition.columns definition.sort
  pub sorted : 1 ≤ length definition.sort
  pub primary : definition.primary ≤ length definition.sort

-- what each projection of a table stores is such a definition
abbrev pub HasProjections : Table → Type 0
HasProjections table = All (λ projection. IsDefinition (inner_of table projection)) table.projections
