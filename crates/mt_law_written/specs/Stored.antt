-- What a stored definition keeps, whether it is a table's own or a projection's.
use Rattle.std.specs.Prelude.{◌≢◌, All, AllPairs, IsTrue}
use Rattle.std.specs.List.{list_all}
use Rattle.mt_types.specs.Profile.{is_profile}
use Rattle.mt_table.specs.declared.definition.PartDef.{PartDef}
use Rattle.mt_table.specs.Kept.{is_place}

-- the columns have different names, and types of the profile, and those that each folder has are among them
pub record IsStored (definition : PartDef) : Type 0 where
  pub names : AllPairs (λ a b. a.name ≢ b.name) definition.columns
  pub types : All (λ column. IsTrue (is_profile column.ty)) definition.columns
  pub must : IsTrue (list_all (is_place definition.columns) definition.must)
