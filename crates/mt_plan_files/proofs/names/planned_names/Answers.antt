use Rattle.std.proofs.Common.{List, sym, subst}
use Rattle.std.specs.Prelude.{All, IsTrue}
use Rattle.mt_types.specs.Profile.{is_profile}
use Rattle.mt_table.specs.declared.column.Column.{Column}
use Rattle.mt_meta.proofs.DefinitionLemmas.{base_is}
use Rattle.mt_files.proofs.TableLemmas.{partition_checked}
use Rattle.mt_plan_files.proofs.names.planned_names.Goals as goal

pub granules_name-requires-clause-profile : goal.granules_name-requires-clause-profile
granules_name-requires-clause-profile c = subst (All (λ (column : Column). IsTrue (is_profile column.ty))) (sym c.as_slice.ensures) (base_is c.args.table.now).columns.profile

pub push_bounds-requires : goal.push_bounds-requires
push_bounds-requires c = partition_checked c.args.table.now
