use Rattle.std.proofs.Common.{length, sym, subst, ◌≤◌}
use Rattle.mt_table.specs.declared.definition.PartDef.{PartDef}
use Rattle.mt_table.specs.declared.limits.TheConstants.{MAX_COLUMNS}
use Rattle.mt_meta.proofs.DefinitionLemmas.{base_is}
use Rattle.mt_show.proofs.shape.column_order.Goals as goal

pub read_order-requires : goal.read_order-requires
read_order-requires c = subst (λ (definition : PartDef). length definition.columns ≤ MAX_COLUMNS) (sym c.in_ok-definition.ensures) (base_is c.args.table.now).columns.few
