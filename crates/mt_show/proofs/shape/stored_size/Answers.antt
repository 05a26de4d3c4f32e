use Rattle.std.proofs.Common.{sym, subst}
use Rattle.mt_table.specs.Stored.{no_projection}
use Rattle.mt_meta.specs.Definitions.{IsDefinition}
use Rattle.mt_meta.proofs.InnerLemmas.{projections_are}
use Rattle.mt_show.proofs.shape.stored_size.Goals as goal

pub read_definition-requires : goal.read_definition-requires
read_definition-requires c = subst IsDefinition (sym c.in_ok-definition.ensures) (projections_are c.args.table.now c.args.place no_projection c.requires)
