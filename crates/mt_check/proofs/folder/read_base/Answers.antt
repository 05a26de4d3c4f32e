use Rattle.std.proofs.Common.{sym, subst}
use Rattle.mt_meta.specs.Definitions.{IsDefinition}
use Rattle.mt_meta.proofs.DefinitionLemmas.{base_is}
use Rattle.mt_check.proofs.folder.read_base.Goals as goal

pub read_definition-requires : goal.read_definition-requires
read_definition-requires c = subst IsDefinition (sym c.in-Ok.ensures) (base_is c.args.table.now)
