use Rattle.mt_cells.proofs.FitLemmas.{not_state}
use Rattle.mt_cells.proofs.items.push_state.Goals as goal

pub unreachable-requires : goal.unreachable-requires
unreachable-requires c = not_state c.args.value c.in_default.not-State c.requires
