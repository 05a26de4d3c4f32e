use Rattle.mt_cells.proofs.FitLemmas.{not_text}
use Rattle.mt_cells.proofs.items.push_text.Goals as goal

pub unreachable-requires : goal.unreachable-requires
unreachable-requires c = not_text c.args.value c.in_default.not-Text c.requires
