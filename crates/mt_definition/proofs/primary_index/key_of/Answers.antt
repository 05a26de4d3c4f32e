use Rattle.std.proofs.Common.{rules}
use Rattle.mt_defs.proofs.RowLemmas.{cell_fits}
use Rattle.mt_definition.proofs.primary_index.key_of.Goals as goal

pub append_cell-requires-clause-fits : goal.append_cell-requires-clause-fits
append_cell-requires-clause-fits c = search (rules, cell_fits)
