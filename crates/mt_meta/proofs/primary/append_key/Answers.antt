use Rattle.std.proofs.Common.{get_or}
use Rattle.mt_defs.proofs.RowLemmas.{cell_fits}
use Rattle.mt_meta.proofs.primary.append_key.Goals as goal

pub append_cell-requires-clause-fits : goal.append_cell-requires-clause-fits
append_cell-requires-clause-fits c =
    cell_fits c.args.columns.now c.args.row.now (get_or c.args.keys.now c.loop-key.key-index 0) _ c.requires.fits (c.requires.keys.known c.loop-key.key-index 0 c.loop-key-test.true)
