use Rattle.std.proofs.Common.{◌∙◌}
use Rattle.mt_defs.specs.WrittenColumns.{wide_column}
use Rattle.mt_granules.proofs.CellLemmas.{column_values_fit}
use Rattle.mt_granules.proofs.NumberedLemmas.{numbered_step, numbered_end}
use Rattle.mt_wide.proofs.StreamLemmas.{from_none}
use Rattle.mt_wide.proofs.writing.write_wide.Goals as goal

pub append_column-requires-clause-values : goal.append_column-requires-clause-values
append_column-requires-clause-values c =
    column_values_fit c.args.columns.now c.args.rows.now c.loop-column_index.column_index c.index-columns-column_index.result c.loop-column_index-test.true c.index-columns-column_index.is c.requires.fit

pub loop-column_index-preserved : goal.loop-column_index-preserved
loop-column_index-preserved c =
    numbered_step (wide_column c.args.rows.now c.args.granules.now) _ _ _ c.args.columns.now c.loop-column_index.column_index c.index-columns-column_index.result c.loop-column_index-test.true
    c.index-columns-column_index.is c.loop-column_index.invariant c.in_ok-append_column.ensures

pub returns : goal.returns
returns c =
    c.of.ensures ∙ from_none _ _ _ c.new-files.ensures.items
    (numbered_end (wide_column c.args.rows.now c.args.granules.now) _ _ c.args.columns.now c.loop-column_index.column_index c.loop-column_index-test.false c.loop-column_index.invariant)
