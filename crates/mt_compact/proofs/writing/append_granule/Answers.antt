use Rattle.mt_granules.proofs.CellLemmas.{column_values_fit}
use Rattle.mt_compact.proofs.WrittenLemmas.{frames_step, frames_end}
use Rattle.mt_compact.proofs.writing.append_granule.Goals as goal

pub column_payload-requires-clause-values : goal.column_payload-requires-clause-values
column_payload-requires-clause-values c =
    column_values_fit c.args.columns.now c.args.rows.now c.loop-column_index.column_index c.index-columns-column_index.result c.loop-column_index-test.true c.index-columns-column_index.is c.requires.fit

pub loop-column_index-preserved : goal.loop-column_index-preserved
loop-column_index-preserved c = λ runs is.
    frames_step c.args.rows.now c.args.columns.now c.loop-column_index.column_index c.index-columns-column_index.result runs _ _ _ _ c.loop-column_index-test.true c.index-columns-column_index.is
    c.in_ok-payload.ensures c.as_slice.ensures c.in_ok-put.ensures (c.loop-column_index.invariant runs is)

pub returns : goal.returns
returns c = λ runs is. frames_end c.args.rows.now c.args.columns.now c.loop-column_index.column_index runs _ c.loop-column_index-test.false (c.loop-column_index.invariant runs is)
