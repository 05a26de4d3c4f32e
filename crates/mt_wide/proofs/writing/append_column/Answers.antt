use Rattle.std.proofs.Common.{◌∙◌}
use Rattle.mt_wide.proofs.StreamLemmas.{column_appended, streams_count}
use Rattle.mt_wide.proofs.writing.append_column.Goals as goal

pub append_streams-requires : goal.append_streams-requires
append_streams-requires c = streams_count c.args.rows.now c.args.granules.now c.args.column_index c.args.column.now c.deref.result.now (c.deref.ensures.value ∙ c.in_ok-streams.ensures)

pub returns : goal.returns
returns c =
    column_appended c.args.rows.now c.args.granules.now c.args.column_index c.args.column.now c.as_slice.result.now c.deref.result.now _ _ (c.as_slice.ensures ∙ c.in_ok-names.ensures) (c.deref.ensures.value ∙ c.in_ok-streams.ensures) c.in_ok-append_streams.ensures
