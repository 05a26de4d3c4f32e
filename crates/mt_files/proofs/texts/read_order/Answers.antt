use Rattle.mt_files.proofs.TextLemmas.{order_listed}
use Rattle.mt_files.proofs.texts.read_order.Goals as goal

pub returns-clause-listed : goal.returns-clause-listed
returns-clause-listed c =
    order_listed c.args.definition.now.columns c.as_slice.result.now c.args.definition.now.must c.as_slice-2.result.now c.in_ok-text.text.now c.read_columns.result c.as_slice.ensures c.as_slice-2.ensures
    c.read_columns.ensures c.only_lists_are_read.ensures
