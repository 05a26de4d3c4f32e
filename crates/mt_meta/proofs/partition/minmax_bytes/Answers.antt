use Rattle.mt_meta.proofs.PartitionLemmas.{least_fits, greatest_fits}
use Rattle.mt_meta.proofs.partition.minmax_bytes.Goals as goal

pub put_item-requires-clause-fits : goal.put_item-requires-clause-fits
put_item-requires-clause-fits c = least_fits c.args.ty.now c.args.column_index c.args.rows.now _ c.requires.fit c.minmax.ensures.least

pub put_item-requires-2-clause-fits : goal.put_item-requires-2-clause-fits
put_item-requires-2-clause-fits c = greatest_fits c.args.ty.now c.args.column_index c.args.rows.now _ c.requires.fit c.minmax.ensures.greatest
