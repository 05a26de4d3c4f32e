use Rattle.mt_wide.proofs.ReadingLemmas.{slices_long}
use Rattle.mt_wide.proofs.column.read_granule.Goals as goal

pub decode-requires-clause-each : goal.decode-requires-clause-each
decode-requires-clause-each c =
    slices_long c.args.column.now c.args.names.now c.args.streams.now c.args.granule c.in_ok-payloads.payloads.items c.deref.result.now c.in_ok-slices.slices.items c.deref-2.result.now c.requires.named c.requires.complete c.in_ok-payloads.ensures
    c.deref.ensures.value c.in_ok-slices.ensures c.deref-2.ensures.value
