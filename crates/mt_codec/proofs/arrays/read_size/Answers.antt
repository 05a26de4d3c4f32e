use Rattle.mt_codec.proofs.StreamLemmas.{size_short, size_read, size_long}
use Rattle.mt_item.specs.declared.fault.CodecWhy.TheVariants.{Short}
use Rattle.mt_codec.proofs.arrays.read_size.Goals as goal

pub returns-then-size : goal.returns-then-size
returns-then-size c = size_long c.args.bytes.now c.in-Some.size c.in-Some.rest.now c.in-Some.ensures.first c.if-size.true

pub returns-else-size : goal.returns-else-size
returns-else-size c = size_read c.args.bytes.now c.in-Some.size c.in-Some.rest.now c.in-Some.ensures.first c.if-size.false

pub returns-in-None : goal.returns-in-None
returns-in-None c = size_short c.args.bytes.now Short c.in-None.ensures.first
