use Rattle.std.proofs.Common.{arith}
use Rattle.mt_codec.proofs.NullLemmas.{nulls_short, nulls_wrong, nulls_more, nulls_end}
use Rattle.mt_codec.proofs.nulls.nulls_in.Goals as goal

pub returns-then-read-bytes-clause-reads : goal.returns-then-read-bytes-clause-reads
returns-then-read-bytes-clause-reads c =
    nulls_short c.args.stream c.args.count c.args.bytes.now c.loop-read.read c.if-read-bytes.true c.loop-read.invariant.within c.loop-read-test.true c.loop-read.invariant.comes

pub returns-then-bytes-read-gt1-clause-reads : goal.returns-then-bytes-read-gt1-clause-reads
returns-then-bytes-read-gt1-clause-reads c =
    nulls_wrong c.args.stream c.args.count c.args.bytes.now c.loop-read.read c.if-read-bytes.false c.loop-read-test.true c.if-bytes-read-gt1.true c.loop-read.invariant.comes

pub loop-read-preserved : goal.loop-read-preserved
loop-read-preserved c = record {
  comes = nulls_more c.args.count c.args.bytes.now c.loop-read.read c.if-read-bytes.false c.loop-read-test.true c.if-bytes-read-gt1.false c.loop-read.invariant.comes;
  within = omega (arith, c.if-read-bytes.false);
}

pub returns-clause-reads : goal.returns-clause-reads
returns-clause-reads c =
    nulls_end c.args.stream c.args.count c.args.bytes.now c.loop-read.read c.split_at.result.0.now c.split_at.result.1.now c.loop-read.invariant.within c.loop-read-test.false c.split_at.ensures.front c.split_at.ensures.back c.loop-read.invariant.comes
