use Rattle.std.proofs.Common.{rules, arith}
use Rattle.mt_shelf.proofs.Slices.{append_twice}
use Rattle.mt_shelf.proofs.writing.write_all.Goals as goal

pub loop-at-preserved : goal.loop-at-preserved
loop-at-preserved g c = record {
  inside = omega (arith, c.in_ok-at.ensures.bound, c.rest_from.ensures.len);
  written = rw (c.in_ok-at.ensures.appends, c.rest_from.ensures.bytes, c.loop-at.invariant.written) (append_twice (g.K.Sink.written c.args.sink.now) c.args.bytes.now c.loop-at.at c.in_ok-at.field-0);
  faults = search rules;
}
