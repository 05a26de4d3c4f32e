use Rattle.std.specs.Borrow.{Bor}
use Rattle.std.proofs.Common.{List}
use Rattle.mt_types.specs.declared.value.Value.{Value, out-Value}
use Rattle.mt_defs.specs.WrittenStreams.{elements_at}
use Rattle.mt_codec.specs.Runs.{values_of}
use Rattle.mt_codec.proofs.RunLemmas.{all_runs}
use Rattle.mt_codec.proofs.encoding.elements_of.Goals as goal

pub returns : goal.returns
returns c = all_runs (λ value. elements_at (out-Value value)) (λ (run : Bor (List Value)). run.now) c.args.runs.now c.loop-run.run-index (values_of c.loop-run.found.items) c.loop-run-test.false c.loop-run.invariant
