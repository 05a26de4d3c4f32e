use Rattle.std.specs.Borrow.{Bor}
use Rattle.std.proofs.Common.{List}
use Rattle.mt_types.specs.declared.value.Value.{Value}
use Rattle.mt_codec.specs.Runs.{size_item}
use Rattle.mt_codec.proofs.RunLemmas.{all_runs}
use Rattle.mt_codec.proofs.encoding.sizes_of.Goals as goal

pub returns : goal.returns
returns c = all_runs size_item (λ (run : Bor (List Value)). run.now) c.args.runs.now c.loop-run.run-index c.loop-run.bytes c.loop-run-test.false c.loop-run.invariant
