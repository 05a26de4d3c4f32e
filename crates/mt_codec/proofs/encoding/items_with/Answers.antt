use Rattle.std.specs.Borrow.{Bor}
use Rattle.std.proofs.Common.{List}
use Rattle.mt_types.specs.declared.value.Value.{Value}
use Rattle.mt_codec.specs.Runs.{written_item, fits_or_null}
use Rattle.mt_codec.proofs.RunLemmas.{all_runs, all_of_run}
use Rattle.mt_codec.proofs.encoding.items_with.Goals as goal

pub returns : goal.returns
returns c = all_runs (written_item c.args.ty.now) (λ (run : Bor (List Value)). run.now) c.args.runs.now c.loop-run.run-index c.loop-run.bytes c.loop-run-test.false c.loop-run.invariant

pub append_items-requires-clause-fit : goal.append_items-requires-clause-fit
append_items-requires-clause-fit c =
    rw c.run-item.is (all_of_run (fits_or_null c.args.ty.now) (λ (run : Bor (List Value)). run.now) c.args.runs.now c.loop-run.run-index c.run-item.result c.loop-run-test.true c.requires.fit)
