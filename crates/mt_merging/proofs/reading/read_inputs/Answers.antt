use Rattle.std.proofs.Common.{◌+◌, ◌∷◌, drop, ap, sym, ◌∙◌}
use Rattle.std.proofs.lemmas.List.{drop_more, drop_all}
use Rattle.mt_command.specs.Steps.{Counts}
use Rattle.mt_merging.proofs.StepLemmas.{lead_end, lead_next, lead_refused}
use Rattle.mt_merging.proofs.reading.read_inputs.Goals as goal

pub returns-in-Err-clause-gives : goal.returns-in-Err-clause-gives
returns-in-Err-clause-gives g c =
    let i = c.loop-part.part-index in
    let parts = c.args.parts.now in
    let part = c.part-item.result in
    let rest = drop_more parts i part c.loop-part-test.true ∙ ap (λ r. r ∷ drop (i + 1) parts) (sym c.part-item.is) in
    lead_refused c.args.table.now _ _ c.loop-part.read _ parts (drop (i + 1) parts) part c.in-Err.status rest c.loop-part.invariant.files (rw c.as_str.ensures.value at c.in-Err.ensures.err) c.loop-part.invariant.lead

pub loop-part-preserved : goal.loop-part-preserved
loop-part-preserved g c =
    let i = c.loop-part.part-index in
    let parts = c.args.parts.now in
    let part = c.part-item.result in
    let rest = drop_more parts i part c.loop-part-test.true ∙ ap (λ r. r ∷ drop (i + 1) parts) (sym c.part-item.is) in
    record {
      files = c.in-Ok.ensures.files ∙ c.loop-part.invariant.files;
      faults = ap (λ (n : Counts). n.shelf) c.in-Ok.ensures.cause ∙ c.loop-part.invariant.faults;
      inputs = c.in-Ok.ensures.inputs;
      room = c.in-Ok.ensures.room;
      some = λ _. c.in-Ok.ensures.some;
      lead = lead_next c.args.table.now _ _ c.loop-part.read c.read_input.new.read _ parts (drop (i + 1) parts) part rest c.loop-part.invariant.files (rw c.as_str.ensures.value at c.in-Ok.ensures.ok) c.loop-part.invariant.lead;
    }

pub returns-clause-gives : goal.returns-clause-gives
returns-clause-gives g c =
    let i = c.loop-part.part-index in
    lead_end c.args.table.now _ c.loop-part.read (drop i c.args.parts.now) c.args.parts.now (drop_all i c.args.parts.now c.loop-part-test.false) c.loop-part.invariant.lead
