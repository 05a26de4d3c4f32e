use Rattle.std.proofs.Common.{map, string_bytes}
use Rattle.mt_merging.proofs.StepLemmas.{inputs_refused}
use Rattle.mt_merging.proofs.merging.merge_parts.Goals as goal

pub returns-in-Err-read_inputs-clause-gives : goal.returns-in-Err-read_inputs-clause-gives
returns-in-Err-read_inputs-clause-gives g c =
    inputs_refused c.args.table.now c.args.target.now (map string_bytes c.args.inputs.now) c.in-Err-read_inputs.status _ _ c.in-Ok.ensures.gives c.in-Ok.ensures.files c.in-Err-read_inputs.ensures.gives
