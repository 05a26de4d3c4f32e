use Rattle.std.proofs.Common.{ap, map, string_bytes}
use Rattle.mt_shelf.specs.State.{files_of}
use Rattle.mt_merging.proofs.StepLemmas.{target_tried, there_refused}
use Rattle.mt_merging.proofs.places.are_ready.Goals as goal

pub returns-in-Err-clause-gives : goal.returns-in-Err-clause-gives
returns-in-Err-clause-gives g c = there_refused c.args.target.now (map string_bytes c.args.inputs.now) c.in-Err.status _ c.in-Err.ensures.gives

pub returns-in-Ok-clause-gives : goal.returns-in-Ok-clause-gives
returns-in-Ok-clause-gives g c =
    target_tried c.args.target.now (map string_bytes c.args.inputs.now) c.free_target.result _ _ c.in-Ok.ensures.gives (ap files_of c.in-Ok.ensures.state) c.free_target.ensures.gives
