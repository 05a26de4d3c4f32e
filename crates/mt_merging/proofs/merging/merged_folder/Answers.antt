use Rattle.std.proofs.Common.{map, string_bytes}
use Rattle.mt_merging.proofs.StepLemmas.{table_given, table_refused}
use Rattle.mt_merging.proofs.merging.merged_folder.Goals as goal

pub returns-in-Err-clause-gives : goal.returns-in-Err-clause-gives
returns-in-Err-clause-gives g c = table_refused c.args.path.now c.args.target.now (map string_bytes c.args.inputs.now) c.in-Err.status _ c.in-Err.ensures.gives

pub returns-in-Ok-clause-gives : goal.returns-in-Ok-clause-gives
returns-in-Ok-clause-gives g c =
    table_given c.args.path.now c.args.target.now (map string_bytes c.args.inputs.now) c.in-Ok.table c.merge_parts.result _ _ c.in-Ok.ensures.gives c.in-Ok.ensures.files c.merge_parts.ensures.gives
