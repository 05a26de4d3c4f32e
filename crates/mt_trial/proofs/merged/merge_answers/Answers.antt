use Rattle.std.proofs.Common.{ap, map, ◌∙◌}
use Rattle.std.specs.String.{string_bytes}
use Rattle.mt_trial.proofs.MergedLemmas.{named_answered, named_refused}
use Rattle.mt_trial.proofs.merged.merge_answers.Goals as goal

pub returns-in-Err-clause-gives : goal.returns-in-Err-clause-gives
returns-in-Err-clause-gives g c = named_refused c.args.table.now (map string_bytes c.as_slice.result.now) c.in-Err.status _ (ap (map string_bytes) c.as_slice.ensures.value ∙ c.in-Ok.ensures.names) c.in-Err.ensures.gives

pub returns-in-Ok-store_folder-clause-gives : goal.returns-in-Ok-store_folder-clause-gives
returns-in-Ok-store_folder-clause-gives g c =
    named_answered c.args.table.now (map string_bytes c.as_slice.result.now) c.in-Ok-merge_parts.folder c.part_answers.result _ _ _ (ap (map string_bytes) c.as_slice.ensures.value ∙ c.in-Ok.ensures.names) c.in-Ok-merge_parts.ensures.gives c.in-Ok-merge_parts.ensures.files
    (rw c.as_slice-2.ensures at c.in-Ok-store_folder.ensures.stored) c.part_answers.ensures.gives
