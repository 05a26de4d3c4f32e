use Rattle.std.proofs.Common.{map, string_bytes}
use Rattle.mt_command.proofs.DoneLemmas.{publishing_stored}
use Rattle.mt_command.proofs.RefusedLemmas.{publishing_refused}
use Rattle.mt_merging.specs.Merge.{merge_steps}
use Rattle.mt_merging.proofs.merging.merge.Goals as goal

pub store_folder-requires-clause-names : goal.store_folder-requires-clause-names
store_folder-requires-clause-names g c = rw (c.as_slice.ensures) c.in-Ok.ensures.names

pub returns-in-Err : goal.returns-in-Err
returns-in-Err g c =
    publishing_refused c.args.target.now (merge_steps c.args.path.now c.args.target.now (map string_bytes c.args.inputs.now)) c.in-Err.status _ _ _ _ _ _ _ _ c.in-Err.ensures.gives c.in-Err.ensures.files c.in-Err.ensures.cause

pub returns-in-Ok : goal.returns-in-Ok
returns-in-Ok g c =
    rw c.finished.ensures (publishing_stored c.args.target.now (merge_steps c.args.path.now c.args.target.now (map string_bytes c.args.inputs.now)) c.in-Ok.folder c.store_folder.result _ _ _ _ _ _ _ _ _ _
    c.in-Ok.ensures.gives c.in-Ok.ensures.files c.in-Ok.ensures.cause
    (rw c.as_slice.ensures at c.store_folder.ensures.stored) c.store_folder.ensures.cause)
