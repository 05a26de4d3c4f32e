use Rattle.mt_writing.proofs.WriteLemmas.{folder_stored, input_refused}
use Rattle.mt_writing.proofs.writing.write_steps.Goals as goal

pub store_folder-requires-clause-names : goal.store_folder-requires-clause-names
store_folder-requires-clause-names g c = rw (c.as_slice.ensures) c.in-Ok.ensures.names

pub returns-clause-meets : goal.returns-clause-meets
returns-clause-meets g c =
    folder_stored c.args.path.now c.args.part.now c.in_ok-table.table c.in-Ok.folder c.store_folder.result
    _ _ _ _ _ _ _ _ _ _ _ _
    c.in_ok-table.ensures.gives c.in_ok-table.ensures.files c.in-Ok.ensures.gives c.in-Ok.ensures.ended
    (rw c.as_slice.ensures at c.store_folder.ensures.stored)

pub returns-in-Err-clause-meets : goal.returns-in-Err-clause-meets
returns-in-Err-clause-meets g c =
    input_refused c.args.path.now c.args.part.now c.in_ok-table.table c.in-Err.status _ _ _ _ _ _ _ _ _ _ _ _ _
    c.in_ok-table.ensures.gives c.in_ok-table.ensures.files c.in-Err.ensures.gives c.in-Err.ensures.cause
