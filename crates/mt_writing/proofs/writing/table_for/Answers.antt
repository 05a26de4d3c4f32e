use Rattle.mt_writing.proofs.WriteLemmas.{target_refused}
use Rattle.mt_writing.proofs.writing.table_for.Goals as goal

pub returns-in-Err-clause-gives : goal.returns-in-Err-clause-gives
returns-in-Err-clause-gives g c =
    target_refused c.args.path.now c.args.part.now c.in_ok-table.table c.in-Err.status _ _ c.in_ok-table.ensures.gives c.in_ok-table.ensures.files c.in-Err.ensures.gives
