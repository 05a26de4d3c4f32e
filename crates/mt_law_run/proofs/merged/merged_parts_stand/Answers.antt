use Rattle.mt_law_run.proofs.MergeLemmas.{merged}
use Rattle.mt_law_run.proofs.merged.merged_parts_stand.Goals as goal

pub returns : goal.returns
returns c =
    merged c.parts_are_checked_exactly.ensures.accepted
    (record { writable = c.storable_rows_are_accepted.ensures.writable; stand = c.written_folder_stands.ensures; differ = c.written_names_differ.ensures })
