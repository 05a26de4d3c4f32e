use Rattle.mt_law_run.proofs.InputLemmas.{known_bytes}
use Rattle.mt_law_run.proofs.WriteLemmas.{wrote}
use Rattle.mt_law_run.proofs.written.written_parts_stand.Goals as goal

pub returns : goal.returns
returns g c source path part input files old new known left shown =
    wrote (record { writable = c.storable_rows_are_accepted.ensures.writable; stand = c.written_folder_stands.ensures; differ = c.written_names_differ.ensures }) path part input files old new known left
    (known_bytes (g.S.Source.left source) input shown (g.met.S.Source.bytes source))
