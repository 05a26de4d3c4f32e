use Rattle.std.proofs.Common.{◌∙◌, refl, []}
use Rattle.std.proofs.lemmas.Result.{IfOk-weaker}
use Rattle.mt_shelf.specs.State.{files_of}
use Rattle.mt_files.specs.OwnNames.{base_names}
use Rattle.mt_check.proofs.ReadLemmas.{folder_known, folder_names}
use Rattle.mt_check.proofs.reading.read_base.Goals as goal

pub returns-clause-known : goal.returns-clause-known
returns-clause-known g c =
    IfOk-weaker c.read_named.result _ _
    (folder_known c.args.part.now [] [] (base_names c.args.table.now) c.args.listing.now c.in_ok-compact.compact c.as_slice.result.now (files_of (g.F.Shelf.state c.args.shelf.now)) c.requires.known c.in_ok-compact.ensures (c.as_slice.ensures.value ∙ c.in_ok-names.ensures) refl)
    c.read_named.ensures.known

pub returns-clause-names : goal.returns-clause-names
returns-clause-names g c =
    IfOk-weaker c.read_named.result _ _
    (folder_names [] [] (base_names c.args.table.now) c.args.listing.now c.in_ok-compact.compact c.as_slice.result.now c.in_ok-compact.ensures (c.as_slice.ensures.value ∙ c.in_ok-names.ensures) refl)
    c.read_named.ensures.names
