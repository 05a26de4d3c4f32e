use Rattle.std.proofs.Common.{◌≡◌, ◌∙◌, List, ap, sym, subst}
use Rattle.std.specs.Prelude.{Option, Some, option_map}
use Rattle.mt_fault.specs.declared.file.FileBytes.{FileBytes}
use Rattle.mt_fault.specs.Results.{Gives}
use Rattle.mt_table.specs.Stored.{projection_at}
use Rattle.mt_defs.specs.Folder.{Folder, folder_of}
use Rattle.mt_check.specs.FolderChecks.{projection_checks}
use Rattle.mt_check.proofs.projection.check_projection.Goals as goal

pub returns-in-Some : goal.returns-in-Some
returns-in-Some c =
    let there : option_map folder_of c.args.files.now ≡ Some (folder_of c.as_slice.result.now) =
    ap (λ (files : Option (List FileBytes)). option_map folder_of files) c.in-Some.is ∙ ap (λ (files : List FileBytes). let o : Option Folder = Some (folder_of files) in o) (sym c.as_slice.ensures) in
    subst (λ (o : Option Folder). Gives c.check_stored.result (projection_checks c.args.table.now c.args.accepted.now (projection_at c.args.table.now c.args.place) o)) (sym there) c.check_stored.ensures
