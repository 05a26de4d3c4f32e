use Rattle.mt_command.proofs.FolderLemmas.{built_names}
use Rattle.mt_command.proofs.folder.sorted_folder.Goals as goal

pub returns-clause-names : goal.returns-clause-names
returns-clause-names g c = built_names c.args.table.now c.args.rows.now c.in-Ok.folder c.in-Ok.ensures
