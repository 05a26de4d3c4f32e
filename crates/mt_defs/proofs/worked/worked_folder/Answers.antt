use Rattle.mt_defs.proofs.Examples.{folder_is}
use Rattle.mt_defs.proofs.worked.worked_folder.Goals as goal

pub returns : goal.returns
returns c = folder_is
