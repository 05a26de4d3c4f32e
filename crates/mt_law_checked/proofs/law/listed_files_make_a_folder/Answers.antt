use Rattle.mt_law_checked.proofs.FilesLaw.{have_names}
use Rattle.mt_law_checked.proofs.law.listed_files_make_a_folder.Goals as goal

pub returns : goal.returns
returns c = have_names
