use Rattle.mt_writing.proofs.WrittenParts.{parts_stand}
use Rattle.mt_writing.proofs.law.published_folders_stand.Goals as goal

pub returns : goal.returns
returns c = parts_stand
