use Rattle.mt_worked.proofs.ExampleLemmas.{stands}
use Rattle.mt_worked.proofs.example.worked_folder_stands.Goals as goal

pub returns : goal.returns
returns c = stands
