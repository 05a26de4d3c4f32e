use Rattle.std.proofs.Common.{ap}
use Rattle.mt_shelf.specs.State.{files_of}
use Rattle.mt_command.specs.Parts.{listing_in}
use Rattle.mt_show.specs.Show as show
use Rattle.mt_show.proofs.ShowLemmas.{first_refused, then_outcome}
use Rattle.mt_show.proofs.printing.part_text.Goals as goal

pub returns-in-Err-clause-gives : goal.returns-in-Err-clause-gives
returns-in-Err-clause-gives g c = first_refused (listing_in c.args.part.now) (λ _. show.listed_text c.args.table.now c.args.part.now) c.in-Err.status _ c.in-Err.ensures.gives

pub returns-clause-gives : goal.returns-clause-gives
returns-clause-gives g c =
    then_outcome (listing_in c.args.part.now) (λ _. show.listed_text c.args.table.now c.args.part.now) c.in-Ok.listing c.listed_text.result _ _ c.in-Ok.ensures.gives (ap files_of c.in-Ok.ensures.state)
    c.listed_text.ensures.gives
