use Rattle.mt_command.specs.Tables.{table_in}
use Rattle.mt_show.specs.Show as show
use Rattle.mt_show.proofs.ShowLemmas.{first_refused, then_outcome}
use Rattle.mt_show.proofs.printing.table_part_text.Goals as goal

pub returns-in-Err-clause-gives : goal.returns-in-Err-clause-gives
returns-in-Err-clause-gives g c = first_refused (table_in c.args.path.now) (λ table. show.part_text table c.args.part.now) c.in-Err.status _ c.in-Err.ensures.gives

pub returns-clause-gives : goal.returns-clause-gives
returns-clause-gives g c =
    then_outcome (table_in c.args.path.now) (λ table. show.part_text table c.args.part.now) c.in-Ok.table c.part_text.result _ _ c.in-Ok.ensures.gives c.in-Ok.ensures.files c.part_text.ensures.gives
