use Rattle.mt_show.proofs.ShowLemmas.{listed_given, listed_refused, outside_refused}
use Rattle.mt_show.proofs.printing.listed_text.Goals as goal

pub returns-in-Err-clause-gives : goal.returns-in-Err-clause-gives
returns-in-Err-clause-gives g c = outside_refused c.args.table.now c.args.part.now c.in-Err.status _ c.in-Err.ensures.outside

pub returns-in-Err-judge_files-clause-gives : goal.returns-in-Err-judge_files-clause-gives
returns-in-Err-judge_files-clause-gives g c =
    listed_refused c.args.table.now c.args.part.now c.args.listing.now c.in-Ok.files c.in-Err-judge_files.status _ c.requires.known c.in-Ok.ensures.known c.in-Err-judge_files.ensures.gives

pub returns-in-Ok-files_text-clause-gives : goal.returns-in-Ok-files_text-clause-gives
returns-in-Ok-files_text-clause-gives g c =
    listed_given c.args.table.now c.args.part.now c.args.listing.now c.in-Ok.files c.in-Ok-judge_files.accepted c.in-Ok-files_text.text _ c.requires.known c.in-Ok.ensures.known c.in-Ok-judge_files.ensures.gives c.in-Ok-files_text.ensures
