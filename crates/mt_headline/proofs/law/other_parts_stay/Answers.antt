use Rattle.std.proofs.Common.{sym, subst}
use Rattle.mt_definition.specs.declared.accepted.Accepted.{Accepted}
use Rattle.mt_command.specs.Outcomes.{Outcomes}
use Rattle.mt_headline.proofs.ApartLemmas.{file_stays, folder_stays, listing_stays, steps_stay}
use Rattle.mt_headline.proofs.law.other_parts_stay.Goals as goal

pub returns-clause-file : goal.returns-clause-file
returns-clause-file c = file_stays

pub returns-clause-folder : goal.returns-clause-folder
returns-clause-folder c target other draft files one two i name = folder_stays target other draft files one two name i

pub returns-clause-listing : goal.returns-clause-listing
returns-clause-listing c = listing_stays

pub returns-clause-steps : goal.returns-clause-steps
returns-clause-steps c table target other draft files outcome one two = (
  subst (λ (steps : Outcomes Accepted). steps outcome) (steps_stay table target other draft files one two),
  subst (λ (steps : Outcomes Accepted). steps outcome) (sym (steps_stay table target other draft files one two)),
)
