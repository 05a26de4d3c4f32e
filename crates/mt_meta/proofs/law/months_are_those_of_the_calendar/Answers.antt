use Rattle.mt_meta.proofs.MonthLemmas.{month_is}
use Rattle.mt_meta.proofs.law.months_are_those_of_the_calendar.Goals as goal

pub returns : goal.returns
returns c = month_is
