use Rattle.std.proofs.Common.{ap}
use Rattle.mt_calendar.specs.Dates.{civil_text, date_text}
use Rattle.mt_calendar.proofs.date.date_text.Goals as goal

pub returns : goal.returns
unfolding date_text
returns c = rw (c.two_digits.ensures, c.two_digits-2.ensures, c.two_digits-3.ensures, c.two_digits-4.ensures) (ap civil_text c.civil_of-year.ensures.civil)
