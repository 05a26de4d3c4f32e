use Rattle.std.proofs.Common.{pos, ap, ◌∙◌, arith, refl}
use Rattle.std.proofs.lemmas.Int.{ints}
use Rattle.jiff_core.proofs.CalendarLemmas.{days_in_month_bounds}
use Rattle.mt_calendar.specs.Dates.{civil_of}
use Rattle.mt_calendar.proofs.Walk.{civil_is}
use Rattle.mt_calendar.proofs.Casts.{cast_year, year_is, part_is}
use Rattle.mt_calendar.proofs.date.civil_of.Goals as goal

pub overflow_cast-result : goal.overflow_cast-result
overflow_cast-result c =
    let i = civil_is c.in-Ok.plain c.args.day (omega (arith, c.ranges.day)) (c.in-Ok.ensures.value ∙ omega (arith, ints, c.from.ensures)) in
    cast_year c.year.result (civil_of c.args.day).0 (c.year.ensures ∙ ap (λ d. d.year) c.from_plain-date.ensures ∙ i.0) i.3

pub returns-clause-civil : goal.returns-clause-civil
returns-clause-civil c =
    let i = civil_is c.in-Ok.plain c.args.day (omega (arith, c.ranges.day)) (c.in-Ok.ensures.value ∙ omega (arith, ints, c.from.ensures)) in
    let year = year_is c.year.result (civil_of c.args.day).0 (c.year.ensures ∙ ap (λ d. d.year) c.from_plain-date.ensures ∙ i.0) i.3 in
    let month = part_is c.month.result c.in-Ok.plain.month (c.month.ensures ∙ ap (λ d. pos d.month) c.from_plain-date.ensures) (omega (arith, c.in-Ok.plain.month_in)) in
    let bounds = days_in_month_bounds c.in-Ok.plain.year c.in-Ok.plain.month in
    let day = part_is c.day.result c.in-Ok.plain.day (c.day.ensures ∙ ap (λ d. pos d.day) c.from_plain-date.ensures) (omega (arith, c.in-Ok.plain.day_in, bounds)) in
    rw (year, month, day, i.1, i.2) refl
