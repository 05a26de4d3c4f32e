use Rattle.std.proofs.Common.{pos, ap, ◌∙◌, arith}
use Rattle.std.proofs.lemmas.Int.{ints}
use Rattle.jiff_core.proofs.DateLemmas.{civil}
use Rattle.mt_meta.proofs.MonthLemmas.{month_is, year_from}
use Rattle.mt_meta.proofs.Casts.{cast_year, year_is, part_is}
use Rattle.mt_meta.proofs.month.month_of.Goals as goal

pub overflow_cast-result : goal.overflow_cast-result
overflow_cast-result c =
    let number = c.in-Ok.ensures.value ∙ omega (arith, ints, c.from.ensures) in
    let year = year_from _ _ _ c.args.day (omega (arith, c.ranges.day)) (civil c.in-Ok.plain) number in
    cast_year c.year.result year.0 (c.year.ensures ∙ ap (λ d. d.year) c.from_plain-date.ensures ∙ year.1) year.2

pub returns : goal.returns
returns c =
    let d = c.in-Ok.plain in
    let number = c.in-Ok.ensures.value ∙ omega (arith, ints, c.from.ensures) in
    let found = year_from d.year d.month d.day c.args.day (omega (arith, c.ranges.day)) (civil d) number in
    let year = year_is c.year.result found.0 (c.year.ensures ∙ ap (λ d. d.year) c.from_plain-date.ensures ∙ found.1) found.2 in
    let month = part_is c.month.result d.month (c.month.ensures ∙ ap (λ d. pos d.month) c.from_plain-date.ensures) (omega (arith, d.month_in)) in
    let is = month_is c.args.day found.0 d.month d.day (omega (arith, c.ranges.day)) (rw found.1 at (civil d)) (rw found.1 at number) in
    rw (year, month, is) (omega arith)
