use Rattle.std.proofs.Common.{◌≡◌, pos, arith, refl, ap, ◌∙◌, rules, FitsSigned, to_z, w8, w16, w32}
use Rattle.std.proofs.lemmas.Int.{ints, to_z-of_z}
use Rattle.std.proofs.lemmas.Bool.{false≢true}
use Rattle.mt_calendar.specs.Dates.{day_in_type}
use Rattle.mt_calendar.proofs.Days.{no_date, a_date}
use Rattle.mt_calendar.proofs.date.number_of_day.Goals as goal

pub returns-in_default : goal.returns-in_default
returns-in_default c =
    let y : to_z w16 c.args.year ≡ pos c.args.year = omega (arith, ints, c.requires.year) in
    let m : to_z w8 c.args.month ≡ pos c.args.month = omega (arith, ints, c.requires.month) in
    let d : to_z w8 c.args.day ≡ pos c.args.day = omega (arith, ints, c.requires.day) in
    no_date c.args.year c.args.month c.args.day _ _ _ c.requires.year y m d (λ is. false≢true (c.in_default.ensures.succeeds.1 is))

pub returns : goal.returns
returns c =
    let y : to_z w16 c.args.year ≡ pos c.args.year = omega (arith, ints, c.requires.year) in
    let m : to_z w8 c.args.month ≡ pos c.args.month = omega (arith, ints, c.requires.month) in
    let d : to_z w8 c.args.day ≡ pos c.args.day = omega (arith, ints, c.requires.day) in
    let fits : FitsSigned w32 c.to_unix_epoch_day.result = search rules in
    let v = c.in-Ok.ensures.value in
    let e = c.to_unix_epoch_day.ensures.value in
    let p = c.to_plain.ensures in
    c.in_type.ensures ∙ simp to_z-of_z (ap day_in_type e ∙ rw p (a_date c.args.year c.args.month c.args.day _ _ _ c.in-Ok.date.year c.in-Ok.date.month c.in-Ok.date.day y m d (c.in-Ok.ensures.succeeds.0 refl) v.0 v.1 v.2))
