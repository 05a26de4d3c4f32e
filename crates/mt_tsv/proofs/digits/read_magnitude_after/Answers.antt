use Rattle.std.proofs.Common.{◌∙◌, sym, arith, refl}
use Rattle.mt_tsv.proofs.Magnitudes.{some_digits, no_digits, joined_is, first_is_other, rest_is_other, rest_decides, is_number, is_large}
use Rattle.mt_tsv.proofs.digits.read_magnitude_after.Goals as goal

pub returns-in_default : goal.returns-in_default
returns-in_default c = sym (first_is_other c.args.first _ _ _ _ c.split_at.ensures.front c.split_at.ensures.back (no_digits _ _ c.in_default.ensures))

pub returns-then-not-all_digits : goal.returns-then-not-all_digits
returns-then-not-all_digits c =
    let short = some_digits _ _ _ c.in-Some.ensures in
    sym (rest_is_other c.args.first _ _ _ _ c.split_at.ensures.front c.split_at.ensures.back short.0 (sym c.all_digits.ensures ∙ c.if-not-all_digits.true))

pub returns-in-Some-number_after : goal.returns-in-Some-number_after
returns-in-Some-number_after c =
    let short = some_digits _ _ _ c.in-Some.ensures in
    let whole = joined_is c.joined.result c.args.first _ _ _ c.joined.ensures refl short.1 in
    let number = c.in-Some-number_after.ensures in
    sym (rest_decides c.args.first _ _ _ _ c.split_at.ensures.front c.split_at.ensures.back c.joined.result whole short.0
    ∙ is_number _ _ _ (sym c.all_digits.ensures ∙ c.if-not-all_digits.false) number.1 number.0)

pub returns-in-None : goal.returns-in-None
returns-in-None c =
    let short = some_digits _ _ _ c.in-Some.ensures in
    let whole = joined_is c.joined.result c.args.first _ _ _ c.joined.ensures refl short.1 in
    let large = c.in-None.ensures in
    sym (rest_decides c.args.first _ _ _ _ c.split_at.ensures.front c.split_at.ensures.back c.joined.result whole short.0
    ∙ is_large _ _ (sym c.all_digits.ensures ∙ c.if-not-all_digits.false) (omega (arith, large)))
