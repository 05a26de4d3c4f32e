use Rattle.std.proofs.Common.{◌∙◌, sym, arith, Result, Ok, ap, ℕ}
use Rattle.std.proofs.lemmas.Str.Parse.{digits_value_short}
use Rattle.mt_facts.proofs.Digits.{decimal_model}
use Rattle.mt_tsv.specs.declared.fault.RowWhy.{RowWhy}
use Rattle.mt_tsv.proofs.Magnitudes.{some_digits, no_digits, empty, some_text, first_is_other, rest_decides, none_left}
use Rattle.mt_tsv.proofs.digits.read_magnitude.Goals as goal

pub returns-then-is_empty : goal.returns-then-is_empty
returns-then-is_empty c = sym (empty c.args.text.now (sym c.is_empty.ensures ∙ c.if-is_empty.true))

pub returns-in_default : goal.returns-in_default
returns-in_default c =
    sym (some_text c.args.text.now (sym c.is_empty.ensures ∙ c.if-is_empty.false)
    ∙ first_is_other 0 _ _ _ _ c.split_at.ensures.front c.split_at.ensures.back (no_digits _ _ c.in_default.ensures))

pub returns-then-is_empty-2 : goal.returns-then-is_empty-2
returns-then-is_empty-2 c =
    let short = some_digits _ _ _ c.in-Some.ensures in
    let small = digits_value_short decimal_model c.split_at.result.0.now 19 short.0 (omega (arith, c.split_at.ensures.front_len, c.min.ensures)) in
    sym (some_text c.args.text.now (sym c.is_empty.ensures ∙ c.if-is_empty.false)
    ∙ rest_decides 0 _ _ _ _ c.split_at.ensures.front c.split_at.ensures.back c.in-Some.number short.1 short.0
    ∙ none_left c.in-Some.number _ (sym c.is_empty-2.ensures ∙ c.if-is_empty-2.true) (omega (arith, short.1, small))
    ∙ ap (λ (n : ℕ). let r : Result ℕ RowWhy = Ok n in r) (sym c.from.ensures))

pub returns : goal.returns
returns c =
    let short = some_digits _ _ _ c.in-Some.ensures in
    c.read_magnitude_after.ensures
    ∙ sym (some_text c.args.text.now (sym c.is_empty.ensures ∙ c.if-is_empty.false)
    ∙ rest_decides 0 _ _ _ _ c.split_at.ensures.front c.split_at.ensures.back c.in-Some.number short.1 short.0)
