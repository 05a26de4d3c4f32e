use Rattle.std.proofs.Common.{sym, ◌∙◌}
use Rattle.mt_tokens.proofs.NumberLemmas.{no_number_of_none, no_number_of_others, number_of_digits}
use Rattle.mt_tokens.proofs.digits.wide_number_of.Goals as goal

pub returns-then-is_empty : goal.returns-then-is_empty
returns-then-is_empty c = no_number_of_none c.args.digits.now (sym c.is_empty.ensures ∙ c.if-is_empty.true)

pub returns-then-not-all_digits : goal.returns-then-not-all_digits
returns-then-not-all_digits c = no_number_of_others c.args.digits.now (sym c.is_empty.ensures ∙ c.if-is_empty.false) (sym c.all_digits.ensures ∙ c.if-not-all_digits.true)

pub returns : goal.returns
returns c = number_of_digits c.args.digits.now (sym c.is_empty.ensures ∙ c.if-is_empty.false) (sym c.all_digits.ensures ∙ c.if-not-all_digits.false) c.number_in.result c.number_in.ensures
