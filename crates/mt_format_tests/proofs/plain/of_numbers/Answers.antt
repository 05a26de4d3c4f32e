use Rattle.std.proofs.Common.{◌∙◌, sym}
use Rattle.mt_table.proofs.FormLemmas.{numbers_form}
use Rattle.mt_format_tests.proofs.plain.of_numbers.Goals as goal

pub returns-then-has_two_numbers : goal.returns-then-has_two_numbers
returns-then-has_two_numbers c = numbers_form c.args.table (sym c.has_two_numbers.ensures ∙ c.if-has_two_numbers.true)
