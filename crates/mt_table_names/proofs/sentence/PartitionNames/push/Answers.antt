use Rattle.std.proofs.Common.{◌∙◌, ap}
use Rattle.mt_table_names.specs.Sentence.{month_name, plain_name}
use Rattle.mt_table_names.proofs.SentenceLemmas.{gains, stays}
use Rattle.mt_table_names.proofs.sentence.PartitionNames.push.Goals as goal

pub returns-in_ok-push-in-Plain : goal.returns-in_ok-push-in-Plain
returns-in_ok-push-in-Plain c = λ before are. record {
  plain = gains plain_name _ _ before c.args.expression.now c.in-Plain.name _ c.in_ok-push-in-Plain.ensures.ok (c.in_ok-of_bytes-in-Plain.ensures ∙ c.as_slice.ensures) (ap plain_name c.in-Plain.is) are.plain;
  months = stays month_name _ before c.args.expression.now (ap month_name c.in-Plain.is) are.months;
}

pub returns-in_ok-push-in-Month : goal.returns-in_ok-push-in-Month
returns-in_ok-push-in-Month c = λ before are. record {
  plain = stays plain_name _ before c.args.expression.now (ap plain_name c.in-Month.is) are.plain;
  months = gains month_name _ _ before c.args.expression.now c.in-Month.name _ c.in_ok-push-in-Month.ensures.ok (c.in_ok-of_bytes-in-Month.ensures ∙ c.as_slice-in-Month.ensures) (ap month_name c.in-Month.is) are.months;
}
