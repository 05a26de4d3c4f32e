use Rattle.std.proofs.Common.{◌∙◌, ap}
use Rattle.mt_table_names.specs.Sentence.{item_column, max_column, min_column, sum_column}
use Rattle.mt_table_names.proofs.SentenceLemmas.{gains, stays}
use Rattle.mt_table_names.proofs.sentence.ItemNames.push.Goals as goal

pub returns-in_ok-push-in-Column : goal.returns-in_ok-push-in-Column
returns-in_ok-push-in-Column c = λ before are. record {
  plain = gains item_column _ _ before c.args.item.now c.in-Column.name _ c.in_ok-push-in-Column.ensures.ok (c.in_ok-of_bytes-in-Column.ensures ∙ c.as_slice.ensures) (ap item_column c.in-Column.is) are.plain;
  sums = stays sum_column _ before c.args.item.now (ap sum_column c.in-Column.is) are.sums;
  mins = stays min_column _ before c.args.item.now (ap min_column c.in-Column.is) are.mins;
  maxs = stays max_column _ before c.args.item.now (ap max_column c.in-Column.is) are.maxs;
}

pub returns-in-Count : goal.returns-in-Count
returns-in-Count c = λ before are. record {
  plain = stays item_column _ before c.args.item.now (ap item_column c.in-Count.is) are.plain;
  sums = stays sum_column _ before c.args.item.now (ap sum_column c.in-Count.is) are.sums;
  mins = stays min_column _ before c.args.item.now (ap min_column c.in-Count.is) are.mins;
  maxs = stays max_column _ before c.args.item.now (ap max_column c.in-Count.is) are.maxs;
}
