use Rattle.std.proofs.Common.{ap}
use Rattle.mt_phrases.specs.declared.selection.Selection.TheVariants.{Of}
use Rattle.mt_table_names.specs.Sentence.{item_column, max_column, min_column, sum_column}
use Rattle.mt_table_names.proofs.SentenceLemmas.{gains, stays}
use Rattle.mt_table_names.proofs.sentence.ItemNames.push_aggregate.Goals as goal

pub returns-in_ok-push-in-Sum : goal.returns-in_ok-push-in-Sum
returns-in_ok-push-in-Sum c = λ before are. record {
  plain = stays item_column _ before (Of c.args.agg c.args.name.now) (ap (λ agg. item_column (Of agg c.args.name.now)) c.in-Sum.is) are.plain;
  sums = gains sum_column _ _ before (Of c.args.agg c.args.name.now) c.args.name.now _ c.in_ok-push-in-Sum.ensures.ok c.in_ok-of_bytes-in-Sum.ensures (ap (λ agg. sum_column (Of agg c.args.name.now)) c.in-Sum.is) are.sums;
  mins = stays min_column _ before (Of c.args.agg c.args.name.now) (ap (λ agg. min_column (Of agg c.args.name.now)) c.in-Sum.is) are.mins;
  maxs = stays max_column _ before (Of c.args.agg c.args.name.now) (ap (λ agg. max_column (Of agg c.args.name.now)) c.in-Sum.is) are.maxs;
}

pub returns-in_ok-push-in-Min : goal.returns-in_ok-push-in-Min
returns-in_ok-push-in-Min c = λ before are. record {
  plain = stays item_column _ before (Of c.args.agg c.args.name.now) (ap (λ agg. item_column (Of agg c.args.name.now)) c.in-Min.is) are.plain;
  sums = stays sum_column _ before (Of c.args.agg c.args.name.now) (ap (λ agg. sum_column (Of agg c.args.name.now)) c.in-Min.is) are.sums;
  mins = gains min_column _ _ before (Of c.args.agg c.args.name.now) c.args.name.now _ c.in_ok-push-in-Min.ensures.ok c.in_ok-of_bytes-in-Min.ensures (ap (λ agg. min_column (Of agg c.args.name.now)) c.in-Min.is) are.mins;
  maxs = stays max_column _ before (Of c.args.agg c.args.name.now) (ap (λ agg. max_column (Of agg c.args.name.now)) c.in-Min.is) are.maxs;
}

pub returns-in_ok-push-in-Max : goal.returns-in_ok-push-in-Max
returns-in_ok-push-in-Max c = λ before are. record {
  plain = stays item_column _ before (Of c.args.agg c.args.name.now) (ap (λ agg. item_column (Of agg c.args.name.now)) c.in-Max.is) are.plain;
  sums = stays sum_column _ before (Of c.args.agg c.args.name.now) (ap (λ agg. sum_column (Of agg c.args.name.now)) c.in-Max.is) are.sums;
  mins = stays min_column _ before (Of c.args.agg c.args.name.now) (ap (λ agg. min_column (Of agg c.args.name.now)) c.in-Max.is) are.mins;
  maxs = gains max_column _ _ before (Of c.args.agg c.args.name.now) c.args.name.now _ c.in_ok-push-in-Max.ensures.ok c.in_ok-of_bytes-in-Max.ensures (ap (λ agg. max_column (Of agg c.args.name.now)) c.in-Max.is) are.maxs;
}
