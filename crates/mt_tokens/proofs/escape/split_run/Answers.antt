use Rattle.std.proofs.lemmas.List.Sums.{prefix_len-le-length}
use Rattle.mt_tokens.proofs.TextLemmas.{is_itself}
use Rattle.mt_tokens.proofs.escape.split_run.Goals as goal

pub split_at-requires : goal.split_at-requires
split_at-requires c = rw c.run_len.ensures (prefix_len-le-length is_itself c.args.bytes.now)
