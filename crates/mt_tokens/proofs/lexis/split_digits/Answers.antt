use Rattle.std.proofs.lemmas.List.Sums.{prefix_len-le-length}
use Rattle.std.specs.Char.{is_ascii_digit}
use Rattle.mt_tokens.proofs.lexis.split_digits.Goals as goal

pub split_at-requires : goal.split_at-requires
split_at-requires c = rw c.digits_len.ensures (prefix_len-le-length is_ascii_digit c.args.bytes.now)
