use Rattle.mt_tokens.proofs.LongestTokens.{read_is_longest, longest_is_read}
use Rattle.mt_tokens.proofs.law.the_longest_token_is_read.Goals as goal

pub returns : goal.returns
returns c = λ text token rest. (read_is_longest text token rest, longest_is_read text token rest)
