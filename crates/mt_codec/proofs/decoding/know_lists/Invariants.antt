use Rattle.std.proofs.Common.{ℕ, ◌<◌, [], get_or}
use Rattle.mt_codec.specs.Results.{bytes_of}
use Rattle.mt_codec.proofs.decoding.know_lists.Given as goal

abbrev pub invariant-loop-stream : goal.invariant-loop-stream
invariant-loop-stream l = (k j : ℕ) → k < l.stream-index → get_or (get_or (bytes_of l.streams) k []) j 0 < 256
