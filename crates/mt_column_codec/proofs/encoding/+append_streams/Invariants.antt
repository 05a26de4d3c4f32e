use Rattle.std.proofs.Common.{length}
use Rattle.mt_column_codec.proofs.encoding.+append_streams.Given as goal

abbrev pub decreases-append_streams : goal.decreases-append_streams
decreases-append_streams l = length l.levels.now
