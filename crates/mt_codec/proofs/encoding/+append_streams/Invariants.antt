use Rattle.mt_defs.specs.FileNames.{array_levels}
use Rattle.mt_codec.proofs.encoding.+append_streams.Given as goal

abbrev pub decreases-append_streams : goal.decreases-append_streams
decreases-append_streams l = array_levels l.ty.now
