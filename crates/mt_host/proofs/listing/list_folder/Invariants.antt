use Rattle.std.specs.Prelude.{◌+◌, vec_len}
use Rattle.mt_host.proofs.listing.list_folder.Given as goal

abbrev pub decreases-loop-folder : goal.decreases-loop-folder
decreases-loop-folder g l = vec_len l.walk.folders + l.walk.names
