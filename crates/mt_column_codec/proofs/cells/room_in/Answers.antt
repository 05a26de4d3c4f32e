use Rattle.std.proofs.Common.{length}
use Rattle.std.proofs.Math.Nat.{div-mul-le_self}
use Rattle.mt_column_codec.proofs.FixedLemmas.{no_more_room}
use Rattle.mt_column_codec.proofs.cells.room_in.Goals as goal

pub returns-clause-have : goal.returns-clause-have
returns-clause-have c = div-mul-le_self (length c.args.bytes.now) c.args.size

pub returns-clause-no_more : goal.returns-clause-no_more
returns-clause-no_more c = no_more_room (length c.args.bytes.now) c.args.size c.requires
