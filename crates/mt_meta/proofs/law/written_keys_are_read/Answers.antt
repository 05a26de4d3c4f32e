use Rattle.mt_meta.proofs.KeyLaw.{written_keys}
use Rattle.mt_meta.proofs.law.written_keys_are_read.Goals as goal

pub returns : goal.returns
returns c = written_keys
