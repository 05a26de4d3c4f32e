use Rattle.mt_codec.proofs.EncodedLemmas.{written_encodes}
use Rattle.mt_codec.proofs.law.written_streams_encode_their_values.Goals as goal

pub returns : goal.returns
returns c = written_encodes
