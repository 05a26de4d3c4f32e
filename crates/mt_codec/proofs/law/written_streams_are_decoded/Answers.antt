use Rattle.std.proofs.Common.{refl}
use Rattle.mt_defs.specs.WrittenStreams.{written_streams}
use Rattle.std.specs.Prelude.{length}
use Rattle.mt_codec.proofs.EncodedLemmas.{written_encodes}
use Rattle.mt_codec.proofs.TypeLemmas.{encoded_decodes}
use Rattle.mt_codec.proofs.law.written_streams_are_decoded.Goals as goal

pub returns : goal.returns
returns c = λ ty values profile fit. encoded_decodes ty profile (length values) (written_streams ty values) values refl (written_encodes ty values profile fit)
