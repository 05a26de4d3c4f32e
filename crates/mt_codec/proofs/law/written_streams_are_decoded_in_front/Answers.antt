use Rattle.std.proofs.Common.{refl, ◌++◌}
use Rattle.std.specs.Prelude.{length}
use Rattle.std.specs.List.{flat_map}
use Rattle.mt_defs.specs.WrittenStreams.{written_streams}
use Rattle.mt_codec.proofs.EncodedLemmas.{written_encodes}
use Rattle.mt_codec.proofs.TypeLemmas.{encoded_front}
use Rattle.mt_codec.proofs.law.written_streams_are_decoded_in_front.Goals as goal

pub returns : goal.returns
returns c = λ ty values rest profile fit.
    encoded_front ty profile (length values) (flat_map (λ s. s) (written_streams ty values) ++ rest) values (written_streams ty values) rest refl (written_encodes ty values profile fit) refl
