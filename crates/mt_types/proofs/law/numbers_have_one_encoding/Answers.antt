use Rattle.mt_types.proofs.Leb128Lemmas.{leb128_prefix_free}
use Rattle.mt_types.proofs.law.numbers_have_one_encoding.Goals as goal

pub returns : goal.returns
returns c = leb128_prefix_free
