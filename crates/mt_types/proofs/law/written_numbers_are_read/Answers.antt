use Rattle.mt_types.proofs.Leb128Lemmas.{read_leb128}
use Rattle.mt_types.proofs.law.written_numbers_are_read.Goals as goal

pub returns : goal.returns
returns c = read_leb128
