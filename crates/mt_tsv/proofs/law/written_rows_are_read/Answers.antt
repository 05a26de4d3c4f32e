use Rattle.std.proofs.lemmas.List.Elements.{recursion_from_All}
use Rattle.mt_tsv.proofs.WrittenRows.{rows_text_again}
use Rattle.mt_tsv.proofs.law.written_rows_are_read.Goals as goal

pub returns : goal.returns
returns c = λ columns rows some types all within cells. rows_text_again columns rows some (recursion_from_All _ columns types) (recursion_from_All _ rows all) within cells
