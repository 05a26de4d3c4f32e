use Rattle.mt_law_checked.proofs.HeldLemmas.{held_rows_are_read}
use Rattle.mt_law_checked.proofs.ReadLemmas.{read_rows_are_held}
use Rattle.mt_law_checked.proofs.law.definitions_are_read_exactly.Goals as goal

pub returns : goal.returns
returns c = λ definition folder accepted readable. (
  read_rows_are_held c.only_lists_are_read.ensures c.counts_are_read.ensures c.wide_parts_are_read_exactly.ensures c.compact_parts_are_read_exactly.ensures definition folder readable accepted,
  held_rows_are_read c.listed_columns_are_read.ensures c.counts_are_read.ensures c.wide_parts_are_read_exactly.ensures c.compact_parts_are_read_exactly.ensures definition folder readable accepted,
)
