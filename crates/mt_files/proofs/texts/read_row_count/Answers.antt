use Rattle.std.proofs.Common.{◌∙◌, sym}
use Rattle.mt_files.proofs.texts.read_row_count.Goals as goal

pub returns-in-Ok-clause-some : goal.returns-in-Ok-clause-some
returns-in-Ok-clause-some c = ((c.counts_are_read.ensures c.len.result c.in-Ok.count c.in_ok-text.text.now).0 (sym c.read_count.ensures ∙ c.in-Ok.is)).some

pub returns-in-Ok-clause-rows : goal.returns-in-Ok-clause-rows
returns-in-Ok-clause-rows c = ((c.counts_are_read.ensures c.len.result c.in-Ok.count c.in_ok-text.text.now).0 (sym c.read_count.ensures ∙ c.in-Ok.is)).few_rows
