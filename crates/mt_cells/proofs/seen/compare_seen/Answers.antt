use Rattle.std.proofs.Common.{sym, ◌∙◌, ap₂}
use Rattle.std.specs.Ordering.{nat_cmp}
use Rattle.mt_cells.proofs.SeenLemmas.{tied, decided}
use Rattle.mt_cells.proofs.seen.compare_seen.Goals as goal

pub returns-in-Equal : goal.returns-in-Equal
returns-in-Equal c = c.compare_alike.ensures ∙ sym (tied c.args.a c.args.b c.cmp.result c.in-Equal.is (c.cmp.ensures ∙ ap₂ nat_cmp c.kind_rank.ensures c.kind_rank-2.ensures))

pub returns-in_default : goal.returns-in_default
returns-in_default c = sym (decided c.args.a c.args.b c.cmp.result c.in_default.not-Equal (c.cmp.ensures ∙ ap₂ nat_cmp c.kind_rank.ensures c.kind_rank-2.ensures))
