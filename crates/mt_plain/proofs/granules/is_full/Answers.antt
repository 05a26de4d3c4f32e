use Rattle.std.proofs.Common.{refl, length, ◌∙◌}
use Rattle.mt_plain.proofs.GranuleLemmas.{full_is}
use Rattle.mt_plain.proofs.granules.is_full.Goals as goal

pub returns : goal.returns
returns c = c.fills.ensures ∙ full_is c.args.table.now c.args.rows.now (length c.args.rows.now) c.len.result _ c.requires.form refl c.len.ensures c.in_ok-payload.ensures
