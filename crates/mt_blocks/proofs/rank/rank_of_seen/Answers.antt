use Rattle.std.proofs.Common.{◌∙◌}
use Rattle.mt_blocks.proofs.SeenLemmas.{seen_ranked}
use Rattle.mt_blocks.proofs.rank.rank_of_seen.Goals as goal

pub returns : goal.returns
returns c = c.rank_of.ensures ∙ seen_ranked c.args.scale c.args.seen
