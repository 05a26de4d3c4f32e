use Rattle.std.proofs.Common.{◌∙◌, sym}
use Rattle.mt_shelf.specs.Paths.{is_at_or_below}
use Rattle.mt_shelf.specs.KeptPaths.{keys_any}
use Rattle.mt_shelf.proofs.Listings.{any-names}
use Rattle.mt_shelf.proofs.held.stands.Goals as goal

pub returns : goal.returns
returns c = c.any_at_or_below.ensures ∙ sym (any-names (is_at_or_below c.args.part.now) c.args.held.now) ∙ sym (keys_any (is_at_or_below c.args.part.now) c.args.held.now)
