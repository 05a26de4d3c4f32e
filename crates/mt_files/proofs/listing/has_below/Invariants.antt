use Rattle.std.proofs.Common.{◌≡◌, drop}
use Rattle.mt_files.specs.Listings.{has_below, entry_names}
use Rattle.mt_files.proofs.listing.has_below.Given as goal

-- what is left decides
abbrev pub invariant-loop-entry : goal.invariant-loop-entry
invariant-loop-entry l = has_below (entry_names (drop l.entry-index l.listing)) l.prefix ≡ has_below (entry_names l.listing) l.prefix
