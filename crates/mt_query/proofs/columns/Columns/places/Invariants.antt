use Rattle.std.proofs.Common.{◌≡◌, drop}
use Rattle.mt_query.specs.Lists.{all_of}
use Rattle.mt_query.specs.Columns.{place_of}
use Rattle.mt_query.proofs.ListLemmas.{with_front}
use Rattle.mt_query.proofs.columns.Columns.places.Given as goal

abbrev pub invariant-loop-name : goal.invariant-loop-name
invariant-loop-name l = with_front l.places (all_of (place_of l.self.list.now) (drop l.name-index l.names)) ≡ all_of (place_of l.self.list.now) l.names
