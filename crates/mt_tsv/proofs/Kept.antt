-- What a list begins with stays while more is appended.
use Rattle.std.proofs.Common.{◌≡◌, ℕ, List, ◌++◌, length, take}
use Rattle.mt_facts.proofs.Lists.{prefix_stays}

pub kept_more : (old new part next : List ℕ) → take (length old) new ≡ old → next ≡ new ++ part → take (length old) next ≡ old
kept_more old new part next kept is = rw is (prefix_stays old new part kept)
