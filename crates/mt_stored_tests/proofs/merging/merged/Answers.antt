use Rattle.std.proofs.Common.{refl}
use Rattle.mt_stored_tests.proofs.merging.merged.Goals as goal

pub add_stored-requires-clause-shown : goal.add_stored-requires-clause-shown
add_stored-requires-clause-shown c = rw (c.in_ok-query.ensures.cond, c.in_ok-query.ensures.keys, c.in_ok-query.ensures.items) refl
