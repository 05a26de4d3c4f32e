use Rattle.std.proofs.Common.{rules, ◌≡◌, true}
use Rattle.shelf_trial.proofs.same.store_files.Goals as goal

pub store-requires-clause-names : goal.store-requires-clause-names
store-requires-clause-names g c = c.have_names.ensures.found (search rules)
