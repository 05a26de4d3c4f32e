use Rattle.std.proofs.Common.{◌≡◌, drop}
use Rattle.mt_query.specs.Lists.{all_of}
use Rattle.mt_query.specs.Rules.{item_of}
use Rattle.mt_query.proofs.ListLemmas.{with_front}
use Rattle.mt_query.proofs.columns.Columns.some_items.Given as goal

abbrev pub invariant-loop-selection : goal.invariant-loop-selection
invariant-loop-selection l = with_front l.items (all_of (item_of l.self.list.now) (drop l.selection-index l.selections)) ≡ all_of (item_of l.self.list.now) l.selections
