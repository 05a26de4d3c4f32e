use Rattle.std.proofs.Common.{ap}
use Rattle.std.proofs.lemmas.Result.{on_ok_weaker}
use Rattle.mt_cells.specs.Items.{items_in, kind_in}
use Rattle.mt_cells.specs.Seen.{value_seen}
use Rattle.mt_columns.specs.Leaves.{Leaved}
use Rattle.mt_columns.proofs.LeafLemmas.{kept_has, pushed_values}
use Rattle.mt_columns.proofs.leaf.Leaf.push.Goals as goal

pub invariant_of-self-in-Some : goal.invariant_of-self-in-Some
invariant_of-self-in-Some c =
    kept_has (kind_in c.self.inside.items) (kind_in c.push_both.new.items) c.self.inside.nulls c.in-Some.nulls c.push_both.new.nulls (items_in c.self.inside.items) (items_in c.push_both.new.items) (value_seen c.args.value)
    c.push_both.result c.push_both.ensures.kind c.in-Some.is c.self.invariant c.push_both.ensures.ok c.push_both.ensures.err

pub returns-in-Some-clause-ok : goal.returns-in-Some-clause-ok
returns-in-Some-clause-ok c =
    on_ok_weaker c.push_both.result (λ e. pushed_values (kind_in c.self.inside.items) c.self.inside.nulls c.in-Some.nulls c.push_both.new.nulls (items_in c.self.inside.items) (items_in c.push_both.new.items) (value_seen c.args.value)
    c.in-Some.is c.self.invariant e c.args.self.now.values (ap (λ (l : Leaved). l.values) c.self.view_is)) c.push_both.ensures.ok
