use Rattle.std.proofs.Common.{ap, ◌∙◌}
use Rattle.mt_cells.specs.Items.{default_item, is_narrow_kind, items_in, kind_in}
use Rattle.mt_columns.specs.Leaves.{Leaved}
use Rattle.mt_columns.proofs.LeafLemmas.{as_many, leaf_not_huge}
use Rattle.mt_columns.proofs.leaf.Leaf.are_narrow.Goals as goal

pub returns : goal.returns
returns c = λ narrow.
    leaf_not_huge c.self.inside.nulls (items_in c.self.inside.items) c.args.self.now.values (as_many (default_item (kind_in c.self.inside.items)) c.self.inside.nulls (items_in c.self.inside.items) c.self.invariant)
    (ap (λ (l : Leaved). l.values) c.self.view_is) (c.are_narrow.ensures (ap (λ (l : Leaved). is_narrow_kind l.kind) c.self.view_is ∙ narrow))
