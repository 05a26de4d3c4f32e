use Rattle.std.proofs.Common.{length, ap, sym, ◌∙◌}
use Rattle.mt_cells.specs.Items.{default_item, items_in, kind_in}
use Rattle.mt_columns.specs.Leaves.{Leaved}
use Rattle.mt_columns.proofs.LeafLemmas.{as_many, leaf_length}
use Rattle.mt_columns.proofs.leaf.Leaf.len.Goals as goal

pub returns : goal.returns
returns c = c.len.ensures ∙ sym (leaf_length c.self.inside.nulls (items_in c.self.inside.items) (as_many (default_item (kind_in c.self.inside.items)) c.self.inside.nulls (items_in c.self.inside.items) c.self.invariant)) ∙ ap (λ (l : Leaved). length l.values) c.self.view_is
