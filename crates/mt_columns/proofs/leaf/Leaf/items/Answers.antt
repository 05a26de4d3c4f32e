use Rattle.std.proofs.Common.{map, ap, ◌∙◌}
use Rattle.mt_defs.specs.WrittenStreams.{or_default}
use Rattle.mt_cells.specs.Items.{ItemKind, default_item, items_in, kind_in}
use Rattle.mt_columns.specs.Leaves.{Leaved}
use Rattle.mt_columns.proofs.LeafLemmas.{items_are}
use Rattle.mt_columns.proofs.leaf.Leaf.items.Goals as goal

pub returns-clause-values : goal.returns-clause-values
returns-clause-values c =
    items_are (default_item (kind_in c.self.inside.items)) c.self.inside.nulls (items_in c.self.inside.items) c.args.self.now.values c.self.invariant c.are_not_null.ensures (ap (λ (l : Leaved). l.values) c.self.view_is)
    ∙ ap (λ (k : ItemKind). map (or_default (default_item k)) c.args.self.now.values) (ap (λ (l : Leaved). l.kind) c.self.view_is)
