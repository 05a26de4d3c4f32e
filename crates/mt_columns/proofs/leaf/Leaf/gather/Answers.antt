use Rattle.std.proofs.Common.{◌≡◌, length, ap, sym, subst, arith}
use Rattle.mt_cells.specs.Items.{ItemKind, default_item, items_in, kind_in}
use Rattle.mt_columns.specs.Leaves.{HasNulls, Leaved, leaf_values}
use Rattle.mt_columns.proofs.LeafLemmas.{as_many, gathered_has, gathered_leaf, leaf_length}
use Rattle.mt_columns.proofs.leaf.Leaf.gather.Goals as goal

pub gather-requires : goal.gather-requires
gather-requires c k d h =
    let many : length (leaf_values c.self.inside.nulls (items_in c.self.inside.items)) ≡ length c.args.self.now.values = ap (λ (l : Leaved). length l.values) c.self.view_is in
    omega (arith, leaf_length c.self.inside.nulls (items_in c.self.inside.items) (as_many (default_item (kind_in c.self.inside.items)) c.self.inside.nulls (items_in c.self.inside.items) c.self.invariant), many, c.requires k d h)

pub invariant_of-result : goal.invariant_of-result
invariant_of-result c =
    let many : length (leaf_values c.self.inside.nulls (items_in c.self.inside.items)) ≡ length c.args.self.now.values = ap (λ (l : Leaved). length l.values) c.self.view_is in
    let long = leaf_length c.self.inside.nulls (items_in c.self.inside.items) (as_many (default_item (kind_in c.self.inside.items)) c.self.inside.nulls (items_in c.self.inside.items) c.self.invariant) in
    subst (λ (k : ItemKind). HasNulls (default_item k) c.in_ok-nulls.nulls (items_in c.in_ok-items.items)) (sym c.in_ok-items.ensures.kind)
    (gathered_has (default_item (kind_in c.self.inside.items)) c.args.order.now c.self.inside.nulls c.in_ok-nulls.nulls (items_in c.self.inside.items) (items_in c.in_ok-items.items)
    c.in_ok-nulls.ensures c.self.invariant (λ k d h. omega (arith, long, many, c.requires k d h)) c.in_ok-items.ensures.values)

pub returns-clause-values : goal.returns-clause-values
returns-clause-values c =
    gathered_leaf c.args.order.now c.self.inside.nulls c.in_ok-nulls.nulls (items_in c.self.inside.items) (items_in c.in_ok-items.items) c.args.self.now.values
    c.in_ok-nulls.ensures (as_many (default_item (kind_in c.self.inside.items)) c.self.inside.nulls (items_in c.self.inside.items) c.self.invariant) (ap (λ (l : Leaved). l.values) c.self.view_is) c.in_ok-items.ensures.values
