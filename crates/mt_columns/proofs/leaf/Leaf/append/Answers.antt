use Rattle.std.proofs.Common.{◌≡◌, length, ap, subst, sym, ◌∙◌, arith}
use Rattle.mt_cells.specs.Items.{ItemKind, default_item, items_in, kind_in}
use Rattle.mt_columns.specs.Leaves.{HasNulls, Leaved, leaf_values}
use Rattle.mt_columns.proofs.LeafLemmas.{as_many, leaf_length, more_has, more_leaf, null_bytes}
use Rattle.mt_columns.proofs.leaf.Leaf.append.Goals as goal

pub more_nulls-requires-clause-within : goal.more_nulls-requires-clause-within
more_nulls-requires-clause-within c =
    let has = as_many (default_item (kind_in c.other.inside.items)) c.other.inside.nulls (items_in c.other.inside.items) c.other.invariant in
    let many : length (leaf_values c.other.inside.nulls (items_in c.other.inside.items)) ≡ length c.args.other.now.values = ap (λ (l : Leaved). length l.values) c.other.view_is in
    null_bytes c.other.inside.nulls (items_in c.other.inside.items) c.args.to has (omega (arith, leaf_length c.other.inside.nulls (items_in c.other.inside.items) has, many, c.requires.within))

pub append-requires-clause-within : goal.append-requires-clause-within
append-requires-clause-within c =
    let has = as_many (default_item (kind_in c.other.inside.items)) c.other.inside.nulls (items_in c.other.inside.items) c.other.invariant in
    let many : length (leaf_values c.other.inside.nulls (items_in c.other.inside.items)) ≡ length c.args.other.now.values = ap (λ (l : Leaved). length l.values) c.other.view_is in
    omega (arith, leaf_length c.other.inside.nulls (items_in c.other.inside.items) has, many, c.requires.within)

pub invariant_of-result : goal.invariant_of-result
invariant_of-result c =
    let same : kind_in c.other.inside.items ≡ kind_in c.self.inside.items = ap (λ (l : Leaved). l.kind) c.other.view_is ∙ c.requires.kind ∙ sym (ap (λ (l : Leaved). l.kind) c.self.view_is) in
    let others = subst (λ (k : ItemKind). HasNulls (default_item k) c.other.inside.nulls (items_in c.other.inside.items)) same c.other.invariant in
    subst (λ (k : ItemKind). HasNulls (default_item k) c.in_ok-nulls.nulls (items_in c.in_ok-items.items)) (sym c.in_ok-items.ensures.kind)
    (more_has (default_item (kind_in c.self.inside.items)) c.args.from c.args.to c.other.inside.nulls c.self.inside.nulls c.in_ok-nulls.nulls (items_in c.other.inside.items) (items_in c.self.inside.items) (items_in c.in_ok-items.items)
    c.in_ok-nulls.ensures others c.self.invariant c.in_ok-items.ensures.values)

pub returns-clause-values : goal.returns-clause-values
returns-clause-values c =
    more_leaf c.args.from c.args.to c.other.inside.nulls c.self.inside.nulls c.in_ok-nulls.nulls (items_in c.other.inside.items) (items_in c.self.inside.items) (items_in c.in_ok-items.items) c.args.self.values c.args.other.now.values
    c.in_ok-nulls.ensures (ap (λ (l : Leaved). l.nullable) c.other.view_is ∙ c.requires.nullable ∙ sym (ap (λ (l : Leaved). l.nullable) c.self.view_is))
    (as_many (default_item (kind_in c.other.inside.items)) c.other.inside.nulls (items_in c.other.inside.items) c.other.invariant)
    (as_many (default_item (kind_in c.self.inside.items)) c.self.inside.nulls (items_in c.self.inside.items) c.self.invariant) c.in_ok-items.ensures.values
    (ap (λ (l : Leaved). l.values) c.self.view_is) (ap (λ (l : Leaved). l.values) c.other.view_is)
