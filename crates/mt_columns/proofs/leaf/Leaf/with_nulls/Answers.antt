use Rattle.std.proofs.Common.{List, ap, subst, sym, ◌∙◌}
use Rattle.mt_types.specs.declared.value.Value.{Value}
use Rattle.mt_defs.specs.Lists.{Pointwise}
use Rattle.mt_cells.specs.Items.{ItemKind, default_item, items_in, kind_in}
use Rattle.mt_columns.specs.Leaves.{IsBeside, nulled}
use Rattle.mt_columns.proofs.LeafLemmas.{has_under, nulled_under}
use Rattle.mt_columns.proofs.leaf.Leaf.with_nulls.Goals as goal

pub invariant_of-result : goal.invariant_of-result
invariant_of-result c =
    let made = rw c.as_slice.ensures.value at c.in_ok-items.ensures.values in
    subst (λ (k : ItemKind). Pointwise (IsBeside (default_item k)) c.args.nulls.items (items_in c.in_ok-items.items)) (sym c.in_ok-items.ensures.kind)
    (subst (λ (vs : List Value). Pointwise (IsBeside (default_item (kind_in c.args.items))) c.args.nulls.items vs) (sym made)
    (has_under (default_item (kind_in c.args.items)) c.args.nulls.items (items_in c.args.items) c.requires.many c.requires.bytes c.are_not_null.ensures))

pub returns-clause-values : goal.returns-clause-values
returns-clause-values c =
    let made = rw c.as_slice.ensures.value at c.in_ok-items.ensures.values in
    ap (nulled c.args.nulls.items) made ∙ nulled_under (default_item (kind_in c.args.items)) c.args.nulls.items (items_in c.args.items) c.requires.many
