use Rattle.std.proofs.Common.{◌≡◌, Bool, length, get_or, ap, sym, ◌∙◌, arith}
use Rattle.mt_types.specs.declared.value.Value.TheVariants.{Null}
use Rattle.mt_cells.specs.Items.{default_item, items_in, kind_in}
use Rattle.mt_columns.specs.Leaves.{Leaved, leaf_values, null_if}
use Rattle.mt_columns.proofs.LeafLemmas.{as_many, leaf_at, leaf_length}
use Rattle.mt_columns.proofs.leaf.Leaf.seen.Goals as goal

pub seen-requires : goal.seen-requires
seen-requires c =
    let many : length (leaf_values c.self.inside.nulls (items_in c.self.inside.items)) ≡ length c.args.self.now.values = ap (λ (l : Leaved). length l.values) c.self.view_is in
    omega (arith, leaf_length c.self.inside.nulls (items_in c.self.inside.items) (as_many (default_item (kind_in c.self.inside.items)) c.self.inside.nulls (items_in c.self.inside.items) c.self.invariant), many, c.requires)

pub returns-then-is_null_in : goal.returns-then-is_null_in
returns-then-is_null_in c =
    let item = get_or (items_in c.self.inside.items) c.args.index Null in
    sym (ap (λ (b : Bool). null_if b item) (sym c.is_null_in.ensures ∙ c.if-is_null_in.true)) ∙ sym (leaf_at c.self.inside.nulls (items_in c.self.inside.items) c.args.index (as_many (default_item (kind_in c.self.inside.items)) c.self.inside.nulls (items_in c.self.inside.items) c.self.invariant))
    ∙ ap (λ (l : Leaved). get_or l.values c.args.index Null) c.self.view_is

pub returns-else-is_null_in : goal.returns-else-is_null_in
returns-else-is_null_in c =
    let item = get_or (items_in c.self.inside.items) c.args.index Null in
    c.seen.ensures ∙ sym (ap (λ (b : Bool). null_if b item) (sym c.is_null_in.ensures ∙ c.if-is_null_in.false)) ∙ sym (leaf_at c.self.inside.nulls (items_in c.self.inside.items) c.args.index (as_many (default_item (kind_in c.self.inside.items)) c.self.inside.nulls (items_in c.self.inside.items) c.self.invariant))
    ∙ ap (λ (l : Leaved). get_or l.values c.args.index Null) c.self.view_is
