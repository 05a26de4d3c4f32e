use Rattle.std.proofs.Common.{◌≡◌, ◌-◌, ◌≤◌, ℕ, List, length, take, drop, ap, subst, ◌∙◌, arith}
use Rattle.std.specs.Prelude.{IfSome, Option}
use Rattle.std.specs.Global.{Vec}
use Rattle.std.proofs.lemmas.List.{drop-map, take-map}
use Rattle.mt_defs.specs.Encoding.{null_byte}
use Rattle.mt_cells.specs.Items.{default_item, items_in, kind_in}
use Rattle.mt_columns.specs.Leaves.{Leaved, leaf_values}
use Rattle.mt_columns.proofs.LeafLemmas.{as_many, leaf_length, null_bytes, null_map_is}
use Rattle.mt_columns.proofs.leaf.Leaf.null_map.Goals as goal

pub bytes_between-requires-clause-within : goal.bytes_between-requires-clause-within
bytes_between-requires-clause-within c =
    let has = as_many (default_item (kind_in c.self.inside.items)) c.self.inside.nulls (items_in c.self.inside.items) c.self.invariant in
    let many : length (leaf_values c.self.inside.nulls (items_in c.self.inside.items)) ≡ length c.args.self.now.values = ap (λ (l : Leaved). length l.values) c.self.view_is in
    rw c.as_slice.ensures.value (subst (λ (n : Option (Vec ℕ)). IfSome n (λ bytes. c.args.to ≤ length bytes.items)) c.in-Some.is
    (null_bytes c.self.inside.nulls (items_in c.self.inside.items) c.args.to has (omega (arith, leaf_length c.self.inside.nulls (items_in c.self.inside.items) has, many, c.requires.within))))

pub returns : goal.returns
returns c =
    let bytes = null_map_is (kind_in c.self.inside.items) c.self.inside.nulls c.in-Some.nulls (items_in c.self.inside.items) c.args.self.now.values c.in-Some.is c.self.invariant (ap (λ (l : Leaved). l.values) c.self.view_is) in
    (rw c.as_slice.ensures.value at c.bytes_between.ensures)
    ∙ ap (λ (bs : List ℕ). take (c.args.to - c.args.from) (drop c.args.from bs)) bytes
    ∙ ap (take (c.args.to - c.args.from)) (drop-map null_byte c.args.from c.args.self.now.values) ∙ take-map null_byte (c.args.to - c.args.from) (drop c.args.from c.args.self.now.values)
