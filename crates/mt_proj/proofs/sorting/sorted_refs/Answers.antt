use Rattle.std.proofs.Common.{rules, Bool, ap, ◌∙◌}
use Rattle.std.specs.Borrow.{Bor}
use Rattle.std.specs.Cmp.{IsTotalOrder, IsStrictWeakOrder}
use Rattle.std.specs.List.Sorted.{IsSorted, IsStable}
use Rattle.std.specs.Ordering.{is_lt}
use Rattle.std.specs.declared.cmp.Ordering.{Ordering}
use Rattle.std.proofs.lemmas.Cmp.{on_total}
use Rattle.std.proofs.lemmas.Fn.{always_returns_same}
use Rattle.std.proofs.lemmas.List.{take_all}
use Rattle.std.proofs.lemmas.List.Sorted.{ranks_by}
use Rattle.mt_types.specs.Order.{values_cmp}
use Rattle.mt_types.specs.Ordered.{values_total}
use Rattle.mt_defs.specs.Rows.{Row}
use Rattle.mt_defs.specs.Sorting.{sorted_by}
use Rattle.mt_sort.specs.References.{rows_in}
use Rattle.mt_proj.specs.Keys.{key_in}
use Rattle.mt_sort.proofs.StableLemmas.{the_one}
use Rattle.mt_sort.proofs.SortedLemmas.{map-sorted_by}
use Rattle.mt_proj.proofs.sorting.sorted_refs.Goals as goal

pub returns : goal.returns
returns c =
    let S : Row → Row → Ordering = λ a b. values_cmp (key_in c.args.key.now a) (key_in c.args.key.now b) in
    let R : Bor Row → Bor Row → Ordering = λ a b. S a.now b.now in
    let total : IsTotalOrder R = on_total (λ (row : Bor Row). key_in c.args.key.now row.now) values_total in
    let lt : Bor Row → Bor Row → Bool = λ a b. is_lt (R a b) in
    let weak : IsStrictWeakOrder lt = ranks_by total (λ v. v) in
    let up : IsSorted R c.sort_by.new.self.items = c.in_ok-sort_by.ensures.sorted lt weak (always_returns_same _ _ _ (λ a r f' k. search rules)) in
    let stable : IsStable R c.loop-row.sorted.items c.sort_by.new.self.items = c.in_ok-sort_by.ensures.stable lt weak (always_returns_same _ _ _ (λ a r f' k. search rules)) in
    ap rows_in (the_one R total c.loop-row.sorted.items c.sort_by.new.self.items up stable) ∙ map-sorted_by (λ (row : Bor Row). row.now) S c.loop-row.sorted.items
    ∙ ap (sorted_by S) (c.loop-row.invariant ∙ take_all c.loop-row.row-index c.args.rows.now c.loop-row-test.false)
