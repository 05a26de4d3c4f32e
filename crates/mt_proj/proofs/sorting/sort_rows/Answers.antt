use Rattle.std.proofs.Common.{rules, Bool, ◌∙◌}
use Rattle.std.specs.Cmp.{IsTotalOrder, IsStrictWeakOrder}
use Rattle.std.specs.List.Sorted.{IsSorted, IsStable}
use Rattle.std.specs.Ordering.{is_lt}
use Rattle.std.specs.declared.cmp.Ordering.{Ordering}
use Rattle.std.proofs.lemmas.Cmp.{on_total}
use Rattle.std.proofs.lemmas.Fn.{always_returns_same}
use Rattle.std.proofs.lemmas.List.Sorted.{ranks_by}
use Rattle.mt_types.specs.Ordered.{values_total}
use Rattle.mt_defs.specs.Rows.{Row, key_of, key_cmp}
use Rattle.mt_sort.proofs.StableLemmas.{the_one}
use Rattle.mt_proj.proofs.sorting.sort_rows.Goals as goal

pub returns : goal.returns
returns c =
    let R : Row → Row → Ordering = key_cmp c.args.columns.now in
    let total : IsTotalOrder R = on_total (key_of c.args.columns.now) values_total in
    let lt : Row → Row → Bool = λ a b. is_lt (R a b) in
    let weak : IsStrictWeakOrder lt = ranks_by total (λ v. v) in
    let up : IsSorted R c.sort_by.new.self.items = c.in_ok-sort_by.ensures.sorted lt weak (always_returns_same _ _ _ (λ a r f' k. search rules)) in
    let stable : IsStable R c.args.rows.items c.sort_by.new.self.items = c.in_ok-sort_by.ensures.stable lt weak (always_returns_same _ _ _ (λ a r f' k. search rules)) in
    c.of.ensures ∙ the_one R total c.args.rows.items c.sort_by.new.self.items up stable
