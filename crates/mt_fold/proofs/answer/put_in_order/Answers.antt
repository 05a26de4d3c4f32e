use Rattle.std.proofs.Common.{rules, Bool}
use Rattle.std.specs.Cmp.{IsStrictWeakOrder}
use Rattle.std.specs.List.Sorted.{IsSorted, IsStable}
use Rattle.std.specs.Ordering.{is_lt}
use Rattle.std.proofs.lemmas.Fn.{always_returns_same}
use Rattle.std.proofs.lemmas.List.Sorted.{ranks_by}
use Rattle.mt_types.specs.Order.{values_cmp}
use Rattle.mt_types.specs.Ordered.{values_total}
use Rattle.mt_defs.specs.Rows.{Row}
use Rattle.mt_sort.proofs.StableLemmas.{the_one}
use Rattle.mt_fold.proofs.answer.put_in_order.Goals as goal

pub returns : goal.returns
returns c =
    let lt : Row → Row → Bool = λ a b. is_lt (values_cmp a b) in
    let weak : IsStrictWeakOrder lt = ranks_by values_total (λ v. v) in
    let up : IsSorted values_cmp c.sort_by.new.self.items = c.in_ok-sort_by.ensures.sorted lt weak (always_returns_same _ _ _ (λ a r f' k. search rules)) in
    let stable : IsStable values_cmp c.args.rows.items c.sort_by.new.self.items = c.in_ok-sort_by.ensures.stable lt weak (always_returns_same _ _ _ (λ a r f' k. search rules)) in
    the_one values_cmp values_total c.args.rows.items c.sort_by.new.self.items up stable
