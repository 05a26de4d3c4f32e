use Rattle.std.proofs.Common.{rules, ◌≡◌, ◌∙◌, Bool, List, subst}
use Rattle.std.specs.Cmp.{IsStrictWeakOrder}
use Rattle.std.specs.List.Sorted.{IsSorted, IsStable}
use Rattle.std.specs.Ordering.{is_lt}
use Rattle.std.specs.declared.cmp.Ordering.{Ordering}
use Rattle.std.proofs.lemmas.Fn.{always_returns_same}
use Rattle.std.proofs.lemmas.List.Sorted.{ranks_by}
use Rattle.mt_defs.specs.Rows.{Row, key_cmp}
use Rattle.mt_sort.proofs.OrderLemmas.{key_cmp_total}
use Rattle.mt_sort.proofs.StableLemmas.{the_one}
use Rattle.mt_sort.proofs.sorting.sort_by_values.Goals as goal

pub returns : goal.returns
returns c =
    let R : Row → Row → Ordering = key_cmp c.args.key.now in
    let lt : Row → Row → Bool = λ a b. is_lt (R a b) in
    let weak : IsStrictWeakOrder lt = ranks_by (key_cmp_total c.args.key.now) (λ v. v) in
    let up : IsSorted R c.sort_by.new.self.items = c.in_ok-sort_by.ensures.sorted lt weak (always_returns_same _ _ _ (λ a r f' k. search rules)) in
    let stable : IsStable R c.args.rows c.sort_by.new.self.items =
    subst (λ (rows : List Row). IsStable R rows c.sort_by.new.self.items) c.into_vec-sorted.ensures (c.in_ok-sort_by.ensures.stable lt weak (always_returns_same _ _ _ (λ a r f' k. search rules))) in
    c.of.ensures ∙ the_one R (key_cmp_total c.args.key.now) c.args.rows c.sort_by.new.self.items up stable
