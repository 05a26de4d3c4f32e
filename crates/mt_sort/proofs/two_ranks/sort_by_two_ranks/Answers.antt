use Rattle.std.proofs.Common.{rules, ◌≡◌, Bool, ◌∙◌, map}
use Rattle.std.specs.Cmp.{IsStrictWeakOrder}
use Rattle.std.specs.List.Sorted.{IsSorted, IsStable}
use Rattle.std.specs.Ordering.{is_lt}
use Rattle.std.specs.declared.cmp.Ordering.{Ordering}
use Rattle.std.proofs.lemmas.Fn.{always_returns_same}
use Rattle.std.proofs.lemmas.List.Sorted.{ranks_by}
use Rattle.std.proofs.lemmas.Result.{IfOk-weaker}
use Rattle.mt_defs.specs.Sorting.{sorted_rows}
use Rattle.mt_sort.specs.RankedTwice.{ranked_cmp}
use Rattle.mt_sort.specs.declared.two_ranks.TwoRanks.{TwoRanks}
use Rattle.mt_sort.proofs.TwoRanksLemmas.{ranked_total, sorted_ranked}
use Rattle.mt_sort.proofs.two_ranks.sort_by_two_ranks.Goals as goal

pub returns : goal.returns
returns c =
    let key = c.args.key.now in
    let scales = c.args.scales in
    let R : TwoRanks → TwoRanks → Ordering = ranked_cmp scales key in
    let lt : TwoRanks → TwoRanks → Bool = λ a b. is_lt (R a b) in
    let weak : IsStrictWeakOrder lt = ranks_by (ranked_total scales key) (λ v. v) in
    let up : IsSorted R c.sort_by.new.self.items = c.in_ok-sort_by.ensures.sorted lt weak (always_returns_same _ _ _ (λ a r f' k. search rules)) in
    let stable : IsStable R c.in_ok-ranked.ranked.items c.sort_by.new.self.items = c.in_ok-sort_by.ensures.stable lt weak (always_returns_same _ _ _ (λ a r f' k. search rules)) in
    let sorts = sorted_ranked scales c.args.column c.args.others.now key c.args.rows c.in_ok-ranked.ranked.items c.sort_by.new.self.items c.requires.whole c.requires.ranked c.in_ok-ranked.ensures up stable in
    IfOk-weaker c.without_ranks.result (λ rows. rows ≡ map (λ (r : TwoRanks). r.row) c.sort_by.new.self.items) (λ sorted. sorted ≡ sorted_rows key c.args.rows) (λ rows e. e ∙ sorts) c.without_ranks.ensures
