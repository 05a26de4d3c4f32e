use Rattle.std.proofs.Common.{rules, ◌≡◌, Bool, [], ◌∷◌, ◌∙◌, map}
use Rattle.std.specs.Cmp.{IsStrictWeakOrder}
use Rattle.std.specs.List.Sorted.{IsSorted, IsStable}
use Rattle.std.specs.Ordering.{is_lt}
use Rattle.std.specs.declared.cmp.Ordering.{Ordering}
use Rattle.std.proofs.lemmas.Fn.{always_returns_same}
use Rattle.std.proofs.lemmas.List.Sorted.{ranks_by}
use Rattle.std.proofs.lemmas.Result.{IfOk-weaker}
use Rattle.mt_defs.specs.Sorting.{sorted_rows}
use Rattle.mt_sort.specs.RankedOnce.{ranked_cmp}
use Rattle.mt_sort.specs.declared.one_rank.OneRank.{OneRank}
use Rattle.mt_sort.proofs.OneRankLemmas.{ranked_total, sorted_ranked}
use Rattle.mt_sort.proofs.one_rank.sort_by_one_rank.Goals as goal

pub returns : goal.returns
returns c =
    let scale = c.args.scale in
    let column = c.args.column in
    let R : OneRank → OneRank → Ordering = ranked_cmp scale column in
    let lt : OneRank → OneRank → Bool = λ a b. is_lt (R a b) in
    let weak : IsStrictWeakOrder lt = ranks_by (ranked_total scale column) (λ v. v) in
    let up : IsSorted R c.sort_by.new.self.items = c.in_ok-sort_by.ensures.sorted lt weak (always_returns_same _ _ _ (λ a r f' k. search rules)) in
    let stable : IsStable R c.in_ok-ranked.ranked.items c.sort_by.new.self.items = c.in_ok-sort_by.ensures.stable lt weak (always_returns_same _ _ _ (λ a r f' k. search rules)) in
    let sorts = sorted_ranked scale column c.args.rows c.in_ok-ranked.ranked.items c.sort_by.new.self.items c.in_ok-ranked.ensures c.requires up stable in
    IfOk-weaker c.without_ranks.result (λ rows. rows ≡ map (λ (r : OneRank). r.row) c.sort_by.new.self.items) (λ sorted. sorted ≡ sorted_rows (column ∷ []) c.args.rows) (λ rows e. e ∙ sorts) c.without_ranks.ensures
