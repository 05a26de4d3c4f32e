use Rattle.std.proofs.Common.{rules, ◌≡◌, ◌<◌, Bool, ◌∙◌, map}
use Rattle.std.specs.List.{All}
use Rattle.std.specs.Cmp.{IsStrictWeakOrder}
use Rattle.std.specs.List.Sorted.{IsSorted, IsStable}
use Rattle.std.specs.Ordering.{is_lt}
use Rattle.std.specs.declared.cmp.Ordering.{Ordering}
use Rattle.std.proofs.lemmas.Fn.{always_returns_same}
use Rattle.std.proofs.lemmas.List.Sorted.{ranks_by}
use Rattle.std.proofs.lemmas.Result.{IfOk-weaker}
use Rattle.mt_defs.specs.Sorting.{sorted_by}
use Rattle.mt_blocks.specs.Rows.{indexes}
use Rattle.mt_blocks.specs.Sorting.{index_cmp, place_cmp}
use Rattle.mt_blocks.specs.declared.sort.Place.{Place}
use Rattle.mt_blocks.proofs.SortLemmas.{places_total, sorted_places, all_in_order}
use Rattle.mt_blocks.proofs.sort.sorted_order.Goals as goal

-- the places that std's sort leaves, without their ranks, are in order
sorts_of : (c : goal.After-indexes_of) → map (λ (p : Place). p.index) c.sort_by.new.self.items ≡ sorted_by (index_cmp c.args.columns.now) (indexes c.args.count)
sorts_of c =
    let columns = c.args.columns.now in
    let scales = c.scales_of-scales.result in
    let R : Place → Place → Ordering = place_cmp columns scales in
    let lt : Place → Place → Bool = λ a b. is_lt (R a b) in
    let weak : IsStrictWeakOrder lt = ranks_by (places_total columns c.know_ranked.ensures scales c.scales_of-scales.ensures) (λ v. v) in
    let up : IsSorted R c.sort_by.new.self.items = c.in_ok-sort_by.ensures.sorted lt weak (always_returns_same _ _ _ (λ a r f' k. search rules)) in
    let stable : IsStable R c.in_ok-places.places.items c.sort_by.new.self.items = c.in_ok-sort_by.ensures.stable lt weak (always_returns_same _ _ _ (λ a r f' k. search rules)) in
    sorted_places columns c.know_ranked.ensures scales c.scales_of-scales.ensures (indexes c.args.count) c.in_ok-places.places.items c.sort_by.new.self.items c.in_ok-places.ensures up stable

pub returns-clause-sorted : goal.returns-clause-sorted
returns-clause-sorted c = IfOk-weaker c.indexes_of.result (λ order. order.items ≡ map (λ (p : Place). p.index) c.sort_by.new.self.items) (λ order. order.items ≡ sorted_by (index_cmp c.args.columns.now) (indexes c.args.count)) (λ order e. e ∙ sorts_of c) c.indexes_of.ensures

pub returns-clause-within : goal.returns-clause-within
returns-clause-within c =
    IfOk-weaker c.indexes_of.result (λ order. order.items ≡ map (λ (p : Place). p.index) c.sort_by.new.self.items) (λ order. All (λ index. index < c.args.count) order.items) (λ order e. all_in_order c.args.columns.now c.args.count order.items (e ∙ sorts_of c)) c.indexes_of.ensures
