use Rattle.std.proofs.Common.{rules, Bool, ap, ◌∙◌}
use Rattle.std.specs.Borrow.{Bor}
use Rattle.std.specs.Cmp.{IsTotalOrder, IsStrictWeakOrder}
use Rattle.std.specs.List.Sorted.{IsSorted, IsStable}
use Rattle.std.specs.Ordering.{is_lt}
use Rattle.std.specs.declared.cmp.Ordering.{Ordering}
use Rattle.std.proofs.lemmas.Cmp.{on_total, nat_list_cmp_total}
use Rattle.std.proofs.lemmas.Fn.{always_returns_same}
use Rattle.std.proofs.lemmas.List.{take_all}
use Rattle.std.proofs.lemmas.List.Sorted.{ranks_by}
use Rattle.mt_fault.specs.declared.file.FileBytes.{FileBytes}
use Rattle.mt_defs.specs.Folder.{folder_of}
use Rattle.mt_granules.specs.FileOrder.{name_cmp}
use Rattle.mt_granules.proofs.FileLemmas.{files_rise, files_stay}
use Rattle.mt_granules.proofs.file_index.FileIndex.of.Goals as goal

pub invariant_of-result : goal.invariant_of-result
invariant_of-result c =
    let R : Bor FileBytes → Bor FileBytes → Ordering = λ a b. name_cmp a.now b.now in
    let total : IsTotalOrder R = on_total (λ (file : Bor FileBytes). file.now.name) nat_list_cmp_total in
    let lt : Bor FileBytes → Bor FileBytes → Bool = λ a b. is_lt (R a b) in
    let weak : IsStrictWeakOrder lt = ranks_by total (λ v. v) in
    let up : IsSorted R c.sort_by.new.self.items = c.in_ok-sort_by.ensures.sorted lt weak (always_returns_same _ _ _ (λ a r f' k. search rules)) in
    record { rising = files_rise c.sort_by.new.self.items up }

pub returns : goal.returns
returns c =
    let R : Bor FileBytes → Bor FileBytes → Ordering = λ a b. name_cmp a.now b.now in
    let total : IsTotalOrder R = on_total (λ (file : Bor FileBytes). file.now.name) nat_list_cmp_total in
    let lt : Bor FileBytes → Bor FileBytes → Bool = λ a b. is_lt (R a b) in
    let weak : IsStrictWeakOrder lt = ranks_by total (λ v. v) in
    let stable : IsStable R c.loop-file.sorted.items c.sort_by.new.self.items = c.in_ok-sort_by.ensures.stable lt weak (always_returns_same _ _ _ (λ a r f' k. search rules)) in
    files_stay c.loop-file.sorted.items c.sort_by.new.self.items stable ∙ ap folder_of (c.loop-file.invariant ∙ take_all c.loop-file.file-index c.args.files.now c.loop-file-test.false)
