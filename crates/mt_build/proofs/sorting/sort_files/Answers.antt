use Rattle.std.proofs.Common.{rules, ◌∙◌}
use Rattle.std.specs.Cmp.{IsStrictWeakOrder}
use Rattle.std.specs.List.Sorted.{IsSorted, IsStable}
use Rattle.std.specs.Ordering.{is_lt}
use Rattle.std.proofs.lemmas.Fn.{always_returns_same}
use Rattle.std.proofs.lemmas.List.Sorted.{ranks_by}
use Rattle.mt_defs.specs.Writer.{file_cmp}
use Rattle.mt_build.proofs.OrderLemmas.{file_cmp_total}
use Rattle.mt_sort.proofs.StableLemmas.{the_one}
use Rattle.mt_build.proofs.sorting.sort_files.Goals as goal

pub returns : goal.returns
returns c =
    let weak : IsStrictWeakOrder (λ a b. is_lt (file_cmp a b)) = ranks_by file_cmp_total (λ v. v) in
    let up : IsSorted file_cmp c.sort_by.new.self.items = c.in_ok-sort_by.ensures.sorted _ weak (always_returns_same _ _ _ (λ a r f' k. search rules)) in
    let stable : IsStable file_cmp c.args.files.items c.sort_by.new.self.items = c.in_ok-sort_by.ensures.stable _ weak (always_returns_same _ _ _ (λ a r f' k. search rules)) in
    c.of.ensures ∙ the_one file_cmp file_cmp_total c.args.files.items c.sort_by.new.self.items up stable
