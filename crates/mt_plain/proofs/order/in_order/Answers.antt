use Rattle.std.proofs.Common.{ap, sym, ◌∙◌}
use Rattle.std.specs.List.{insert}
use Rattle.mt_defs.specs.Sorting.{placed_by}
use Rattle.mt_defs.specs.Writer.{file_cmp}
use Rattle.mt_plain.proofs.OrderLemmas.{placed_all, all_sorted, place_step}
use Rattle.mt_plain.proofs.order.in_order.Goals as goal

pub loop-file-init : goal.loop-file-init
loop-file-init c = ap (placed_all file_cmp c.args.files.items) c.new-sorted.ensures.items ∙ all_sorted file_cmp c.args.files.items

pub loop-file-preserved : goal.loop-file-preserved
loop-file-preserved c =
    place_step file_cmp _ _ _ _ _ _ c.in-Some.ensures.items
    (c.in_ok-insert.ensures.items ∙ ap (λ files. insert files c.index_of-index.result c.in-Some.file) (sym c.deref.ensures.value) ∙ c.index_of-index.ensures.placed
    ∙ ap (placed_by file_cmp c.in-Some.file) c.deref.ensures.value) c.loop-file.invariant
