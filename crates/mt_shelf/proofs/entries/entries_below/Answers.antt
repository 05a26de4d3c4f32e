use Rattle.std.proofs.Common.{◌-◌, List, ◌∙◌, sym, ap, arith}
use Rattle.mt_shelf.specs.Files.{entries_below}
use Rattle.mt_shelf.specs.Held.{files_in, with_entry_of, pair_of}
use Rattle.mt_fault.specs.declared.file.FileBytes.{FileBytes}
use Rattle.mt_shelf.proofs.Listings.{entries_below-nil, listed_from}
use Rattle.std.proofs.Math.Seq.{drop-length}
use Rattle.mt_shelf.proofs.entries.entries_below.Goals as goal

pub loop-i-init : goal.loop-i-init
loop-i-init c = c.new-entries.ensures.items ∙ sym (ap (λ (h : List FileBytes). entries_below c.args.part.now (files_in h)) (drop-length c.args.held.now) ∙ entries_below-nil c.args.part.now)

pub loop-i-preserved : goal.loop-i-preserved
loop-i-preserved c =
    c.in_ok-add_entry.ensures
    ∙ ap (with_entry_of c.args.part.now (pair_of c.index-held-i.result)) c.loop-i.invariant
    ∙ listed_from c.args.part.now c.args.held.now c.loop-i.i (c.loop-i.i - 1) c.index-held-i.result (omega arith) (omega arith) c.index-held-i.is
