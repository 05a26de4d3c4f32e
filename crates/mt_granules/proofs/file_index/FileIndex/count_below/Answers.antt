use Rattle.std.proofs.Common.{ap, sym, ◌∙◌, arith}
use Rattle.std.specs.Ordering.{is_lt}
use Rattle.std.proofs.lemmas.Cmp.{is_lt_index}
use Rattle.mt_granules.specs.FileOrder.{referenced_files}
use Rattle.mt_granules.proofs.FileLemmas.{goes_up, goes_down}
use Rattle.mt_granules.proofs.file_index.FileIndex.count_below.Goals as goal

pub loop-low-preserved-then-eq : goal.loop-low-preserved-then-eq
loop-low-preserved-then-eq c =
    goes_up c.args.name.now (referenced_files c.args.self.now.sorted.items) c.loop-low.low c.loop-low.high _ c.args.self.now.rising (omega arith) (omega (arith, c.loop-low-test.true))
    (λ d. ap is_lt (sym (c.compare_at.ensures d)) ∙ is_lt_index c.compare_at.result ∙ sym c.if-eq.ensures) c.loop-low.invariant

pub loop-low-preserved : goal.loop-low-preserved
loop-low-preserved c =
    goes_down c.args.name.now (referenced_files c.args.self.now.sorted.items) c.loop-low.low c.loop-low.high _ c.args.self.now.rising (omega arith) (omega (arith, c.loop-low-test.true))
    (λ d. ap is_lt (sym (c.compare_at.ensures d)) ∙ is_lt_index c.compare_at.result ∙ sym c.if-eq.ensures) c.loop-low.invariant
