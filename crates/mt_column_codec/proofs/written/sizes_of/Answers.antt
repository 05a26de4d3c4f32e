use Rattle.std.proofs.Common.{◌≤◌, ◌<◌, ◌++◌, [], ℕ, List, length, ap, ◌∙◌, arith}
use Rattle.std.specs.Int.{w64, to_le_bytes}
use Rattle.mt_cells.proofs.CutLemmas.{put_more}
use Rattle.mt_column_codec.proofs.written.sizes_of.Goals as goal

pub loop-index-preserved : goal.loop-index-preserved
loop-index-preserved c =
    let order : c.args.from ≤ c.loop-index.index = omega arith in
    let there : c.loop-index.index < length c.args.sizes.now = omega arith in
    put_more (to_le_bytes w64) c.args.from c.loop-index.index c.args.sizes.now [] c.loop-index.bytes c.append.new.self c.get.result 0 order there c.loop-index.invariant (c.in_ok-append.ensures.ok ∙ ap (λ (bs : List ℕ). c.loop-index.bytes ++ bs) c.to_le_bytes.ensures) c.get.ensures
