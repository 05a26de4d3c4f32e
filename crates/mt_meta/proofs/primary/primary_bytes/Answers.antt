use Rattle.std.proofs.Common.{ap, ◌∙◌}
use Rattle.std.proofs.Common.{take, length}
use Rattle.std.proofs.Math.Nat.{min_comm}
use Rattle.std.proofs.lemmas.List.{drop_more}
use Rattle.mt_defs.specs.PrimaryIndex.{key_bytes}
use Rattle.mt_meta.proofs.KeyLemmas.{index_step, fit_left}
use Rattle.mt_meta.proofs.KeyLemmas.{cut_step}
use Rattle.mt_meta.proofs.primary.primary_bytes.Goals as goal

pub loop-count-preserved : goal.loop-count-preserved
loop-count-preserved c =
    let i = c.loop-count.count-index in
    let here = drop_more c.args.granules.now i 0 c.loop-count-test.true in
    let cut = c.split_at-in-loop-count in
    record {
      ahead = index_step (key_bytes c.as_slice-columns.result.now c.split_at.result.0.now) _ _ _ _ _ _ _ _ _ _ here cut.ensures.front cut.ensures.back
          (c.split_at-in-loop-count-2.ensures.front ∙ ap (λ n. take n cut.result.0.now) (c.min.ensures ∙ min_comm (length cut.result.0.now) 1)) c.in_ok-append_keys.ensures c.loop-count.invariant.ahead;
      cut = cut_step _ _ _ _ _ here cut.ensures.back c.loop-count.invariant.cut;
      fit = fit_left _ _ _ _ cut.ensures.back c.loop-count.invariant.fit;
    }
