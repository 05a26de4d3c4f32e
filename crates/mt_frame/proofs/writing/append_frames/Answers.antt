use Rattle.std.proofs.Common.{rules, subst, ◌≡◌, take, length, List, ℕ, sym}
use Rattle.mt_facts.proofs.Lists.{prefix_stays}
use Rattle.mt_frame.proofs.FrameLemmas.{frames_step}
use Rattle.mt_frame.proofs.writing.append_frames.Goals as goal

pub loop-rest-preserved : goal.loop-rest-preserved
loop-rest-preserved c = record {
  ahead = frames_step _ _ _ _ _ _ _ c.min.ensures c.split_at.ensures.front c.split_at.ensures.back (search rules) (c.in_ok-append_frame.ensures.ok) c.loop-rest.invariant.ahead;
  kept =
      let P : List ℕ → Type 0 = λ l. take (length c.args.out.now.items) l ≡ c.args.out.now.items in
      subst P (sym c.in_ok-append_frame.ensures.ok) (prefix_stays c.args.out.now.items _ _ c.loop-rest.invariant.kept);
}
