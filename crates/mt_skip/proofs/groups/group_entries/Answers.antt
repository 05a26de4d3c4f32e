use Rattle.std.proofs.Common.{◌≡◌, true, length, ap, sym, arith, subst}
use Rattle.std.proofs.lemmas.List.{length-drop}
use Rattle.std.proofs.lemmas.List.Elements.{All-drop}
use Rattle.mt_facts.proofs.Lists.{some_left}
use Rattle.mt_types.specs.Fits.{fits_of}
use Rattle.mt_skip.specs.Items.{AllFit}
use Rattle.mt_skip.proofs.GroupLemmas.{walk_step, cut_more, group_short}
use Rattle.mt_skip.proofs.groups.group_entries.Goals as goal

pub rows_of-requires : goal.rows_of-requires
rows_of-requires c = omega (arith, c.loop-counts.invariant.short, group_short c.min.result c.loop-counts.counts.now c.split_at.result.0.now c.loop-counts.rest.now c.split_at.ensures.front c.loop-counts.invariant.cut)

pub loop-counts-preserved : goal.loop-counts-preserved
loop-counts-preserved c =
    let counts = c.loop-counts.counts.now in
    let rest = c.loop-counts.rest.now in
    let cut = c.split_at-in-loop-counts in
    let size = c.rows_of.result in
    record {
      ahead = walk_step c.args.skip.now.kind c.args.ty.now c.args.skip.now.granularity c.min.result size counts c.split_at.result.0.now c.split_at.result.1.now rest cut.result.0.now cut.result.1.now
          c.loop-counts.made c.push.new.self _ c.in_ok-entry_of.field-0 c.requires.granularity (some_left counts c.is_empty.result c.is_empty.ensures c.loop-counts-test.true) c.min.ensures
          c.split_at.ensures.front c.split_at.ensures.back c.rows_of.ensures cut.ensures.front cut.ensures.back c.in_ok-entry_of.ensures c.in_ok-push.ensures.ok c.loop-counts.invariant.ahead;
      cut = cut_more c.min.result size counts c.split_at.result.0.now c.split_at.result.1.now rest cut.result.1.now c.split_at.ensures.front c.split_at.ensures.back c.rows_of.ensures cut.ensures.back c.loop-counts.invariant.cut;
      fit = subst (AllFit c.args.ty.now) (sym cut.ensures.back) (All-drop (λ v. fits_of c.args.ty.now v ≡ true) size rest c.loop-counts.invariant.fit);
      short = omega (arith, c.loop-counts.invariant.short, ap length cut.ensures.back, length-drop size rest);
    }
