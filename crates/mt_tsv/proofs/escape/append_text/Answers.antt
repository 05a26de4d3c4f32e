use Rattle.std.proofs.Common.{sym, ◌∙◌, refl, arith}
use Rattle.mt_tsv.proofs.Joins.{plain_more, letter_more}
use Rattle.mt_tsv.proofs.Kept.{kept_more}
use Rattle.mt_tsv.proofs.escape.append_text.Goals as goal
use Rattle.mt_tsv.proofs.escape.append_text.Goals.{in-Some+in_ok-append+in_ok-append-2, in_default}

pub loop-i-preserved : goal.loop-i-preserved
loop-i-preserved c =
    elim c.match-letter.branch [
      | in-Some+in_ok-append+in_ok-append-2 w ↦ record {
        so_far = rw (w.run_start-is, w.out-is) (letter_more c.args.text.now c.loop-i.run_start c.loop-i.i c.loop-i.out c.args.out.now w.in-Some.letter _ c.loop-i-test.true (sym c.letter.ensures ∙ w.in-Some.is) c.loop-i.invariant.so_far (w.in_ok-append-2.ensures.ok ∙ rw w.in_ok-append.ensures.ok refl));
        run = omega (arith, w.run_start-is);
        kept = rw w.out-is (kept_more _ _ _ _ (kept_more c.args.out.now c.loop-i.out _ _ c.loop-i.invariant.kept w.in_ok-append.ensures.ok) w.in_ok-append-2.ensures.ok);
      }
      | in_default w ↦ record {
        so_far = rw (w.run_start-is, w.out-is) (plain_more c.args.text.now c.loop-i.run_start c.loop-i.i c.loop-i.out c.args.out.now c.loop-i.invariant.run c.loop-i-test.true (sym c.letter.ensures ∙ w.in_default.is) c.loop-i.invariant.so_far);
        run = omega (arith, w.run_start-is, c.loop-i.invariant.run);
        kept = rw w.out-is c.loop-i.invariant.kept;
      }
    ]
