use Rattle.std.proofs.Common.{◌++◌, [], ◌∷◌, ap, sym, ◌∙◌}
use Rattle.mt_tsv.specs.declared.ascii.TheConstants.{OPEN, COMMA}
use Rattle.mt_tsv.specs.Printing.{element_text}
use Rattle.mt_tsv.proofs.Joins.{join_more, appended}
use Rattle.mt_tsv.proofs.Kept.{kept_more}
use Rattle.mt_tsv.proofs.print.+print.Goals as goal

pub append_array-loop-i-preserved : goal.append_array-loop-i-preserved
append_array-loop-i-preserved t c =
    let base = c.args.out.now ++ OPEN ∷ [] in
    record {
      so_far = appended base _ _ _ c.loop-i.out c.append_separator.new.out c.append_element.new.out c.loop-i.invariant.so_far c.in_ok-append_separator.ensures.ok c.in_ok-append_element.ensures.ok
          ∙ ap (λ t. base ++ t) (sym (join_more (element_text c.args.inner.now) COMMA c.args.items.now c.loop-i.i c.index-items-i.result c.loop-i-test.true c.index-items-i.is));
      kept = kept_more _ _ _ _ (kept_more _ _ _ _ c.loop-i.invariant.kept c.in_ok-append_separator.ensures.ok) c.in_ok-append_element.ensures.ok;
    }
