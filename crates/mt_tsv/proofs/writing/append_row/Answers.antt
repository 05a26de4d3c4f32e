use Rattle.std.proofs.Common.{◌++◌, [], ◌∷◌, take, ap, sym, ◌∙◌, append_assoc, length, arith}
use Rattle.std.specs.List.{join_with_byte}
use Rattle.std.proofs.Math.Seq.{take-length}
use Rattle.std.proofs.lemmas.List.{append-nil, take_all}
use Rattle.mt_tsv.specs.declared.ascii.TheConstants.{TAB, LINE_END}
use Rattle.mt_tsv.specs.Printing.{separator, field_text, field_texts, row_text}
use Rattle.mt_tsv.proofs.Joins.{join_one_more, field_texts_more, length-field_texts, appended}
use Rattle.mt_tsv.proofs.Kept.{kept_more}
use Rattle.mt_tsv.proofs.writing.append_row.Goals as goal

pub loop-i-init : goal.loop-i-init
unfolding field_texts
loop-i-init c = record { so_far = sym (append-nil c.args.out.now); kept = take-length c.args.out.now; values = c.as_slice-values.ensures }

pub loop-i-preserved : goal.loop-i-preserved
loop-i-preserved c =
    let old = c.args.out.now in
    let texts = field_texts (take c.loop-i.i c.args.columns.now) (take c.loop-i.i c.as_slice-values.result.now) in
    let text = field_text c.index-columns-i.result.ty c.index-values-i.result in
    let same = ap length c.loop-i.invariant.values in
    let n = length-field_texts c.args.columns.now c.as_slice-values.result.now c.loop-i.i (omega (arith, c.loop-i-test.true)) (omega (arith, c.loop-i-test.true, same, c.requires)) in
    let more = field_texts_more c.args.columns.now c.as_slice-values.result.now c.loop-i.i c.index-columns-i.result c.index-values-i.result c.loop-i-test.true (omega (arith, c.loop-i-test.true, same, c.requires)) c.index-columns-i.is c.index-values-i.is in
    record {
      so_far = appended old _ _ _ c.loop-i.out c.append_separator.new.out c.append_field.new.out c.loop-i.invariant.so_far c.in_ok-append_separator.ensures.ok c.in_ok-append_field.ensures.ok
          ∙ ap (λ k. old ++ (join_with_byte TAB texts ++ (separator k TAB ++ text))) (sym n) ∙ ap (λ t. old ++ t) (sym (join_one_more TAB texts text)) ∙ ap (λ t. old ++ join_with_byte TAB t) (sym more);
      kept = kept_more _ _ _ _ (kept_more _ _ _ _ c.loop-i.invariant.kept c.in_ok-append_separator.ensures.ok) c.in_ok-append_field.ensures.ok;
      values = c.loop-i.invariant.values;
    }

pub returns-clause-ok : goal.returns-clause-ok
unfolding row_text
returns-clause-ok c =
    let old = c.args.out.now in
    let columns = take_all c.loop-i.i c.args.columns.now c.loop-i-test.false in
    let values = take_all c.loop-i.i c.as_slice-values.result.now (omega (arith, c.loop-i-test.false, ap length c.loop-i.invariant.values, c.requires)) ∙ c.loop-i.invariant.values in
    let whole = c.loop-i.invariant.so_far ∙ ap (λ t. old ++ join_with_byte TAB t) (ap (λ t. field_texts t (take c.loop-i.i c.as_slice-values.result.now)) columns ∙ ap (field_texts c.args.columns.now) values) in
    c.in_ok-append.ensures.ok ∙ ap (λ t. t ++ LINE_END ∷ []) whole ∙ append_assoc old (join_with_byte TAB (field_texts c.args.columns.now c.args.row.now)) (LINE_END ∷ [])
