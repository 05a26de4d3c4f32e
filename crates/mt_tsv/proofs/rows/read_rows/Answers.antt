use Rattle.std.proofs.Common.{◌∷◌, length, sym, ap, ◌∙◌, arith}
use Rattle.std.specs.Option.{option_copied}
use Rattle.std.proofs.lemmas.Bool.{eqb-true, eqb-false}
use Rattle.std.proofs.lemmas.List.{length_push}
use Rattle.mt_types.proofs.ByteLemmas.{all_bytes}
use Rattle.mt_tsv.specs.declared.ascii.TheConstants.{LINE_END}
use Rattle.mt_table.specs.declared.limits.TheConstants.{MAX_CELLS}
use Rattle.mt_tsv.specs.Reading.{parts, lines, rows_of_lines, rows_reading}
use Rattle.mt_tsv.proofs.Prefixes.{with_prefix-nil}
use Rattle.mt_tsv.proofs.Lines.{rows_ended, rows_cut, rows_bad, rows_over, cells_over, rows_more}
use Rattle.mt_tsv.proofs.RowLimits.{few_rows, few_cells, some_rows}
use Rattle.mt_tsv.proofs.RowsFit.{rows_fit}
use Rattle.mt_tsv.proofs.rows.read_rows.Goals as goal

pub lines-init : goal.lines-init
unfolding rows_reading
lines-init c = record {
  so_far = rw c.new-rows.ensures (with_prefix-nil (rows_of_lines c.args.table.now.columns 0 MAX_CELLS (lines c.args.text.now)));
  columns = c.as_slice-columns.ensures;
  within = rw c.new-rows.ensures (omega arith);
}

pub returns-then-is_empty : goal.returns-then-is_empty
returns-then-is_empty c =
    let here = c.cut.ensures.parts ∙ ap (λ o. c.cut.result.0.now ∷ parts LINE_END (option_copied o)) c.in_default.is in
    let reads = rows_ended c.lines.rows c.args.table.now.columns (length c.lines.rows) c.lines.room (lines c.lines.rest.now) c.cut.result.0.now (rows_reading c.args.table.now.columns c.args.text.now) here (eqb-true _ _ (sym c.is_empty.ensures ∙ c.if-is_empty.true)) c.lines.invariant.so_far in
    record {
      reads = reads;
      fit = rows_fit c.args.table.now.columns c.args.text.now c.lines.rows (all_bytes c.args.text.now c.type_inv.text) reads;
      few_rows = few_rows c.args.table.now.columns c.args.text.now c.lines.rows reads;
      few_cells = few_cells c.args.table.now.columns c.args.text.now c.lines.rows reads;
      some = some_rows c.args.table.now.columns c.args.text.now c.lines.rows reads;
    }

pub returns-in_default-clause-reads : goal.returns-in_default-clause-reads
returns-in_default-clause-reads c =
    let here = c.cut.ensures.parts ∙ ap (λ o. c.cut.result.0.now ∷ parts LINE_END (option_copied o)) c.in_default.is in
    rw c.len.ensures (rows_cut c.lines.rows c.args.table.now.columns (length c.lines.rows) c.lines.room (lines c.lines.rest.now) c.cut.result.0.now (rows_reading c.args.table.now.columns c.args.text.now) here (eqb-false _ _ (sym c.is_empty.ensures ∙ c.if-is_empty.false)) c.lines.invariant.so_far)

pub returns-in-Err-clause-reads : goal.returns-in-Err-clause-reads
returns-in-Err-clause-reads c =
    let here = c.cut.ensures.parts ∙ ap (λ o. c.cut.result.0.now ∷ parts LINE_END (option_copied o)) c.in-Some.is in
    let fails = rw c.lines.invariant.columns at c.in-Err.ensures in
    rw (c.at_line.ensures, c.len.ensures) (rows_bad c.in-Err.error c.lines.rows c.args.table.now.columns (length c.lines.rows) c.lines.room (lines c.lines.rest.now) c.cut.result.0.now c.in-Some.after.now _ (rows_reading c.args.table.now.columns c.args.text.now) here fails c.lines.invariant.so_far)

pub returns-then-len-ge-MAX_ROWS-clause-reads : goal.returns-then-len-ge-MAX_ROWS-clause-reads
returns-then-len-ge-MAX_ROWS-clause-reads c =
    let here = c.cut.ensures.parts ∙ ap (λ o. c.cut.result.0.now ∷ parts LINE_END (option_copied o)) c.in-Some.is in
    let good = rw c.lines.invariant.columns at c.in-Ok.ensures in
    rows_over c.lines.rows c.args.table.now.columns (length c.lines.rows) c.lines.room (lines c.lines.rest.now) c.cut.result.0.now c.in-Some.after.now _ c.in-Ok.row (rows_reading c.args.table.now.columns c.args.text.now) here good (omega (arith, c.len-in-lines.ensures)) c.lines.invariant.so_far

pub returns-in_default-room_after-clause-reads : goal.returns-in_default-room_after-clause-reads
returns-in_default-room_after-clause-reads c =
    let here = c.cut.ensures.parts ∙ ap (λ o. c.cut.result.0.now ∷ parts LINE_END (option_copied o)) c.in-Some.is in
    let good = rw c.lines.invariant.columns at c.in-Ok.ensures in
    let none = rw c.as_slice.ensures at (sym c.room_after.ensures ∙ c.in_default-room_after.is) in
    cells_over c.lines.rows c.args.table.now.columns (length c.lines.rows) c.lines.room (lines c.lines.rest.now) c.cut.result.0.now c.in-Some.after.now _ c.in-Ok.row (rows_reading c.args.table.now.columns c.args.text.now) here good (omega (arith, c.len-in-lines.ensures)) none c.lines.invariant.so_far

pub lines-preserved : goal.lines-preserved
lines-preserved c =
    let here = c.cut.ensures.parts ∙ ap (λ o. c.cut.result.0.now ∷ parts LINE_END (option_copied o)) c.in-Some.is in
    let good = rw c.lines.invariant.columns at c.in-Ok.ensures in
    let some = rw c.as_slice.ensures at (sym c.room_after.ensures ∙ c.in-Some-room_after.is) in
    let more = rows_more c.lines.rows c.args.table.now.columns (length c.lines.rows) c.lines.room (lines c.lines.rest.now) c.cut.result.0.now c.in-Some.after.now _ c.in-Ok.row c.in-Some-room_after.left (rows_reading c.args.table.now.columns c.args.text.now) here good (omega (arith, c.len-in-lines.ensures)) some c.lines.invariant.so_far in
    record {
      so_far = rw (c.in_ok-push.ensures.ok, length_push c.lines.rows c.in-Ok.row) more;
      columns = c.lines.invariant.columns;
      within = rw (c.in_ok-push.ensures.ok, length_push c.lines.rows c.in-Ok.row) (omega (arith, c.len-in-lines.ensures));
    }
