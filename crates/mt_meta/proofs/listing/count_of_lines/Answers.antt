use Rattle.std.proofs.Common.{sym, ◌∙◌, arith}
use Rattle.std.proofs.lemmas.Bool.{eqb-true, eqb-false}
use Rattle.mt_meta.specs.declared.ascii.TheConstants.{LINE_END}
use Rattle.mt_meta.proofs.SplitLemmas.{lines_end, lines_more}
use Rattle.mt_meta.proofs.ListingLemmas.{counted_start, counted_more, counted_none, counted_end, lines_bad, lines_ended, lines_cut}
use Rattle.mt_meta.proofs.listing.count_of_lines.Goals as goal

pub lines-init : goal.lines-init
lines-init c = record { so_far = counted_start _; room = omega arith }

pub returns-then-is_empty : goal.returns-then-is_empty
returns-then-is_empty c =
    let here = lines_end LINE_END c.lines.rest.now (sym c.in_default.ensures.parts) in
    sym (counted_end c.lines.count _ _ (lines_ended _ c.lines.rest.now here (eqb-true _ _ (sym c.is_empty.ensures ∙ c.if-is_empty.true))) c.lines.invariant.so_far)

pub returns-else-is_empty : goal.returns-else-is_empty
returns-else-is_empty c =
    let here = lines_end LINE_END c.lines.rest.now (sym c.in_default.ensures.parts) in
    sym (counted_none c.lines.count _ _ (lines_cut _ c.lines.rest.now here (eqb-false _ _ (sym c.is_empty.ensures ∙ c.if-is_empty.false))) c.lines.invariant.so_far)

pub returns-then-not-is_column_line : goal.returns-then-not-is_column_line
returns-then-not-is_column_line c =
    let here = lines_more LINE_END c.lines.rest.now c.in-Some.line.now c.in-Some.after.now (sym c.in-Some.ensures.parts) in
    sym (counted_none c.lines.count _ _ (lines_bad _ c.in-Some.line.now c.in-Some.after.now _ here (sym c.is_column_line.ensures ∙ c.if-not-is_column_line.true)) c.lines.invariant.so_far)

pub lines-preserved : goal.lines-preserved
lines-preserved c =
    let here = lines_more LINE_END c.lines.rest.now c.in-Some.line.now c.in-Some.after.now (sym c.in-Some.ensures.parts) in
    record {
      so_far = counted_more c.lines.count _ c.in-Some.line.now c.in-Some.after.now _ _ here (sym c.is_column_line.ensures ∙ c.if-not-is_column_line.false) c.lines.invariant.so_far;
      room = omega (arith, c.lines.invariant.room, c.in-Some.ensures.shorter);
    }
