use Rattle.std.proofs.Common.{sym, ◌∙◌, arith, refl}
use Rattle.mt_tsv.specs.declared.nesting.Nesting.TheVariants.{Outside}
use Rattle.mt_tsv.specs.Nesting.{elements_from}
use Rattle.mt_tsv.proofs.Elements.{glued-nil, glued_more, glued_stop, glued_end}
use Rattle.mt_tsv.proofs.nesting.element_end.Goals as goal

pub loop-i-init : goal.loop-i-init
loop-i-init c = record { left = glued-nil (Outside 0) c.args.content.now; depth = omega arith }

pub returns-then-is_comma-clause-end : goal.returns-then-is_comma-clause-end
returns-then-is_comma-clause-end c = glued_stop c.args.content.now c.loop-i.i _ c.loop-i.nesting (elements_from (Outside 0) c.args.content.now) c.loop-i-test.true refl (sym c.is_comma.ensures ∙ c.if-is_comma.true) c.loop-i.invariant.left

pub loop-i-preserved : goal.loop-i-preserved
loop-i-preserved c = record {
  left = rw c.after-nesting.ensures.next (glued_more c.args.content.now c.loop-i.i _ c.loop-i.nesting (elements_from (Outside 0) c.args.content.now) c.loop-i-test.true refl (sym c.is_comma.ensures ∙ c.if-is_comma.false) c.loop-i.invariant.left);
  depth = omega (arith, c.after-nesting.ensures.deeper, c.loop-i.invariant.depth);
}

pub returns-clause-end : goal.returns-clause-end
returns-clause-end c = glued_end c.args.content.now c.loop-i.i c.loop-i.nesting (elements_from (Outside 0) c.args.content.now) c.loop-i-test.false c.loop-i.invariant.left
