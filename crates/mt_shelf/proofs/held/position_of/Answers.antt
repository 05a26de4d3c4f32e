use Rattle.std.proofs.Common.{nat_eq, ◌∙◌, ap, sym}
use Rattle.std.proofs.lemmas.List.{take_all}
use Rattle.std.specs.Cmp.Lexicographic.{pointwise}
use Rattle.mt_shelf.proofs.HeldFacts.{at_path, one_more, first_is, found_first, get-files_in}
use Rattle.mt_shelf.proofs.held.position_of.Goals as goal

pub returns-then-eq-clause-first : goal.returns-then-eq-clause-first
returns-then-eq-clause-first c = first_is c.args.path.now c.args.held.now c.loop-i.i c.index-held-i.result c.loop-i-test.true c.index-held-i.is c.loop-i.invariant (ap (pointwise nat_eq c.args.path.now) (sym c.as_slice.ensures) ∙ sym c.eq.ensures ∙ c.if-eq.true)

pub returns-then-eq-clause-found : goal.returns-then-eq-clause-found
returns-then-eq-clause-found c = found_first c.args.path.now c.args.held.now c.loop-i.i c.index-held-i.result c.loop-i-test.true c.index-held-i.is c.loop-i.invariant (ap (pointwise nat_eq c.args.path.now) (sym c.as_slice.ensures) ∙ sym c.eq.ensures ∙ c.if-eq.true)

pub loop-i-preserved : goal.loop-i-preserved
loop-i-preserved c = one_more c.args.path.now c.args.held.now c.loop-i.i c.index-held-i.result c.loop-i-test.true c.index-held-i.is c.loop-i.invariant (ap (pointwise nat_eq c.args.path.now) (sym c.as_slice.ensures) ∙ sym c.eq.ensures ∙ c.if-eq.false)

pub returns-clause-first : goal.returns-clause-first
returns-clause-first c = get-files_in c.args.held.now c.args.path.now ∙ ap (at_path c.args.path.now) (sym (take_all c.loop-i.i c.args.held.now c.loop-i-test.false)) ∙ c.loop-i.invariant
