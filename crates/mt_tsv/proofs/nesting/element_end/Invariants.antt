use Rattle.std.proofs.Common.{◌≡◌, ◌≤◌, drop, take}
use Rattle.mt_tsv.specs.declared.nesting.Nesting.TheVariants.{Outside}
use Rattle.mt_tsv.specs.Nesting.{elements_from, depth_of}
use Rattle.mt_tsv.proofs.Elements.{glued}
use Rattle.mt_tsv.proofs.nesting.element_end.Given as goal

abbrev pub invariant-loop-i : goal.invariant-loop-i
invariant-loop-i l = record {
  left : glued (take l.i l.content) (elements_from l.nesting (drop l.i l.content)) ≡ elements_from (Outside 0) l.content;
  depth : depth_of l.nesting ≤ l.i;
}
