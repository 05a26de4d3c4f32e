use Rattle.std.proofs.Common.{◌≡◌, ◌++◌, [], ◌∷◌, take, map, length}
use Rattle.std.specs.List.{join_with_byte}
use Rattle.mt_tsv.specs.declared.ascii.TheConstants.{OPEN, COMMA}
use Rattle.mt_tsv.specs.Printing.{element_text}
use Rattle.mt_tsv.proofs.print.+print.Given as goal

abbrev pub invariant-append_array-loop-i : goal.invariant-append_array-loop-i
invariant-append_array-loop-i l = record {
  so_far : l.out ≡ (l.fn.out ++ OPEN ∷ []) ++ join_with_byte COMMA (map (element_text l.inner) (take l.i l.items));
  kept : take (length l.fn.out) l.out ≡ l.fn.out;
}
