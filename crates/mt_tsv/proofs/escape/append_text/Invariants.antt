use Rattle.std.proofs.Common.{◌≡◌, ◌++◌, ◌≤◌, take, length, slice_range}
use Rattle.mt_tsv.specs.Printing.{escaped_text}
use Rattle.mt_tsv.proofs.escape.append_text.Given as goal

abbrev pub invariant-loop-i : goal.invariant-loop-i
invariant-loop-i l = record {
  so_far : l.out ++ slice_range l.text l.run_start l.i ≡ l.fn.out ++ escaped_text (take l.i l.text);
  run : l.run_start ≤ l.i;
  kept : take (length l.fn.out) l.out ≡ l.fn.out;
}
