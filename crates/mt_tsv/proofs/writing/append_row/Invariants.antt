use Rattle.std.proofs.Common.{◌≡◌, ◌++◌, take, length}
use Rattle.std.specs.List.{join_with_byte}
use Rattle.mt_tsv.specs.declared.ascii.TheConstants.{TAB}
use Rattle.mt_tsv.specs.Printing.{field_texts}
use Rattle.mt_tsv.proofs.writing.append_row.Given as goal

abbrev pub invariant-loop-i : goal.invariant-loop-i
invariant-loop-i l = record {
  so_far : l.out ≡ l.fn.out ++ join_with_byte TAB (field_texts (take l.i l.columns) (take l.i l.values));
  kept : take (length l.fn.out) l.out ≡ l.fn.out;
  values : l.values ≡ l.row;
}
