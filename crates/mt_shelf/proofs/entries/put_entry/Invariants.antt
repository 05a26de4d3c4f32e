use Rattle.std.proofs.Common.{◌≡◌, ◌++◌, take, drop, length}
use Rattle.mt_shelf.specs.Held.{with_entry}
use Rattle.mt_shelf.proofs.entries.put_entry.Given as goal

abbrev pub invariant-loop-i : goal.invariant-loop-i
invariant-loop-i l = record {
  same : l.entries.items ≡ l.fn.entries.items;
  end : l.i-end ≡ length l.entries.items;
  put : with_entry l.entry.name l.entry.size l.entries.items ≡ take l.i l.entries.items ++ with_entry l.entry.name l.entry.size (drop l.i l.entries.items);
}
