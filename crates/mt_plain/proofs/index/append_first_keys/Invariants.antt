use Rattle.std.proofs.Common.{◌≡◌, ◌++◌, drop}
use Rattle.mt_plain.specs.NumberRows.{HasNumbers, items_of_column}
use Rattle.mt_plain.proofs.IndexLemmas.{first_rows}
use Rattle.mt_plain.proofs.index.append_first_keys.Given as goal

abbrev pub invariant-loop-count : goal.invariant-loop-count
invariant-loop-count l = record {
  ahead : l.out ++ items_of_column l.key (first_rows (drop l.count-index l.granules) l.rest) ≡ l.initial.out ++ items_of_column l.key (first_rows l.granules l.rows);
  numbers : HasNumbers l.key l.rest;
}
