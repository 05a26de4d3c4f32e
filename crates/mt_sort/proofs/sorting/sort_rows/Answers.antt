use Rattle.std.proofs.Common.{rules}
use Rattle.mt_defs.specs.Rows.{key_cmp}
use Rattle.mt_sort.proofs.SortedLemmas.{sorted_in_order}
use Rattle.mt_sort.proofs.sorting.sort_rows.Goals as goal

pub returns-then-is_in_order : goal.returns-then-is_in_order
returns-then-is_in_order c =
    sorted_in_order (key_cmp c.args.table.now.sort) c.args.rows (search rules)
