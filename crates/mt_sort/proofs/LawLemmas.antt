-- The rows in key order are the one stable reordering.
use Rattle.std.proofs.Common.{◌≡◌, ℕ, List, sym, subst}
use Rattle.std.specs.List.{filter}
use Rattle.std.specs.List.Sorted.{IsStable}
use Rattle.mt_defs.specs.Rows.{Row, key_cmp}
use Rattle.mt_defs.specs.Sorting.{IsStablySorted, sorted_by, sorted_rows}
use Rattle.mt_defs.proofs.Sorted.{IsSorted-sorted_rows}
use Rattle.mt_sort.proofs.OrderLemmas.{key_cmp_total}
use Rattle.mt_sort.proofs.SortedLemmas.{IsPermutation-sorted_by}
use Rattle.mt_sort.proofs.StableLemmas.{sorted_keeps, the_one, ties_alike}

stable : (sort : List ℕ) (rows : List Row) → IsStable (key_cmp sort) rows (sorted_rows sort rows)
stable sort rows row =
    let R = key_cmp sort in
    subst (λ p. filter p (sorted_by R rows) ≡ filter p rows) (sym (ties_alike R (key_cmp_total sort) row)) (sorted_keeps R (key_cmp_total sort) row rows)

pub stably_sorted : (sort : List ℕ) (rows : List Row) → IsStablySorted (key_cmp sort) rows (sorted_rows sort rows)
stably_sorted sort rows = (IsPermutation-sorted_by (key_cmp sort) rows, IsSorted-sorted_rows sort rows, stable sort rows)

pub only_sorted : (sort : List ℕ) (rows others : List Row) → IsStablySorted (key_cmp sort) rows others → others ≡ sorted_rows sort rows
only_sorted sort rows others is = the_one (key_cmp sort) (key_cmp_total sort) rows others is.1 is.2
