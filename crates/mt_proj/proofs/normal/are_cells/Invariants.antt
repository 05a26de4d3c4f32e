use Rattle.std.proofs.Common.{◌≡◌, drop, map}
use Rattle.std.specs.Cmp.Lexicographic.{slice_cmp}
use Rattle.mt_types.specs.Order.{values_cmp}
use Rattle.mt_defs.specs.Rows.{key_of}
use Rattle.mt_sort.specs.References.{rows_in}
use Rattle.mt_proj.proofs.normal.are_cells.Given as goal

-- what is left decides
abbrev pub invariant-loop-i : goal.invariant-loop-i
invariant-loop-i l =
    slice_cmp values_cmp (map (key_of l.columns) (rows_in (drop l.i l.rows))) (rows_in (drop l.i l.values))
    ≡ slice_cmp values_cmp (map (key_of l.columns) (rows_in l.rows)) (rows_in l.values)
