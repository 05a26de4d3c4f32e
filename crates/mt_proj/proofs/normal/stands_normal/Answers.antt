use Rattle.std.proofs.Common.{◌≡◌, ◌↔◌, map, ap, ◌∙◌, subst}
use Rattle.std.specs.Prelude.{IsTrue, IsPermutation}
use Rattle.mt_defs.specs.Projections.{stored_columns}
use Rattle.mt_defs.specs.Rows.{key_of}
use Rattle.mt_sort.specs.References.{rows_in}
use Rattle.mt_proj.specs.Keys.{columns_below}
use Rattle.mt_proj.proofs.NormalLemmas.{selection_stands}
use Rattle.mt_proj.proofs.normal.stands_normal.Goals as goal

pub returns : goal.returns
returns c =
    let columns = c.as_slice-columns.result.now in
    let columns_are : columns ≡ stored_columns c.args.table.now c.args.columns.now = c.as_slice-columns.ensures ∙ c.in_ok-selected.ensures ∙ ap (λ n. columns_below n c.args.columns.now) c.len.ensures in
    subst (λ some. IsTrue c.are_cells.result ↔ IsPermutation (map (key_of some) c.args.rows.now) c.args.stored.now) columns_are
    (selection_stands columns c.args.rows.now c.args.stored.now (rows_in c.as_slice.result.now) (rows_in c.as_slice-2.result.now) c.are_cells.result (ap rows_in c.as_slice.ensures.value ∙ c.in_ok-wanted.ensures)
    (ap rows_in c.as_slice-2.ensures.value ∙ c.in_ok-found.ensures) c.are_cells.ensures)
