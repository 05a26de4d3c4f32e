use Rattle.std.proofs.Common.{◌≡◌, ℕ, List, map, ap, ◌∙◌}
use Rattle.std.proofs.lemmas.Result.{IfOk-weaker}
use Rattle.mt_table.specs.declared.projection.Projection.TheVariants.{Normal}
use Rattle.mt_defs.specs.Rows.{Row, key_of}
use Rattle.mt_defs.specs.Projections.{stored_columns, index_in}
use Rattle.mt_defs.specs.Sorting.{sorted_rows}
use Rattle.mt_defs.specs.Writer.{projection_rows}
use Rattle.mt_proj.specs.Keys.{columns_below}
use Rattle.mt_proj.proofs.normal.project_normal.Goals as goal

pub returns : goal.returns
returns c name =
    let table = c.args.table.now in
    let chosen = c.args.columns.now in
    let sort = c.args.sort.now in
    let rows = c.args.rows.now in
    let stored : List ℕ = stored_columns table chosen in
    let below : columns_below c.len.result chosen ≡ stored = ap (λ n. columns_below n chosen) c.len.ensures in
    let first : c.as_slice.result.now ≡ stored = c.as_slice.ensures ∙ c.in_ok-stored.ensures ∙ below in
    let second : c.as_slice-2.result.now ≡ stored = c.as_slice-2.ensures ∙ c.in_ok-stored.ensures ∙ below in
    let key : c.as_slice-3.result.now ≡ map (index_in stored) sort = c.as_slice-3.ensures.value ∙ c.in_ok-key.ensures ∙ ap (λ s. map (index_in s) sort) first in
    let cells : List Row = map (key_of stored) rows in
    let made : c.in_ok-made.made.items ≡ cells = c.in_ok-made.ensures ∙ ap (λ s. map (key_of s) rows) second in
    IfOk-weaker c.sort_rows.result (λ sorted. sorted ≡ sorted_rows c.as_slice-3.result.now c.in_ok-made.made.items)
    (λ sorted. sorted ≡ projection_rows table (Normal name chosen sort) rows)
    (λ sorted e. e ∙ ap (λ k. sorted_rows k c.in_ok-made.made.items) key ∙ ap (sorted_rows (map (index_in stored) sort)) made) c.sort_rows.ensures
