use Rattle.std.proofs.Common.{◌≡◌, ap, ◌∙◌}
use Rattle.std.proofs.lemmas.Result.{IfOk-weaker}
use Rattle.mt_table.specs.declared.projection.Projection.TheVariants.{Grouped}
use Rattle.mt_defs.specs.Rows.{key_of}
use Rattle.mt_defs.specs.Writer.{projection_rows}
use Rattle.mt_sort.specs.References.{rows_in}
use Rattle.mt_proj.specs.Runs.{rows_by_key}
use Rattle.mt_proj.proofs.WalkLemmas.{sorted_in_order, rows_by_key_sorted}
use Rattle.mt_proj.proofs.grouped.project_grouped.Goals as goal

pub grouped_rows-requires : goal.grouped_rows-requires
grouped_rows-requires c = record { in_order = sorted_in_order (key_of c.as_slice-columns.result.now) c.args.rows.now (rows_in c.as_slice.result.now) (ap rows_in c.as_slice.ensures.value ∙ c.in_ok-sorted.ensures) }

pub returns : goal.returns
returns c table name =
    let columns_are : c.as_slice-columns.result.now ≡ c.args.keys.now = c.as_slice-columns.ensures.value ∙ c.in_ok-indexes.ensures in
    let sorted_are = ap rows_in c.as_slice.ensures.value ∙ c.in_ok-sorted.ensures in
    let all : rows_by_key c.as_slice-columns.result.now c.args.aggs.now (rows_in c.as_slice.result.now) ≡ projection_rows table (Grouped name c.args.keys.now c.args.aggs.now) c.args.rows.now =
    ap (rows_by_key c.as_slice-columns.result.now c.args.aggs.now) sorted_are ∙ rows_by_key_sorted c.as_slice-columns.result.now c.args.aggs.now name c.args.rows.now
    ∙ ap (λ keys. projection_rows table (Grouped name keys c.args.aggs.now) c.args.rows.now) columns_are in
    IfOk-weaker c.grouped_rows.result (λ made. made ≡ rows_by_key c.as_slice-columns.result.now c.args.aggs.now (rows_in c.as_slice.result.now)) (λ made. made ≡ projection_rows table (Grouped name c.args.keys.now c.args.aggs.now) c.args.rows.now)
    (λ made is. is ∙ all) c.grouped_rows.ensures
