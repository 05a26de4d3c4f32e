use Rattle.std.proofs.Common.{◌≡◌, ap, sym, ◌∙◌, arith}
use Rattle.mt_table.specs.declared.column.Column.{Column}
use Rattle.mt_defs.specs.Rows.{cell}
use Rattle.mt_layout.specs.Sizes.{saturated, value_size}
use Rattle.mt_layout.proofs.PayloadLemmas.{one_more_column, all_columns}
use Rattle.mt_layout.proofs.rows.row_size.Goals as goal

pub loop-i-preserved : goal.loop-i-preserved
loop-i-preserved c =
    let sized : c.cell_size.result ≡ saturated (value_size c.index-columns-i.result.ty (cell c.args.row.now c.loop-i.i)) =
    c.cell_size.ensures ∙ ap (λ (column : Column). saturated (value_size column.ty (cell c.args.row.now c.loop-i.i))) (sym c.index-columns-i.is) in
    one_more_column c.args.columns.now c.args.row.now c.loop-i.i c.index-columns-i.result c.loop-i.size c.cell_size.result c.saturating_add-size.result
    (omega arith) c.index-columns-i.is c.loop-i.invariant sized c.saturating_add-size.ensures

pub returns : goal.returns
returns c = all_columns c.args.columns.now c.args.row.now c.loop-i.i c.loop-i.size (omega arith) c.loop-i.invariant
