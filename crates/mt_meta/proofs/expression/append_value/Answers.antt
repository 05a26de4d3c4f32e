use Rattle.std.proofs.Common.{sym, subst, get_or}
use Rattle.std.specs.Prelude.{IsTrue}
use Rattle.mt_types.specs.Fits.{fits_of}
use Rattle.mt_table.specs.declared.partition.PartExpr.TheVariants.{Month}
use Rattle.mt_defs.proofs.RowLemmas.{cell_fits}
use Rattle.mt_meta.specs.PartitionKeys.{IsKeyExpression}
use Rattle.mt_meta.proofs.PartitionLemmas.{has_cell, has_value}
use Rattle.mt_meta.proofs.expression.append_value.Goals as goal

pub cell-requires : goal.cell-requires
cell-requires c = has_cell c.args.columns.now c.args.row.now c.in-Plain.i c.requires.fits (subst (IsKeyExpression c.args.columns.now) c.in-Plain.is c.requires.expression).0

pub put_item-requires-clause-fits : goal.put_item-requires-clause-fits
put_item-requires-clause-fits c =
    let column = c.index-columns-i.result in
    let known = (subst (IsKeyExpression c.args.columns.now) c.in-Plain.is c.requires.expression).0 in
    subst (λ v. IsTrue (fits_of (get_or c.args.columns.now c.in-Plain.i column).ty v)) (sym c.cell.ensures) (cell_fits c.args.columns.now c.args.row.now c.in-Plain.i column c.requires.fits known)

pub append_month-requires : goal.append_month-requires
append_month-requires c = has_value c.args.columns.now c.args.row.now (Month c.in-Month.i) (subst (IsKeyExpression c.args.columns.now) c.in-Month.is c.requires.expression) c.requires.fits
