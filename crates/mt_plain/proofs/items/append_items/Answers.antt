use Rattle.std.proofs.Common.{sym, subst}
use Rattle.std.specs.Prelude.{IsTrue}
use Rattle.std.proofs.lemmas.List.Elements.{All-get_or}
use Rattle.mt_types.specs.declared.ty.Ty.TheVariants.{UInt}
use Rattle.mt_types.specs.declared.ty.Width.TheVariants.{W64}
use Rattle.mt_types.specs.Fits.{fits_of}
use Rattle.mt_defs.specs.Rows.{Row, cell}
use Rattle.mt_plain.proofs.items.append_items.Goals as goal

pub append_cell-requires : goal.append_cell-requires
append_cell-requires c =
    let P : Row → Type 0 = λ row. IsTrue (fits_of (UInt W64) (cell row c.args.column_index)) in
    subst P (sym c.row-item.is) (All-get_or P c.args.rows.now c.loop-row.row-index c.row-item.result c.loop-row-test.true c.requires)
