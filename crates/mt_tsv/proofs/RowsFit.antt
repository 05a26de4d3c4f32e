-- Each row that is read of bytes has one value of its type per column.
use Rattle.std.proofs.Common.{◌≡◌, ℕ, List, [], ◌∷◌, length, Ok, true, sym, subst, arith, All, eqb}
use Rattle.std.specs.List.{list_all}
use Rattle.std.proofs.lemmas.Bool.{eqb-true}
use Rattle.std.proofs.lemmas.List.Elements.{All-head, All-tail}
use Rattle.mt_types.specs.Bytes.{is_byte}
use Rattle.mt_types.specs.declared.value.Value.{Value}
use Rattle.mt_table.specs.declared.column.Column.{Column}
use Rattle.mt_table.specs.Rows.{RowFits}
use Rattle.mt_table.specs.declared.limits.TheConstants.{MAX_CELLS}
use Rattle.mt_tsv.specs.declared.ascii.TheConstants.{LINE_END, TAB}
use Rattle.mt_tsv.specs.declared.fault.RowWhy.TheVariants.{Columns}
use Rattle.mt_tsv.specs.Fields.{field_of}
use Rattle.mt_tsv.specs.Reading.{field_values, row_of, line_fields, lines, rows_reading}
use Rattle.mt_tsv.proofs.FieldFits.{field_fits}
use Rattle.mt_tsv.proofs.ReadBytes.{AreBytes, from_test, split_bytes}
use Rattle.mt_tsv.proofs.RowLimits.{then_ok, passed, onto_ok, all_rows}

values_fit : (columns : List Column) (texts : List (List ℕ)) (values : List Value) → All AreBytes texts → length texts ≡ length columns → field_values columns texts ≡ Ok values → RowFits columns values
unfolding field_values
values_fit [] texts values are is e = let none : Ok [] ≡ Ok values = e in let empty : [] ≡ values = cc in subst (RowFits []) empty tt
values_fit (column ∷ columns) [] values are is e = absurd (omega (arith, is))
values_fit (column ∷ columns) (text ∷ texts) values are is e =
    let first = then_ok (field_of column.ty text) _ values e in
    let others = onto_ok first.0 (field_values columns texts) values first.2 in
    subst (RowFits (column ∷ columns)) (sym others.2) (
      field_fits column.ty text first.0 (All-head AreBytes text texts are) first.1,
      values_fit columns texts others.0 (All-tail AreBytes text texts are) (omega (arith, is)) others.1,
    )

pub row_fits : (columns : List Column) (line : List ℕ) (values : List Value) → AreBytes line → row_of columns line ≡ Ok values → RowFits columns values
unfolding row_of
row_fits columns line values are e =
    let counted = passed (eqb (length (line_fields line)) (length columns)) Columns (field_values columns (line_fields line)) values e in
    values_fit columns (line_fields line) values (split_bytes (λ b. eqb b TAB) line are) (eqb-true (length (line_fields line)) (length columns) counted.0) counted.1

pub rows_fit : (columns : List Column) (text : List ℕ) (rows : List (List Value)) → list_all is_byte text ≡ true → rows_reading columns text ≡ Ok rows → All (RowFits columns) rows
unfolding rows_reading
rows_fit columns text rows bytes e = all_rows AreBytes (RowFits columns) columns (row_fits columns) (lines text) (split_bytes (λ b. eqb b LINE_END) text (from_test text bytes)) 0 MAX_CELLS rows e
