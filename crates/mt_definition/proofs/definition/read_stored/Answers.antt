use Rattle.std.proofs.Common.{◌≡◌, ◌∙◌, ◌≤◌, true, sym, ap, subst, arith, ℕ, List, length, map}
use Rattle.std.specs.Prelude.{All, IsTrue}
use Rattle.std.specs.List.{list_all}
use Rattle.std.proofs.lemmas.List.{length-map}
use Rattle.std.proofs.lemmas.Result.{err_from_is_err_and}
use Rattle.mt_types.specs.Profile.{is_profile}
use Rattle.mt_table.specs.declared.column.Column.{Column}
use Rattle.mt_table.specs.declared.definition.PartDef.{PartDef}
use Rattle.mt_table.specs.declared.limits.TheConstants.{MAX_CELLS}
use Rattle.mt_table.specs.Kept.{is_place}
use Rattle.mt_defs.specs.Folder.{folder_of}
use Rattle.mt_defs.specs.Metadata.{column_at}
use Rattle.mt_defs.specs.Rows.{RowFits}
use Rattle.mt_defs.proofs.ListedColumns.{listed, listed_few, listed_some}
use Rattle.mt_files.proofs.PlaceLemmas.{listed_profile}
use Rattle.mt_definition.specs.RowsReading.{whole_row}
use Rattle.mt_definition.proofs.StoredLemmas.{order_fails, count_fails, data_fails, fewer_cells, may_places, rows_long, stored_read}
use Rattle.mt_definition.proofs.WholeRows.{rows_fit}
use Rattle.mt_definition.proofs.definition.read_stored.Goals as goal

pub returns-in_err-order-clause-gives : goal.returns-in_err-order-clause-gives
returns-in_err-order-clause-gives c =
    let p = err_from_is_err_and c.from_residual.result c.from_residual.ensures.1 in
    rw (p.1, p.2) (order_fails c.args.definition.now (folder_of c.args.files.now) c.in_err-order.field-0.0 c.in_err-order.ensures.gives)

pub returns-in_err-count-clause-gives : goal.returns-in_err-count-clause-gives
returns-in_err-count-clause-gives c =
    let p = err_from_is_err_and c.from_residual-in_err-count.result c.from_residual-in_err-count.ensures.1 in
    rw (p.1, p.2) (count_fails c.args.definition.now (folder_of c.args.files.now) c.in_ok-order.order c.in_err-count.field-0.0 c.in_ok-order.ensures.gives c.in_err-count.ensures.gives)

pub listed_columns-requires : goal.listed_columns-requires
listed_columns-requires c =
    may_places c.args.definition.now c.in_ok-order.order c.as_slice.result.now c.as_slice-2.result.now c.as_slice.ensures c.as_slice-2.ensures c.in_ok-order.ensures.listed

pub read_data-requires-clause-some : goal.read_data-requires-clause-some
read_data-requires-clause-some c =
    let order = c.in_ok-order.order in
    let size : length c.as_slice-3.result.now ≡ length order =
    ap length (c.as_slice-3.ensures ∙ c.in-Ok.ensures) ∙ length-map c.as_slice-2.result.now (column_at c.as_slice.result.now) ∙ ap length c.as_slice-2.ensures in
    let some = listed_some c.args.definition.now.columns c.args.definition.now.must order c.in_ok-order.ensures.listed c.requires.listed in
    omega (arith, size, some)

pub read_data-requires-clause-few : goal.read_data-requires-clause-few
read_data-requires-clause-few c =
    let order = c.in_ok-order.order in
    let size : length c.as_slice-3.result.now ≡ length order =
    ap length (c.as_slice-3.ensures ∙ c.in-Ok.ensures) ∙ length-map c.as_slice-2.result.now (column_at c.as_slice.result.now) ∙ ap length c.as_slice-2.ensures in
    let fewer = listed_few c.args.definition.now.columns c.args.definition.now.must order c.in_ok-order.ensures.listed in
    let few = c.requires.columns.few in
    omega (arith, size, fewer, few)

pub read_data-requires-clause-cells : goal.read_data-requires-clause-cells
read_data-requires-clause-cells c =
    let order = c.in_ok-order.order in
    let size : length c.as_slice-3.result.now ≡ length order =
    ap length (c.as_slice-3.ensures ∙ c.in-Ok.ensures) ∙ length-map c.as_slice-2.result.now (column_at c.as_slice.result.now) ∙ ap length c.as_slice-2.ensures in
    let fewer = listed_few c.args.definition.now.columns c.args.definition.now.must order c.in_ok-order.ensures.listed in
    fewer_cells c.in_ok-count.count (length c.as_slice-3.result.now) (length c.args.definition.now.columns) (omega (arith, size, fewer)) c.in_ok-count.ensures.cells

pub read_data-requires-clause-profile : goal.read_data-requires-clause-profile
read_data-requires-clause-profile c =
    let columns = c.args.definition.now.columns in
    let ordered = c.as_slice-3.ensures ∙ c.in-Ok.ensures ∙ ap (λ (cs : List Column). map (column_at cs) c.as_slice-2.result.now) c.as_slice.ensures ∙ ap (map (column_at columns)) c.as_slice-2.ensures in
    subst (All (λ column. IsTrue (is_profile column.ty))) (sym ordered) (listed_profile columns c.in_ok-order.order (listed columns c.args.definition.now.must c.in_ok-order.order c.in_ok-order.ensures.listed).known c.requires.columns.profile)

pub returns-in_err-rows-clause-gives : goal.returns-in_err-rows-clause-gives
returns-in_err-rows-clause-gives c =
    let p = err_from_is_err_and c.from_residual-in_err-rows.result c.from_residual-in_err-rows.ensures.1 in
    let columns = c.args.definition.now.columns in
    let ordered = c.as_slice-3.ensures ∙ c.in-Ok.ensures ∙ ap (λ (cs : List Column). map (column_at cs) c.as_slice-2.result.now) c.as_slice.ensures ∙ ap (map (column_at columns)) c.as_slice-2.ensures in
    rw (p.1, p.2) (data_fails c.args.definition.now (folder_of c.args.files.now) c.in_ok-order.order c.in_ok-count.count c.as_slice-3.result.now c.in_err-rows.field-0.0 c.in_ok-order.ensures.gives c.in_ok-count.ensures.gives ordered c.in_err-rows.ensures.gives)

pub whole_rows-requires : goal.whole_rows-requires
whole_rows-requires c =
    let columns = c.args.definition.now.columns in
    let order = c.in_ok-order.order in
    let rows = c.in_ok-rows.rows in
    let ordered = c.as_slice-3.ensures ∙ c.in-Ok.ensures ∙ ap (λ (cs : List Column). map (column_at cs) c.as_slice-2.result.now) c.as_slice.ensures ∙ ap (map (column_at columns)) c.as_slice-2.ensures in
    subst (λ (o : List ℕ). All (λ row. length row ≡ length o) rows) (sym c.as_slice-5.ensures)
    (rows_long columns order rows (subst (λ (cs : List Column). All (RowFits cs) rows) ordered c.in_ok-rows.ensures.fit))

pub returns-in-Ok-whole_rows-clause-gives : goal.returns-in-Ok-whole_rows-clause-gives
returns-in-Ok-whole_rows-clause-gives c =
    let columns = c.args.definition.now.columns in
    let order = c.in_ok-order.order in
    let ordered = c.as_slice-3.ensures ∙ c.in-Ok.ensures ∙ ap (λ (cs : List Column). map (column_at cs) c.as_slice-2.result.now) c.as_slice.ensures ∙ ap (map (column_at columns)) c.as_slice-2.ensures in
    stored_read c.args.definition.now (folder_of c.args.files.now) order c.in_ok-count.count c.as_slice-3.result.now (c.in_ok-rows.rows, c.in_ok-rows.granules) c.in-Ok-whole_rows.rows c.in_ok-order.ensures.gives c.in_ok-count.ensures.gives ordered
    c.in_ok-rows.ensures.gives
    (c.in-Ok-whole_rows.ensures ∙ ap (λ (cs : List Column). map (whole_row cs c.as_slice-5.result.now) c.in_ok-rows.rows) c.as_slice-4.ensures ∙ ap (λ (o : List ℕ). map (whole_row columns o) c.in_ok-rows.rows) c.as_slice-5.ensures)

pub returns-in-Ok-whole_rows-clause-fit : goal.returns-in-Ok-whole_rows-clause-fit
returns-in-Ok-whole_rows-clause-fit c =
    let columns = c.args.definition.now.columns in
    let order = c.in_ok-order.order in
    let rows = c.in_ok-rows.rows in
    let ordered = c.as_slice-3.ensures ∙ c.in-Ok.ensures ∙ ap (λ (cs : List Column). map (column_at cs) c.as_slice-2.result.now) c.as_slice.ensures ∙ ap (map (column_at columns)) c.as_slice-2.ensures in
    subst (All (RowFits columns))
    (sym (c.in-Ok-whole_rows.ensures ∙ ap (λ (cs : List Column). map (whole_row cs c.as_slice-5.result.now) rows) c.as_slice-4.ensures ∙ ap (λ (o : List ℕ). map (whole_row columns o) rows) c.as_slice-5.ensures))
    (rows_fit columns order rows (subst (λ (cs : List Column). All (RowFits cs) rows) ordered c.in_ok-rows.ensures.fit))
