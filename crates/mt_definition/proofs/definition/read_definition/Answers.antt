use Rattle.std.proofs.lemmas.Result.{err_from_is_err_and}
use Rattle.mt_defs.specs.Folder.{folder_of}
use Rattle.mt_definition.proofs.StoredLemmas.{stored_fails, cells_fail, sorted_fail, index_fail, definition_read}
use Rattle.mt_definition.proofs.DefinitionLaw.{part_rows}
use Rattle.mt_definition.proofs.definition.read_definition.Goals as goal

pub returns-in_err-accepted-clause-gives : goal.returns-in_err-accepted-clause-gives
returns-in_err-accepted-clause-gives c =
    let p = err_from_is_err_and c.from_residual.result c.from_residual.ensures.1 in
    rw (p.1, p.2) (stored_fails c.args.definition.now (folder_of c.args.files.now) c.in_err-accepted.field-0.0 c.in_err-accepted.ensures.gives)

pub returns-in_err-check_cells-clause-gives : goal.returns-in_err-check_cells-clause-gives
returns-in_err-check_cells-clause-gives c =
    let p = err_from_is_err_and c.from_residual-in_err-check_cells.result c.from_residual-in_err-check_cells.ensures.1 in
    rw (p.1, p.2) (cells_fail c.args.definition.now (folder_of c.args.files.now) c.in_ok-accepted.accepted c.in_ok-accepted.ensures.gives c.in_err-check_cells.field-0.0 c.in_err-check_cells.ensures)

pub returns-in_err-check_order-clause-gives : goal.returns-in_err-check_order-clause-gives
returns-in_err-check_order-clause-gives c =
    let p = err_from_is_err_and c.from_residual-in_err-check_order.result c.from_residual-in_err-check_order.ensures.1 in
    rw (p.1, p.2)
    (sorted_fail c.args.definition.now (folder_of c.args.files.now) c.in_ok-accepted.accepted c.in_ok-accepted.ensures.gives c.in_err-check_order.field-0.0 c.in_ok-check_cells.ensures c.in_err-check_order.ensures)

pub returns-in_err-check_index-clause-gives : goal.returns-in_err-check_index-clause-gives
returns-in_err-check_index-clause-gives c =
    let p = err_from_is_err_and c.from_residual-in_err-check_index.result c.from_residual-in_err-check_index.ensures.1 in
    rw (p.1, p.2)
    (index_fail c.args.definition.now (folder_of c.args.files.now) c.in_ok-accepted.accepted c.in_ok-accepted.ensures.gives c.in_err-check_index.field-0.0 c.in_ok-check_cells.ensures c.in_ok-check_order.ensures c.in_err-check_index.ensures)

pub returns-clause-gives : goal.returns-clause-gives
returns-clause-gives c =
    definition_read c.args.definition.now (folder_of c.args.files.now) c.in_ok-accepted.accepted c.in_ok-accepted.ensures.gives c.in_ok-check_cells.ensures c.in_ok-check_order.ensures c.in_ok-check_index.ensures

pub returns-clause-rows : goal.returns-clause-rows
returns-clause-rows c =
    part_rows c.args.definition.now (folder_of c.args.files.now) c.in_ok-accepted.accepted c.in_ok-accepted.ensures.some c.in_ok-accepted.ensures.few c.in_ok-accepted.ensures.fit c.in_ok-check_cells.ensures c.in_ok-check_order.ensures
