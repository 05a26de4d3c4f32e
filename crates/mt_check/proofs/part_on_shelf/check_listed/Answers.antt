use Rattle.std.proofs.Common.{◌∙◌, ap, sym, subst, List, ℕ}
use Rattle.std.proofs.lemmas.Result.{err_from_is_err_and}
use Rattle.mt_fault.specs.declared.file.FileBytes.{FileBytes}
use Rattle.mt_fault.specs.Results.{FailsAs}
use Rattle.mt_defs.specs.Folder.{folder_of}
use Rattle.mt_defs.specs.Projections.{base_of}
use Rattle.mt_files.specs.PartTexts.{order_reading}
use Rattle.mt_strays.specs.Strays.{names_reading}
use Rattle.mt_check.proofs.PartLemmas.{all_hold, files_fail, names_fail, order_fails}
use Rattle.mt_check.proofs.part_on_shelf.check_listed.Goals as goal

pub returns-in_err-accepted-clause-gives : goal.returns-in_err-accepted-clause-gives
returns-in_err-accepted-clause-gives c =
    let p = err_from_is_err_and c.from_residual.result c.from_residual.ensures.1 in
    rw (p.1, p.2) (files_fail c.args.table.now c.args.files.now c.args.listing.now c.in_err-accepted.field-0.0 c.in_err-accepted.ensures.gives)

pub returns-in_err-order-clause-gives : goal.returns-in_err-order-clause-gives
returns-in_err-order-clause-gives c =
    let p = err_from_is_err_and c.from_residual-in_err-order.result c.from_residual-in_err-order.ensures.1 in
    rw (p.1, p.2)
    (order_fails c.args.table.now c.args.files.now c.args.listing.now c.in_ok-accepted.accepted c.in_ok-accepted.ensures.gives c.in_err-order.field-0.0
    (subst (λ (fs : List FileBytes). FailsAs c.in_err-order.field-0.0 (order_reading (base_of c.args.table.now) (folder_of fs))) c.as_slice.ensures c.in_err-order.ensures.gives))

pub returns-in_err-check_names-clause-gives : goal.returns-in_err-check_names-clause-gives
returns-in_err-check_names-clause-gives c =
    let p = err_from_is_err_and c.from_residual-in_err-check_names.result c.from_residual-in_err-check_names.ensures.1 in
    rw (p.1, p.2)
    (names_fail c.args.table.now c.args.files.now c.args.listing.now c.in_ok-accepted.accepted c.in_ok-accepted.ensures.gives c.in_ok-order.order c.in_err-check_names.field-0.0
    (ap (λ (fs : List FileBytes). order_reading (base_of c.args.table.now) (folder_of fs)) (sym c.as_slice.ensures) ∙ c.in_ok-order.ensures.gives)
    (subst (λ (o : List ℕ). FailsAs c.in_err-check_names.field-0.0 (names_reading c.args.table.now o c.args.listing.now)) c.as_slice-2.ensures c.in_err-check_names.ensures))

pub returns-clause-gives : goal.returns-clause-gives
returns-clause-gives c =
    all_hold c.args.table.now c.args.files.now c.args.listing.now c.in_ok-accepted.accepted c.in_ok-accepted.ensures.gives c.in_ok-order.order
    (ap (λ (fs : List FileBytes). order_reading (base_of c.args.table.now) (folder_of fs)) (sym c.as_slice.ensures) ∙ c.in_ok-order.ensures.gives)
    (ap (λ (o : List ℕ). names_reading c.args.table.now o c.args.listing.now) (sym c.as_slice-2.ensures) ∙ c.in_ok-check_names.ensures)
