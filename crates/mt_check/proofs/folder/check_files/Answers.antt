use Rattle.std.proofs.Common.{◌≡◌, List, sym, ap, ◌∙◌, subst}
use Rattle.std.specs.Prelude.{Ok, Option}
use Rattle.std.specs.List.{zip}
use Rattle.std.proofs.lemmas.Result.{err_from_is_err_and}
use Rattle.mt_fault.specs.declared.file.FileBytes.{FileBytes}
use Rattle.mt_defs.specs.Folder.{folder_of}
use Rattle.mt_defs.specs.Projections.{base_of}
use Rattle.mt_definition.specs.DefinitionReading.{definition_reading}
use Rattle.mt_check.specs.FolderChecks.{each, projections_checks, skip_checks}
use Rattle.mt_check.specs.PartitionReading.{partition_reading}
use Rattle.mt_fault.specs.Results.{FailsAs}
use Rattle.mt_check.proofs.FolderLemmas.{as_folders, skips_fail, projections_fail, files_accepted}
use Rattle.mt_check.proofs.PartitionLaw.{partition_holds}
use Rattle.mt_meta.proofs.InnerLemmas.{projections_are}
use Rattle.mt_files.proofs.TableLemmas.{partition_checked, skips_checked}
use Rattle.mt_check.proofs.folder.check_files.Goals as goal

pub check_partition-requires-clause-key : goal.check_partition-requires-clause-key
check_partition-requires-clause-key c = partition_checked c.args.table.now

pub check_skips-requires-clause-skips : goal.check_skips-requires-clause-skips
check_skips-requires-clause-skips c = skips_checked c.args.table.now

pub returns-in_err-check_skips-clause-gives : goal.returns-in_err-check_skips-clause-gives
returns-in_err-check_skips-clause-gives c =
    let p = err_from_is_err_and c.from_residual-in_err-check_skips.result c.from_residual-in_err-check_skips.ensures.1 in
    let table = c.args.table.now in
    let accepted = c.in_ok-accepted.accepted in
    let is = ap (λ (fs : List FileBytes). definition_reading (base_of table) (folder_of fs)) (sym c.as_slice.ensures) ∙ c.in_ok-accepted.ensures.gives in
    let holds = ap (λ (fs : List FileBytes). partition_reading table (folder_of fs) accepted) (sym c.as_slice-2.ensures) ∙ c.in_ok-check_partition.ensures in
    rw (p.1, p.2)
    (skips_fail table (folder_of c.args.files.now.base) (as_folders c.args.files.now.projections) accepted is c.in_err-check_skips.field-0.0 holds
    (subst (λ (fs : List FileBytes). FailsAs c.in_err-check_skips.field-0.0 (each (skip_checks table (folder_of fs) accepted) table.skips)) c.as_slice-3.ensures c.in_err-check_skips.ensures))

pub check_projections-requires-clause-table : goal.check_projections-requires-clause-table
check_projections-requires-clause-table c = projections_are c.args.table.now

pub returns-in_err-check_projections-clause-gives : goal.returns-in_err-check_projections-clause-gives
returns-in_err-check_projections-clause-gives c =
    let p = err_from_is_err_and c.from_residual-in_err-check_projections.result c.from_residual-in_err-check_projections.ensures.1 in
    let table = c.args.table.now in
    let accepted = c.in_ok-accepted.accepted in
    let is = ap (λ (fs : List FileBytes). definition_reading (base_of table) (folder_of fs)) (sym c.as_slice.ensures) ∙ c.in_ok-accepted.ensures.gives in
    let holds = ap (λ (fs : List FileBytes). partition_reading table (folder_of fs) accepted) (sym c.as_slice-2.ensures) ∙ c.in_ok-check_partition.ensures in
    let agree = subst (λ (fs : List FileBytes). each (skip_checks table (folder_of fs) accepted) table.skips ≡ Ok tt) c.as_slice-3.ensures c.in_ok-check_skips.ensures in
    rw (p.1, p.2)
    (projections_fail table (folder_of c.args.files.now.base) (as_folders c.args.files.now.projections) accepted is c.in_err-check_projections.field-0.0 holds agree
    (subst (λ (fs : List (Option (List FileBytes))). FailsAs c.in_err-check_projections.field-0.0 (projections_checks table accepted (zip table.projections (as_folders fs)))) c.as_slice-4.ensures c.in_err-check_projections.ensures))

pub returns-clause-gives : goal.returns-clause-gives
returns-clause-gives c =
    let table = c.args.table.now in
    let accepted = c.in_ok-accepted.accepted in
    let is = ap (λ (fs : List FileBytes). definition_reading (base_of table) (folder_of fs)) (sym c.as_slice.ensures) ∙ c.in_ok-accepted.ensures.gives in
    let holds = ap (λ (fs : List FileBytes). partition_reading table (folder_of fs) accepted) (sym c.as_slice-2.ensures) ∙ c.in_ok-check_partition.ensures in
    let agree = subst (λ (fs : List FileBytes). each (skip_checks table (folder_of fs) accepted) table.skips ≡ Ok tt) c.as_slice-3.ensures c.in_ok-check_skips.ensures in
    let stand = subst (λ (fs : List (Option (List FileBytes))). projections_checks table accepted (zip table.projections (as_folders fs)) ≡ Ok tt) c.as_slice-4.ensures c.in_ok-check_projections.ensures in
    files_accepted table (folder_of c.args.files.now.base) (as_folders c.args.files.now.projections) accepted is holds agree stand

pub returns-clause-one : goal.returns-clause-one
returns-clause-one c = (partition_holds c.args.table.now (folder_of c.as_slice-2.result.now) c.in_ok-accepted.accepted c.in_ok-check_partition.ensures).one
