use Rattle.std.proofs.Common.{sym, ap, ◌∙◌, List}
use Rattle.std.proofs.lemmas.Result.{err_from_is_err_and}
use Rattle.mt_defs.specs.Folder.{folder_of}
use Rattle.mt_defs.specs.WrittenPartition.{partition_files}
use Rattle.mt_check.specs.PartitionReading.{other_partition}
use Rattle.mt_definition.specs.RowsReading.{granule_of}
use Rattle.mt_check.proofs.PartitionLemmas.{no_partition, partition_missing, partition_other, partition_rest}
use Rattle.mt_check.proofs.partition.check_partition.Goals as goal

pub returns-then-is_empty : goal.returns-then-is_empty
returns-then-is_empty c = no_partition c.args.table.now (folder_of c.args.files.now) c.args.accepted.now (c.is_empty.ensures.0 c.if-is_empty.true)

pub returns-in_err-bytes_of : goal.returns-in_err-bytes_of
returns-in_err-bytes_of c =
    let p = err_from_is_err_and c.from_residual.result c.from_residual.ensures.1 in
    rw (p.1, p.2)
    (partition_missing c.args.table.now (folder_of c.args.files.now) c.args.accepted.now c.in_err-bytes_of.field-0.0 (λ none. let e = sym (c.is_empty.ensures.1 none) ∙ c.if-is_empty.false in cc) c.in_err-bytes_of.ensures)

pub returns-in-Some : goal.returns-in-Some
returns-in-Some c =
    partition_other c.args.table.now (folder_of c.args.files.now) c.args.accepted.now c.in_ok-bytes_of.field-0.now c.in-Some.row c.granule_of-granule.result c.granule_fault.result (λ none. let e = sym (c.is_empty.ensures.1 none) ∙ c.if-is_empty.false in cc)
    c.in_ok-bytes_of.ensures (sym c.in-Some.is ∙ c.other_partition.ensures ∙ ap (other_partition c.args.table.now) c.as_slice-rows.ensures) (c.granule_of-granule.ensures ∙ ap (λ (g : List _). granule_of g c.in-Some.row) c.as_slice.ensures) c.granule_fault.ensures

pub returns-in-Ok : goal.returns-in-Ok
returns-in-Ok c =
    partition_rest c.args.table.now (folder_of c.args.files.now) c.args.accepted.now c.in_ok-bytes_of.field-0.now c.as_slice-in-Ok.result.now c.check_files.result (λ none. let e = sym (c.is_empty.ensures.1 none) ∙ c.if-is_empty.false in cc)
    c.in_ok-bytes_of.ensures (sym c.in_default.is ∙ c.other_partition.ensures ∙ ap (other_partition c.args.table.now) c.as_slice-rows.ensures)
    (c.as_slice-in-Ok.ensures ∙ c.in-Ok.ensures ∙ ap (partition_files c.args.table.now) c.as_slice-rows.ensures) c.check_files.ensures
