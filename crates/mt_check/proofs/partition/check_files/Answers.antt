use Rattle.std.proofs.Common.{sym, ap, ◌∙◌}
use Rattle.std.specs.Str.{bytes_eq}
use Rattle.std.proofs.lemmas.Result.{err_from_is_err_and}
use Rattle.mt_defs.specs.Folder.{folder_of}
use Rattle.mt_files.proofs.LoopLemmas.{ne_true, ne_false}
use Rattle.mt_check.proofs.PartitionLemmas.{files_fail, files_differ, files_same, files_done}
use Rattle.mt_check.proofs.partition.check_files.Goals as goal

pub returns-in_err-bytes : goal.returns-in_err-bytes
returns-in_err-bytes c =
    let p = err_from_is_err_and c.from_residual.result c.from_residual.ensures.1 in
    rw (p.1, p.2)
    (files_fail (folder_of c.args.files.now) c.args.written.now c.loop-file.file-index c.file-item.result _ c.as_slice.result.now c.in_err-bytes.field-0.0 c.loop-file.invariant c.loop-file-test.true c.file-item.is c.as_slice.ensures
    c.in_err-bytes.ensures)

pub returns-then-ne : goal.returns-then-ne
returns-then-ne c =
    let differ = ap (bytes_eq c.in_ok-bytes.bytes.now) (sym c.as_slice-in-loop-file.ensures) ∙ ne_true _ c.ne.result c.ne.ensures c.if-ne.true in
    files_differ (folder_of c.args.files.now) c.args.written.now c.loop-file.file-index c.file-item.result _ c.as_slice.result.now c.as_slice-then-ne.result.now c.in_ok-bytes.bytes.now c.file_fault.result c.loop-file.invariant c.loop-file-test.true
    c.file-item.is c.as_slice.ensures c.in_ok-bytes.ensures differ c.as_slice-then-ne.ensures c.file_fault.ensures

pub loop-file-preserved : goal.loop-file-preserved
loop-file-preserved c =
    let same = ap (bytes_eq c.in_ok-bytes.bytes.now) (sym c.as_slice-in-loop-file.ensures) ∙ ne_false _ c.ne.result c.ne.ensures c.if-ne.false in
    files_same (folder_of c.args.files.now) c.args.written.now c.loop-file.file-index c.file-item.result _ c.as_slice.result.now c.in_ok-bytes.bytes.now c.loop-file.invariant c.loop-file-test.true c.file-item.is c.as_slice.ensures
    c.in_ok-bytes.ensures same

pub returns : goal.returns
returns c = files_done (folder_of c.args.files.now) c.args.written.now c.loop-file.file-index _ c.loop-file.invariant c.loop-file-test.false
