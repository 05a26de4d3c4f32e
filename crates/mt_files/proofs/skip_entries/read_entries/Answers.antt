use Rattle.std.proofs.Common.{◌∙◌}
use Rattle.std.proofs.lemmas.Result.{err_from_is_err_and}
use Rattle.mt_defs.specs.Folder.{folder_of}
use Rattle.mt_defs.specs.Part.{marks_ending}
use Rattle.mt_files.proofs.EntryLemmas.{data_fails, frames_fail, marks_missing, behind_bytes, marks_fail, behind_marks, positions_fail, entries_read}
use Rattle.mt_files.proofs.skip_entries.read_entries.Goals as goal

pub returns-in_err-data : goal.returns-in_err-data
returns-in_err-data c =
    let p = err_from_is_err_and c.from_residual.result c.from_residual.ensures.1 in
    rw (p.1, p.2) (data_fails (folder_of c.args.files.now) (marks_ending c.args.compact) c.args.skip.now c.args.count c.as_slice.result.now c.in_err-data.field-0.0 (c.as_slice.ensures ∙ c.in-Ok-Ok.ensures) c.in_err-data.ensures)

pub returns-in_err-frames : goal.returns-in_err-frames
returns-in_err-frames c =
    let p = err_from_is_err_and c.from_residual-in_err-frames.result c.from_residual-in_err-frames.ensures.1 in
    rw (p.1, p.2)
    (frames_fail (folder_of c.args.files.now) (marks_ending c.args.compact) c.args.skip.now c.args.count c.as_slice.result.now c.as_slice-2.result.now c.in_ok-data.data.now c.in_err-frames.field-0.0 (c.as_slice.ensures ∙ c.in-Ok-Ok.ensures)
    c.in_ok-data.ensures (c.as_slice-2.ensures ∙ c.in-Ok-Ok.ensures) c.in_err-frames.ensures)

pub returns-in_err-bytes : goal.returns-in_err-bytes
returns-in_err-bytes c =
    let p = err_from_is_err_and c.from_residual-in_err-bytes.result c.from_residual-in_err-bytes.ensures.1 in
    let (blocks, reads, is, laid, ends) = c.in_ok-frames.ensures in
    rw (p.1, p.2)
    (marks_missing (folder_of c.args.files.now) (marks_ending c.args.compact) c.args.skip.now c.args.count c.as_slice.result.now c.as_slice-2.result.now c.in_ok-data.data.now c.as_slice-3.result.now blocks c.in_err-bytes.field-0.0
    (c.as_slice.ensures ∙ c.in-Ok-Ok.ensures) c.in_ok-data.ensures (c.as_slice-2.ensures ∙ c.in-Ok-Ok.ensures) reads (c.as_slice-3.ensures ∙ c.in-Ok-Ok.ensures') c.in_err-bytes.ensures)

pub returns-in_err-marks : goal.returns-in_err-marks
returns-in_err-marks c =
    let p = err_from_is_err_and c.from_residual-in_err-marks.result c.from_residual-in_err-marks.ensures.1 in
    let (blocks, reads, is, laid, ends) = c.in_ok-frames.ensures in
    let ahead = behind_bytes (folder_of c.args.files.now) (marks_ending c.args.compact) c.args.skip.now c.args.count c.as_slice.result.now c.as_slice-2.result.now c.in_ok-data.data.now c.as_slice-3.result.now c.in_ok-bytes.bytes.now blocks
    (c.as_slice.ensures ∙ c.in-Ok-Ok.ensures) c.in_ok-data.ensures (c.as_slice-2.ensures ∙ c.in-Ok-Ok.ensures) reads (c.as_slice-3.ensures ∙ c.in-Ok-Ok.ensures') c.in_ok-bytes.ensures in
    rw (p.1, p.2)
    (marks_fail (folder_of c.args.files.now) (marks_ending c.args.compact) c.args.skip.now c.args.count c.in_ok-bytes.bytes.now c.as_slice-4.result.now blocks c.in_err-marks.field-0.0 ahead (c.as_slice-4.ensures ∙ c.in-Ok-Ok.ensures')
    c.in_err-marks.ensures)

pub returns-in_err-positions : goal.returns-in_err-positions
returns-in_err-positions c =
    let p = err_from_is_err_and c.from_residual-in_err-positions.result c.from_residual-in_err-positions.ensures.1 in
    let (blocks, reads, is, laid, ends) = c.in_ok-frames.ensures in
    let ahead = behind_bytes (folder_of c.args.files.now) (marks_ending c.args.compact) c.args.skip.now c.args.count c.as_slice.result.now c.as_slice-2.result.now c.in_ok-data.data.now c.as_slice-3.result.now c.in_ok-bytes.bytes.now blocks
    (c.as_slice.ensures ∙ c.in-Ok-Ok.ensures) c.in_ok-data.ensures (c.as_slice-2.ensures ∙ c.in-Ok-Ok.ensures) reads (c.as_slice-3.ensures ∙ c.in-Ok-Ok.ensures') c.in_ok-bytes.ensures in
    let later = behind_marks (folder_of c.args.files.now) (marks_ending c.args.compact) c.args.skip.now c.args.count c.in_ok-bytes.bytes.now c.as_slice-4.result.now blocks c.in_ok-marks.marks ahead (c.as_slice-4.ensures ∙ c.in-Ok-Ok.ensures')
    c.in_ok-marks.ensures in
    rw (p.1, p.2)
    (positions_fail (folder_of c.args.files.now) (marks_ending c.args.compact) c.args.skip.now c.args.count c.as_slice-5.result.now c.in_ok-data.data.now c.in_ok-frames.frames.end c.in_ok-frames.frames.list blocks c.in_ok-marks.marks
    c.as_slice-6.result.now c.in_err-positions.field-0.0 later (c.as_slice-5.ensures ∙ c.in-Ok-Ok.ensures') is laid ends c.as_slice-6.ensures c.in_err-positions.ensures)

pub returns-in-Ok : goal.returns-in-Ok
returns-in-Ok c =
    let (blocks, reads, is, laid, ends) = c.in_ok-frames.ensures in
    let ahead = behind_bytes (folder_of c.args.files.now) (marks_ending c.args.compact) c.args.skip.now c.args.count c.as_slice.result.now c.as_slice-2.result.now c.in_ok-data.data.now c.as_slice-3.result.now c.in_ok-bytes.bytes.now blocks
    (c.as_slice.ensures ∙ c.in-Ok-Ok.ensures) c.in_ok-data.ensures (c.as_slice-2.ensures ∙ c.in-Ok-Ok.ensures) reads (c.as_slice-3.ensures ∙ c.in-Ok-Ok.ensures') c.in_ok-bytes.ensures in
    let later = behind_marks (folder_of c.args.files.now) (marks_ending c.args.compact) c.args.skip.now c.args.count c.in_ok-bytes.bytes.now c.as_slice-4.result.now blocks c.in_ok-marks.marks ahead (c.as_slice-4.ensures ∙ c.in-Ok-Ok.ensures')
    c.in_ok-marks.ensures in
    entries_read (folder_of c.args.files.now) (marks_ending c.args.compact) c.args.skip.now c.args.count c.as_slice-5.result.now c.in_ok-data.data.now c.in-Ok.payload c.in_ok-frames.frames.end c.in_ok-frames.frames.list blocks c.in_ok-marks.marks
    c.as_slice-6.result.now c.in_ok-positions.positions later (c.as_slice-5.ensures ∙ c.in-Ok-Ok.ensures') is laid ends c.as_slice-6.ensures c.in_ok-positions.ensures (c.in-Ok.ensures blocks is laid)
