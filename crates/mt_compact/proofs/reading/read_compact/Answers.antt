use Rattle.std.proofs.Common.{length, subst}
use Rattle.std.specs.Prelude.{Ok}
use Rattle.std.proofs.lemmas.Result.{err_from_is_err_and}
use Rattle.mt_types.specs.Steps.{◌>>=◌}
use Rattle.mt_defs.specs.Compact.{compact_data_name, compact_marks_name}
use Rattle.mt_defs.specs.Folder.{Folder}
use Rattle.mt_granules.specs.FileFolder.{indexed_folder}
use Rattle.mt_granules.specs.PayloadReading.{granules_reading}
use Rattle.mt_granules.specs.PayloadView.{payloads_in}
use Rattle.mt_fault.specs.Results.{FailsAs}
use Rattle.mt_fault.proofs.FaultLemmas.{fails_after, fails_then}
use Rattle.mt_compact.specs.CompactReading.{compact_reading, compact_rows_reading}
use Rattle.mt_compact.proofs.ReadingLemmas.{part_read}
use Rattle.mt_compact.proofs.reading.read_compact.Goals as goal

pub returns-in_err-payloads-clause-reads : goal.returns-in_err-payloads-clause-reads
returns-in_err-payloads-clause-reads c =
    let p = err_from_is_err_and c.from_residual-in_err-payloads.result c.from_residual-in_err-payloads.ensures.1 in
    let folder = indexed_folder c.in_ok-folder.folder in
    rw (p.1, p.2) (subst (λ (f : Folder). FailsAs c.in_err-payloads.field-0.0 (compact_reading f c.args.count c.args.columns.now)) c.in_ok-folder.ensures
    (fails_then c.in_err-payloads.field-0.0 (granules_reading folder c.args.count compact_data_name compact_marks_name (length c.args.columns.now)) (λ read. compact_rows_reading read c.args.count c.args.columns.now >>= λ rows. Ok (rows, read.granules)) c.in_err-payloads.ensures.reads))

pub returns-in_err-rows-clause-reads : goal.returns-in_err-rows-clause-reads
returns-in_err-rows-clause-reads c =
    let p = err_from_is_err_and c.from_residual-in_err-rows.result c.from_residual-in_err-rows.ensures.1 in
    let folder = indexed_folder c.in_ok-folder.folder in
    let read = payloads_in c.in_ok-payloads.payloads in
    rw (p.1, p.2) (subst (λ (f : Folder). FailsAs c.in_err-rows.field-0.0 (compact_reading f c.args.count c.args.columns.now)) c.in_ok-folder.ensures
    (fails_after c.in_err-rows.field-0.0 (granules_reading folder c.args.count compact_data_name compact_marks_name (length c.args.columns.now)) read (λ read. compact_rows_reading read c.args.count c.args.columns.now >>= λ rows. Ok (rows, read.granules))
    c.in_ok-payloads.ensures.reads (fails_then c.in_err-rows.field-0.0 (compact_rows_reading read c.args.count c.args.columns.now) (λ rows. Ok (rows, read.granules)) c.in_err-rows.ensures.reads)))

pub returns-clause-reads : goal.returns-clause-reads
returns-clause-reads c =
    part_read (indexed_folder c.in_ok-folder.folder) _ c.args.count c.args.columns.now (payloads_in c.in_ok-payloads.payloads) c.in_ok-rows.rows.items c.of-2.result _ c.in_ok-folder.ensures c.in_ok-payloads.ensures.reads c.in_ok-rows.ensures.reads c.of-2.ensures c.into_granules.ensures
