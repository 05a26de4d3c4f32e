use Rattle.std.proofs.Common.{subst}
use Rattle.std.specs.Prelude.{Ok}
use Rattle.std.proofs.lemmas.Result.{err_from_is_err_and}
use Rattle.mt_types.specs.Steps.{◌>>=◌}
use Rattle.mt_defs.specs.Folder.{Folder}
use Rattle.mt_granules.specs.FileFolder.{indexed_folder}
use Rattle.mt_fault.specs.Results.{FailsAs}
use Rattle.mt_fault.proofs.FaultLemmas.{fails_after, fails_then}
use Rattle.mt_wide.specs.WideReading.{wide_rows_reading, wide_granules, wide_reading}
use Rattle.mt_wide.proofs.ReadingLemmas.{part_read}
use Rattle.mt_wide.proofs.reading.read_wide.Goals as goal

pub returns-in_err-granules-clause-reads : goal.returns-in_err-granules-clause-reads
returns-in_err-granules-clause-reads c =
    let p = err_from_is_err_and c.from_residual-in_err-granules.result c.from_residual-in_err-granules.ensures.1 in
    let folder = indexed_folder c.in_ok-folder.folder in
    rw (p.1, p.2) (subst (λ (f : Folder). FailsAs c.in_err-granules.field-0.0 (wide_reading f c.args.count c.args.columns.now)) c.in_ok-folder.ensures
    (fails_then c.in_err-granules.field-0.0 (wide_granules folder c.args.count c.args.columns.now) (λ granules. wide_rows_reading folder granules c.args.count c.args.columns.now >>= λ rows. Ok (rows, granules)) c.in_err-granules.ensures.reads))

pub returns-in_err-rows-clause-reads : goal.returns-in_err-rows-clause-reads
returns-in_err-rows-clause-reads c =
    let p = err_from_is_err_and c.from_residual-in_err-rows.result c.from_residual-in_err-rows.ensures.1 in
    let folder = indexed_folder c.in_ok-folder.folder in
    let granules = c.in_ok-granules.granules in
    rw (p.1, p.2) (subst (λ (f : Folder). FailsAs c.in_err-rows.field-0.0 (wide_reading f c.args.count c.args.columns.now)) c.in_ok-folder.ensures
    (fails_after c.in_err-rows.field-0.0 (wide_granules folder c.args.count c.args.columns.now) granules (λ granules. wide_rows_reading folder granules c.args.count c.args.columns.now >>= λ rows. Ok (rows, granules)) c.in_ok-granules.ensures.reads
    (fails_then c.in_err-rows.field-0.0 (wide_rows_reading folder granules c.args.count c.args.columns.now) (λ rows. Ok (rows, granules)) (rw c.as_slice.ensures at c.in_err-rows.ensures.reads))))

pub returns-clause-reads : goal.returns-clause-reads
returns-clause-reads c =
    part_read (indexed_folder c.in_ok-folder.folder) _ c.args.count c.args.columns.now c.in_ok-granules.granules c.in_ok-rows.rows.items c.of-2.result c.in_ok-folder.ensures c.in_ok-granules.ensures.reads (rw c.as_slice.ensures at c.in_ok-rows.ensures.reads) c.of-2.ensures
