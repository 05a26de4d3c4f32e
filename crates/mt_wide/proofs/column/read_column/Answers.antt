use Rattle.std.proofs.Common.{List, ap, sym, ◌∙◌, get_or}
use Rattle.std.specs.Prelude.{Ok}
use Rattle.std.specs.List.{enumerate_from}
use Rattle.std.proofs.lemmas.List.{get_or_default}
use Rattle.std.proofs.lemmas.Result.{err_from_is_err_and}
use Rattle.mt_types.specs.declared.value.Value.{Value}
use Rattle.mt_types.proofs.StepLemmas.{then_of}
use Rattle.mt_granules.specs.FileFaults.{in_order}
use Rattle.mt_granules.specs.FileFolder.{indexed_folder}
use Rattle.mt_types.specs.Fits.{fits_of}
use Rattle.mt_granules.proofs.FitLemmas.{granule_fits}
use Rattle.mt_granules.proofs.OrderLemmas.{numbered_continues, numbered_ends}
use Rattle.mt_fault.proofs.FaultLemmas.{fails_after}
use Rattle.mt_granules.proofs.StepLemmas.{fails_numbered}
use Rattle.mt_defs.specs.FileNames.{stream_names}
use Rattle.mt_granules.proofs.LayoutLemmas.{lengths_more}
use Rattle.mt_wide.specs.StreamView.{streams_in}
use Rattle.mt_wide.specs.WideReading.{granule_reading, stream_reading}
use Rattle.mt_wide.proofs.ReadingLemmas.{streams_long}
use Rattle.mt_wide.proofs.column.read_column.Goals as goal

pub read_granule-requires-clause-complete : goal.read_granule-requires-clause-complete
read_granule-requires-clause-complete c =
    rw (c.as_slice-in-loop-granule-2.ensures, c.as_slice-in-loop-granule.ensures)
    (streams_long c.in_ok-names.names c.in_ok-streams.streams (stream_reading (indexed_folder c.args.folder.now) c.args.granules.now) (rw c.as_slice.ensures at c.in_ok-streams.ensures.reads))

pub returns-in_err-read_granule-clause-reads : goal.returns-in_err-read_granule-clause-reads
returns-in_err-read_granule-clause-reads c =
    let p = err_from_is_err_and c.from_residual-in_err-read_granule.result c.from_residual-in_err-read_granule.ensures.1 in
    let e = c.in_err-read_granule.field-0.0 in
    let streams = streams_in c.in_ok-streams.streams in
    let granules = c.args.granules.now in
    let i = c.loop-granule.granule in
    let step = granule_reading c.args.column.now streams in
    rw (p.1, p.2) (fails_after e (in_order (stream_reading (indexed_folder c.args.folder.now) granules) (stream_names c.args.column.now)) streams (λ streams. in_order (granule_reading c.args.column.now streams) (enumerate_from 0 granules))
    (rw (c.as_slice.ensures, c.in_ok-names.ensures) at c.in_ok-streams.ensures.reads)
    (fails_numbered e step granules i (get_or granules i 0) c.loop-granule.values c.loop-granule-test.true (get_or_default granules i 0 (get_or granules i 0) c.loop-granule-test.true) c.loop-granule.invariant.so_far
    (rw c.as_slice-in-loop-granule-2.ensures at c.in_err-read_granule.ensures.reads)))

pub loop-granule-preserved : goal.loop-granule-preserved
loop-granule-preserved c =
    let granules = c.args.granules.now in
    let i = c.loop-granule.granule in
    let at = get_or_default granules i 0 (get_or granules i 0) c.loop-granule-test.true in
    record {
      so_far = numbered_continues (granule_reading c.args.column.now (streams_in c.in_ok-streams.streams)) granules i (get_or granules i 0) c.loop-granule.values c.loop-granule.invariant.so_far c.in_ok-read_granule.field-0 c.loop-granule-test.true at
          (rw c.as_slice-in-loop-granule-2.ensures at c.in_ok-read_granule.ensures.reads) ∙ ap (λ (l : List (List Value)). Ok l) (sym c.in_ok-push.ensures.ok);
      each = lengths_more granules i c.loop-granule.values c.push.new.self c.in_ok-read_granule.field-0 (get_or granules i 0) c.loop-granule-test.true at c.in_ok-push.ensures.ok c.in_ok-read_granule.ensures.many c.loop-granule.invariant.each;
      fit = granule_fits (fits_of c.args.column.now.ty) c.loop-granule.values c.push.new.self c.in_ok-read_granule.field-0 c.in_ok-push.ensures.ok c.loop-granule.invariant.fit c.in_ok-read_granule.ensures.fit;
    }

pub returns-clause-reads : goal.returns-clause-reads
returns-clause-reads c =
    let streams = streams_in c.in_ok-streams.streams in
    let granules = c.args.granules.now in
    then_of (in_order (stream_reading (indexed_folder c.args.folder.now) granules) (stream_names c.args.column.now)) streams (λ streams. in_order (granule_reading c.args.column.now streams) (enumerate_from 0 granules))
    (rw (c.as_slice.ensures, c.in_ok-names.ensures) at c.in_ok-streams.ensures.reads)
    ∙ numbered_ends (granule_reading c.args.column.now streams) granules c.loop-granule.granule 0 c.loop-granule.values c.loop-granule.invariant.so_far c.loop-granule-test.false
