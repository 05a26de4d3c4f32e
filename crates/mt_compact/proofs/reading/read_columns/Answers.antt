use Rattle.std.proofs.Common.{List, ◌+◌, length, map, ap, arith, refl, sym, subst}
use Rattle.std.specs.Prelude.{IsTrue, Ok}
use Rattle.std.proofs.lemmas.Result.{err_from_is_err_and}
use Rattle.std.specs.List.{enumerate_from}
use Rattle.mt_types.specs.Profile.{is_profile}
use Rattle.mt_table.specs.declared.column.Column.{Column}
use Rattle.mt_defs.specs.Metadata.{no_column}
use Rattle.mt_granules.specs.FileFaults.{in_order}
use Rattle.mt_granules.specs.PayloadView.{payloads_in}
use Rattle.mt_granules.specs.ColumnRows.{all_values, rows_of}
use Rattle.mt_fault.specs.Results.{FailsAs}
use Rattle.mt_granules.proofs.FitLemmas.{all_fit, column_fits, first_fits}
use Rattle.mt_fault.proofs.FaultLemmas.{fails_then}
use Rattle.mt_granules.proofs.StepLemmas.{fails_first, fails_numbered}
use Rattle.mt_granules.proofs.LayoutLemmas.{after_first, values_fit}
use Rattle.mt_compact.specs.CompactReading.{compact_column_reading}
use Rattle.mt_compact.proofs.ReadingLemmas.{all_read, column_read, first_read, rows_many}
use Rattle.mt_compact.proofs.reading.read_columns.Goals as goal

pub returns-in_err-first_values-clause-reads : goal.returns-in_err-first_values-clause-reads
returns-in_err-first_values-clause-reads c =
    let p = err_from_is_err_and c.from_residual.result c.from_residual.ensures.1 in
    let step = compact_column_reading (length c.args.columns.now) (payloads_in c.args.payloads.now) in
    rw (p.1, p.2) (fails_then c.in_err-first_values.field-0.0 (in_order step (enumerate_from 0 c.args.columns.now)) (λ values. Ok (rows_of c.args.count (map all_values values)))
    (subst (λ (cs : List Column). FailsAs c.in_err-first_values.field-0.0 (in_order step (enumerate_from 0 cs))) (sym c.in-Some.ensures.cases.0) (fails_first c.in_err-first_values.field-0.0 step (0, c.in-Some.first.now) (enumerate_from 1 c.in-Some.others.now) c.in_err-first_values.ensures.reads)))

pub first_rows-requires : goal.first_rows-requires
first_rows-requires c = record { many = values_fit c.args.count (payloads_in c.args.payloads.now).granules c.in_ok-first_values.first_values c.in_ok-first_values.ensures.many c.requires.all }

pub loop-other_index-init : goal.loop-other_index-init
loop-other_index-init c =
    let read = payloads_in c.args.payloads.now in
    let many = values_fit c.args.count read.granules c.in_ok-first_values.first_values c.in_ok-first_values.ensures.many c.requires.all in
    record {
      read = first_read (length c.args.columns.now) read c.args.count c.args.columns.now c.in-Some.others.now c.in-Some.first.now c.in_ok-rows.rows.items c.in_ok-first_values.first_values c.in-Some.ensures.cases.0
          c.in_ok-first_values.ensures.reads c.in_ok-rows.ensures;
      fit = first_fits c.args.columns.now c.in-Some.others.now c.in-Some.first.now c.args.count c.in_ok-rows.rows.items (all_values c.in_ok-first_values.first_values) c.in-Some.ensures.cases.0 many c.in_ok-rows.ensures c.in_ok-first_values.ensures.fit;
    }

pub read_column-requires-in-loop-other_index-clause-profile : goal.read_column-requires-in-loop-other_index-clause-profile
read_column-requires-in-loop-other_index-clause-profile c =
    let at = after_first c.args.columns.now c.in-Some.others.now c.in-Some.first.now c.index-others-other_index.result c.loop-other_index.other_index c.in-Some.ensures.cases.0 c.loop-other_index-test.true c.index-others-other_index.is in
    subst (λ (x : Column). IsTrue (is_profile x.ty)) (sym at.1) (c.requires.profile (c.loop-other_index.other_index + 1) c.index-others-other_index.result at.0)

pub returns-in_err-values-clause-reads : goal.returns-in_err-values-clause-reads
returns-in_err-values-clause-reads c =
    let p = err_from_is_err_and c.from_residual-in_err-values.result c.from_residual-in_err-values.ensures.1 in
    let step = compact_column_reading (length c.args.columns.now) (payloads_in c.args.payloads.now) in
    let at = after_first c.args.columns.now c.in-Some.others.now c.in-Some.first.now c.index-others-other_index.result c.loop-other_index.other_index c.in-Some.ensures.cases.0 c.loop-other_index-test.true c.index-others-other_index.is in
    rw (p.1, p.2) (fails_then c.in_err-values.field-0.0 (in_order step (enumerate_from 0 c.args.columns.now)) (λ values. Ok (rows_of c.args.count (map all_values values)))
    (fails_numbered c.in_err-values.field-0.0 step c.args.columns.now (c.loop-other_index.other_index + 1) c.index-others-other_index.result c.loop-other_index.invariant.read.values at.0 at.1
    c.loop-other_index.invariant.read.so_far c.in_err-values.ensures.reads))

pub append_column-requires : goal.append_column-requires
append_column-requires c =
    let read = payloads_in c.args.payloads.now in
    let many = rows_many (length c.args.columns.now) read c.args.count _ c.loop-other_index.rows.items c.loop-other_index.invariant.read in
    let fit = values_fit c.args.count read.granules c.in_ok-values.values c.in_ok-values.ensures.many c.requires.all in
    omega (arith, many, fit, c.loop-other_index.rows.ok.0)

pub loop-other_index-preserved : goal.loop-other_index-preserved
loop-other_index-preserved c =
    let i = c.loop-other_index.other_index + 1 in
    let at = after_first c.args.columns.now c.in-Some.others.now c.in-Some.first.now c.index-others-other_index.result c.loop-other_index.other_index c.in-Some.ensures.cases.0 c.loop-other_index-test.true c.index-others-other_index.is in
    let read = payloads_in c.args.payloads.now in
    let many = rows_many (length c.args.columns.now) read c.args.count _ c.loop-other_index.rows.items c.loop-other_index.invariant.read in
    let values = values_fit c.args.count read.granules c.in_ok-values.values c.in_ok-values.ensures.many c.requires.all in
    record {
      read = column_read (length c.args.columns.now) read c.args.count c.args.columns.now i c.index-others-other_index.result c.loop-other_index.rows.items c.append_column.new.rows.items
          c.in_ok-values.values at.0 at.1 c.in_ok-values.ensures.reads c.in_ok-values.ensures.many c.requires.all c.in_ok-append_column.ensures c.loop-other_index.invariant.read;
      fit = column_fits c.args.columns.now i c.index-others-other_index.result c.loop-other_index.rows.items c.append_column.new.rows.items (all_values c.in_ok-values.values)
          at.0 at.1 (omega (arith, many, values)) c.in_ok-append_column.ensures c.loop-other_index.invariant.fit c.in_ok-values.ensures.fit;
    }

pub returns-clause-reads : goal.returns-clause-reads
returns-clause-reads c =
    let long = ap (λ (cs : List Column). length cs) c.in-Some.ensures.cases.0 in
    all_read (payloads_in c.args.payloads.now) c.args.count (length c.args.columns.now) c.args.columns.now (c.loop-other_index.other_index + 1) no_column c.loop-other_index.rows.items refl (omega (arith, long, c.loop-other_index-test.false)) c.loop-other_index.invariant.read

pub returns-clause-fit : goal.returns-clause-fit
returns-clause-fit c =
    let long = ap (λ (cs : List Column). length cs) c.in-Some.ensures.cases.0 in
    all_fit c.args.columns.now (c.loop-other_index.other_index + 1) c.loop-other_index.rows.items (omega (arith, long, c.loop-other_index-test.false)) c.loop-other_index.invariant.fit
