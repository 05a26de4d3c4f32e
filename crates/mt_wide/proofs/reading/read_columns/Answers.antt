use Rattle.std.proofs.Common.{List, ◌+◌, length, map, ap, arith, sym, subst}
use Rattle.std.specs.Prelude.{IsTrue, Ok}
use Rattle.std.proofs.lemmas.Result.{err_from_is_err_and}
use Rattle.mt_types.specs.Profile.{is_profile}
use Rattle.mt_table.specs.declared.column.Column.{Column}
use Rattle.mt_granules.specs.FileFaults.{in_order}
use Rattle.mt_granules.specs.FileFolder.{indexed_folder}
use Rattle.mt_granules.specs.ColumnRows.{all_values, rows_of}
use Rattle.mt_fault.specs.Results.{FailsAs}
use Rattle.mt_granules.proofs.FitLemmas.{all_fit, column_fits, first_fits}
use Rattle.mt_fault.proofs.FaultLemmas.{fails_then}
use Rattle.mt_granules.proofs.StepLemmas.{fails_first, fails_in_order}
use Rattle.mt_granules.proofs.LayoutLemmas.{after_first, values_fit}
use Rattle.mt_wide.specs.WideReading.{column_reading}
use Rattle.mt_wide.proofs.ReadingLemmas.{all_read, column_read, first_read, rows_many}
use Rattle.mt_wide.proofs.reading.read_columns.Goals as goal

pub returns-in_err-first_values-clause-reads : goal.returns-in_err-first_values-clause-reads
returns-in_err-first_values-clause-reads c =
    let p = err_from_is_err_and c.from_residual.result c.from_residual.ensures.1 in
    let step = column_reading (indexed_folder c.args.folder.now) c.args.granules.now in
    rw (p.1, p.2) (fails_then c.in_err-first_values.field-0.0 (in_order step c.args.columns.now) (λ values. Ok (rows_of c.args.count (map all_values values)))
    (subst (λ (cs : List Column). FailsAs c.in_err-first_values.field-0.0 (in_order step cs)) (sym c.in-Some.ensures.cases.0) (fails_first c.in_err-first_values.field-0.0 step c.in-Some.first.now c.in-Some.others.now c.in_err-first_values.ensures.reads)))

pub first_rows-requires : goal.first_rows-requires
first_rows-requires c = record { many = values_fit c.args.count c.args.granules.now c.in_ok-first_values.first_values c.in_ok-first_values.ensures.each c.requires.all }

pub loop-column-init : goal.loop-column-init
loop-column-init c =
    let many = values_fit c.args.count c.args.granules.now c.in_ok-first_values.first_values c.in_ok-first_values.ensures.each c.requires.all in
    record {
      read = first_read (indexed_folder c.args.folder.now) c.args.granules.now c.args.count c.args.columns.now c.in-Some.others.now c.in-Some.first.now c.in_ok-rows.rows.items c.in_ok-first_values.first_values c.in-Some.ensures.cases.0
          c.in_ok-first_values.ensures.reads c.in_ok-rows.ensures;
      fit = first_fits c.args.columns.now c.in-Some.others.now c.in-Some.first.now c.args.count c.in_ok-rows.rows.items (all_values c.in_ok-first_values.first_values) c.in-Some.ensures.cases.0 many c.in_ok-rows.ensures c.in_ok-first_values.ensures.fit;
    }

pub read_column-requires-in-loop-column-clause-profile : goal.read_column-requires-in-loop-column-clause-profile
read_column-requires-in-loop-column-clause-profile c =
    let at = after_first c.args.columns.now c.in-Some.others.now c.in-Some.first.now c.column-item.result c.loop-column.column-index c.in-Some.ensures.cases.0 c.loop-column-test.true c.column-item.is in
    subst (λ (x : Column). IsTrue (is_profile x.ty)) (sym at.1) (c.requires.profile (c.loop-column.column-index + 1) c.column-item.result at.0)

pub returns-in_err-values-clause-reads : goal.returns-in_err-values-clause-reads
returns-in_err-values-clause-reads c =
    let p = err_from_is_err_and c.from_residual-in_err-values.result c.from_residual-in_err-values.ensures.1 in
    let step = column_reading (indexed_folder c.args.folder.now) c.args.granules.now in
    let at = after_first c.args.columns.now c.in-Some.others.now c.in-Some.first.now c.column-item.result c.loop-column.column-index c.in-Some.ensures.cases.0 c.loop-column-test.true c.column-item.is in
    rw (p.1, p.2) (fails_then c.in_err-values.field-0.0 (in_order step c.args.columns.now) (λ values. Ok (rows_of c.args.count (map all_values values)))
    (fails_in_order c.in_err-values.field-0.0 step c.args.columns.now (c.loop-column.column-index + 1) c.column-item.result c.loop-column.invariant.read.values at.0 at.1 c.loop-column.invariant.read.so_far c.in_err-values.ensures.reads))

pub append_column-requires : goal.append_column-requires
append_column-requires c =
    let many = rows_many (indexed_folder c.args.folder.now) c.args.granules.now c.args.count _ c.loop-column.rows.items c.loop-column.invariant.read in
    let fit = values_fit c.args.count c.args.granules.now c.in_ok-values.values c.in_ok-values.ensures.each c.requires.all in
    omega (arith, many, fit, c.loop-column.rows.ok.0)

pub loop-column-preserved : goal.loop-column-preserved
loop-column-preserved c =
    let i = c.loop-column.column-index + 1 in
    let at = after_first c.args.columns.now c.in-Some.others.now c.in-Some.first.now c.column-item.result c.loop-column.column-index c.in-Some.ensures.cases.0 c.loop-column-test.true c.column-item.is in
    let many = rows_many (indexed_folder c.args.folder.now) c.args.granules.now c.args.count _ c.loop-column.rows.items c.loop-column.invariant.read in
    let values = values_fit c.args.count c.args.granules.now c.in_ok-values.values c.in_ok-values.ensures.each c.requires.all in
    record {
      read = column_read (indexed_folder c.args.folder.now) c.args.granules.now c.args.count c.args.columns.now i c.column-item.result c.loop-column.rows.items c.append_column.new.rows.items c.in_ok-values.values
          at.0 at.1 c.in_ok-values.ensures.reads c.in_ok-values.ensures.each c.requires.all c.in_ok-append_column.ensures c.loop-column.invariant.read;
      fit = column_fits c.args.columns.now i c.column-item.result c.loop-column.rows.items c.append_column.new.rows.items (all_values c.in_ok-values.values) at.0 at.1
          (omega (arith, many, values)) c.in_ok-append_column.ensures c.loop-column.invariant.fit c.in_ok-values.ensures.fit;
    }

pub returns-clause-reads : goal.returns-clause-reads
returns-clause-reads c =
    let long = ap (λ (cs : List Column). length cs) c.in-Some.ensures.cases.0 in
    all_read (indexed_folder c.args.folder.now) c.args.granules.now c.args.count c.args.columns.now (c.loop-column.column-index + 1) c.loop-column.rows.items (omega (arith, long, c.loop-column-test.false)) c.loop-column.invariant.read

pub returns-clause-fit : goal.returns-clause-fit
returns-clause-fit c =
    let long = ap (λ (cs : List Column). length cs) c.in-Some.ensures.cases.0 in
    all_fit c.args.columns.now (c.loop-column.column-index + 1) c.loop-column.rows.items (omega (arith, long, c.loop-column-test.false)) c.loop-column.invariant.fit
