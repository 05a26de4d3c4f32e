use Rattle.std.proofs.Common.{List, ℕ, ap, sym, ◌∙◌, subst, arith, get_or, length}
use Rattle.std.specs.Prelude.{Ok}
use Rattle.std.proofs.lemmas.Result.{err_from_is_err_and}
use Rattle.std.specs.List.{enumerate_from}
use Rattle.std.proofs.lemmas.List.{get_or_default}
use Rattle.std.proofs.lemmas.Nat.{mul-le}
use Rattle.mt_types.specs.declared.value.Value.{Value}
use Rattle.mt_granules.specs.FileFaults.{in_order}
use Rattle.mt_fault.specs.Results.{FailsAs}
use Rattle.mt_granules.specs.PayloadView.{payloads_in}
use Rattle.mt_types.specs.Fits.{fits_of}
use Rattle.mt_granules.proofs.FitLemmas.{granule_fits}
use Rattle.mt_granules.proofs.OrderLemmas.{numbered_continues, numbered_ends}
use Rattle.mt_granules.proofs.PayloadLemmas.{granules_few}
use Rattle.mt_granules.proofs.StepLemmas.{fails_numbered}
use Rattle.mt_granules.proofs.LayoutLemmas.{lengths_more}
use Rattle.mt_compact.specs.CompactReading.{compact_granule_reading}
use Rattle.mt_compact.proofs.reading.read_column.Goals as goal

pub overflow_mul-index : goal.overflow_mul-index
overflow_mul-index c =
    let many = granules_few c.args.payloads.now in
    let few = ap (λ (l : List ℕ). length l) c.granules-granules.ensures in
    let most = mul-le c.loop-granule.granule c.args.width 4194304 256 (omega (arith, c.loop-granule-test.true, many, few, c.requires.few)) (omega (arith, c.requires.each, c.args.payloads.now.complete.few)) in
    omega (arith, most)

pub overflow_add-index : goal.overflow_add-index
overflow_add-index c =
    let many = granules_few c.args.payloads.now in
    let few = ap (λ (l : List ℕ). length l) c.granules-granules.ensures in
    let most = mul-le c.loop-granule.granule c.args.width 4194304 256 (omega (arith, c.loop-granule-test.true, many, few, c.requires.few)) (omega (arith, c.requires.each, c.args.payloads.now.complete.few)) in
    omega (arith, most, c.requires.index, c.requires.each, c.args.payloads.now.complete.few)

pub returns-in_err-read_granule-clause-reads : goal.returns-in_err-read_granule-clause-reads
returns-in_err-read_granule-clause-reads c =
    let p = err_from_is_err_and c.from_residual-in_err-read_granule.result c.from_residual-in_err-read_granule.ensures.1 in
    let granules = c.granules-granules.result.now in
    let i = c.loop-granule.granule in
    let step = compact_granule_reading c.args.column.now c.args.column_index c.args.width (payloads_in c.args.payloads.now).payloads in
    rw (p.1, p.2) (subst (λ (g : List ℕ). FailsAs c.in_err-read_granule.field-0.0 (in_order step (enumerate_from 0 g))) c.granules-granules.ensures (fails_numbered c.in_err-read_granule.field-0.0 step granules i (get_or granules i 0) c.loop-granule.values c.loop-granule-test.true (get_or_default granules i 0 (get_or granules i 0) c.loop-granule-test.true)
    c.loop-granule.invariant.so_far c.in_err-read_granule.ensures.reads))

pub loop-granule-preserved : goal.loop-granule-preserved
loop-granule-preserved c =
    let granules = c.granules-granules.result.now in
    let i = c.loop-granule.granule in
    let at = get_or_default granules i 0 (get_or granules i 0) c.loop-granule-test.true in
    record {
      so_far = numbered_continues (compact_granule_reading c.args.column.now c.args.column_index c.args.width (payloads_in c.args.payloads.now).payloads) granules i (get_or granules i 0) c.loop-granule.values c.loop-granule.invariant.so_far
          c.in_ok-read_granule.field-0 c.loop-granule-test.true at c.in_ok-read_granule.ensures.reads ∙ ap (λ (l : List (List Value)). Ok l) (sym c.in_ok-push.ensures.ok);
      each = lengths_more granules i c.loop-granule.values c.push.new.self c.in_ok-read_granule.field-0 (get_or granules i 0) c.loop-granule-test.true at c.in_ok-push.ensures.ok c.in_ok-read_granule.ensures.many c.loop-granule.invariant.each;
      fit = granule_fits (fits_of c.args.column.now.ty) c.loop-granule.values c.push.new.self c.in_ok-read_granule.field-0 c.in_ok-push.ensures.ok c.loop-granule.invariant.fit c.in_ok-read_granule.ensures.fit;
    }

pub returns-clause-reads : goal.returns-clause-reads
returns-clause-reads c =
    let step = compact_granule_reading c.args.column.now c.args.column_index c.args.width (payloads_in c.args.payloads.now).payloads in
    ap (λ (g : List ℕ). in_order step (enumerate_from 0 g)) (sym c.granules-granules.ensures)
    ∙ numbered_ends step c.granules-granules.result.now c.loop-granule.granule 0 c.loop-granule.values c.loop-granule.invariant.so_far c.loop-granule-test.false
