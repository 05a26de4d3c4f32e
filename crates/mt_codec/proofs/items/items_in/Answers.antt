use Rattle.std.proofs.Common.{List, length, ◌<◌, sym, subst, arith}
use Rattle.mt_types.specs.declared.value.Value.{Value}
use Rattle.mt_item.specs.ItemReading.{item_front}
use Rattle.mt_codec.proofs.LoopLemmas.{Comes, starts, item_wrong, goes, ends, item_fails}
use Rattle.mt_codec.proofs.StreamLemmas.{at_found}
use Rattle.mt_codec.proofs.items.items_in.Goals as goal

pub loop-alloc-init : goal.loop-alloc-init
loop-alloc-init c =
    subst (λ (vs : List Value). Comes (item_front c.args.ty.now) c.args.count c.args.bytes.now vs c.args.bytes.now) (sym c.in_ok-values.ensures) (starts (item_front c.args.ty.now) c.args.count c.args.bytes.now)

pub loop-alloc-preserved : goal.loop-alloc-preserved
loop-alloc-preserved c =
    let front = item_front c.args.ty.now in
    let less : length c.loop-alloc.values < c.args.count = omega (arith, c.len.ensures, c.loop-alloc-test.true) in
    subst (λ (vs : List Value). Comes front c.args.count c.args.bytes.now vs c.in-Ok.after.now) (sym c.in_ok-push-in-Ok.ensures.ok)
    (goes front c.args.count c.args.bytes.now c.loop-alloc.values c.loop-alloc.rest.now c.in-Ok.value c.in-Ok.after.now less c.in-Ok.ensures.reads c.loop-alloc.invariant)

pub returns-in-Err-clause-reads : goal.returns-in-Err-clause-reads
returns-in-Err-clause-reads c =
    let less : length c.loop-alloc.values < c.args.count = omega (arith, c.len.ensures, c.loop-alloc-test.true) in
    item_fails (item_front c.args.ty.now) c.args.stream c.args.count c.args.bytes.now c.loop-alloc.values c.loop-alloc.rest.now c.len-in-Err.result c.in-Err.error c.item_error.result less
    (item_wrong c.in-Err.error (item_front c.args.ty.now c.loop-alloc.rest.now) c.in-Err.ensures.reads) c.loop-alloc.invariant c.len-in-Err.ensures c.item_error.ensures

pub returns-clause-reads : goal.returns-clause-reads
returns-clause-reads c =
    at_found c.args.stream _ _ (ends (item_front c.args.ty.now) c.args.count c.args.bytes.now c.loop-alloc.values c.loop-alloc.rest.now (omega (arith, c.len.ensures, c.loop-alloc-test.false)) c.loop-alloc.invariant)
