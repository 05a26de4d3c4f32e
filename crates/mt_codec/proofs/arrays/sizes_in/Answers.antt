use Rattle.std.proofs.Common.{List, length, ◌<◌, Err, ℕ, ◌∙◌, ap, sym, subst, arith}
use Rattle.mt_codec.specs.ColumnReading.{items_from, size_front}
use Rattle.mt_codec.proofs.LoopLemmas.{ReadItems, Comes, goes, ends, fails}
use Rattle.mt_codec.proofs.StreamLemmas.{at_found, at_fault}
use Rattle.mt_codec.proofs.arrays.sizes_in.Goals as goal

pub loop-rest-preserved : goal.loop-rest-preserved
loop-rest-preserved c =
    let less : length c.loop-rest.sizes < c.args.count = omega (arith, c.len.ensures, c.loop-rest-test.true) in
    subst (λ (ns : List ℕ). Comes size_front c.args.count c.args.bytes.now ns c.in-Ok.after.now) (sym c.in_ok-push-in-Ok.ensures.ok)
    (goes size_front c.args.count c.args.bytes.now c.loop-rest.sizes c.loop-rest.rest.now c.in-Ok.size c.in-Ok.after.now less c.in-Ok.ensures c.loop-rest.invariant)

pub returns-in-Err-clause-reads : goal.returns-in-Err-clause-reads
returns-in-Err-clause-reads c =
    let less : length c.loop-rest.sizes < c.args.count = omega (arith, c.len.ensures, c.loop-rest-test.true) in
    at_fault c.args.stream c.len-item.result c.in-Err.why (items_from size_front 0 c.args.count c.args.bytes.now)
    (fails size_front c.args.count c.args.bytes.now c.loop-rest.sizes c.loop-rest.rest.now c.in-Err.why less c.in-Err.ensures c.loop-rest.invariant
    ∙ ap (λ (n : ℕ). let r : ReadItems ℕ = Err (n, c.in-Err.why) in r) (sym c.len-item.ensures))

pub returns-clause-reads : goal.returns-clause-reads
returns-clause-reads c =
    at_found c.args.stream _ _ (ends size_front c.args.count c.args.bytes.now c.loop-rest.sizes c.loop-rest.rest.now (omega (arith, c.len.ensures, c.loop-rest-test.false)) c.loop-rest.invariant)
