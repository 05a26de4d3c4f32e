use Rattle.std.proofs.Common.{◌≡◌, ◌+◌, ◌-◌, drop, sym, ◌∙◌, ap, arith}
use Rattle.mt_host.specs.Rising.{is_before_others}
use Rattle.mt_host.proofs.RisingLemmas.{rising_from}
use Rattle.mt_host.proofs.listing.is_rising.Goals as goal

pub loop-i-preserved : goal.loop-i-preserved
loop-i-preserved c =
    let entry = c.index-entries-i.result in
    let back : c.loop-i.i - 1 + 1 ≡ c.loop-i.i = omega arith in
    let rest : c.rest_from.result.now ≡ drop c.loop-i.i c.args.entries.now = c.rest_from.ensures ∙ ap (λ n. drop n c.args.entries.now) back in
    rising_from c.args.entries.now c.loop-i.i (c.loop-i.i - 1) entry (omega arith) (omega arith) c.index-entries-i.is
    (ap (is_before_others entry) (sym rest) ∙ sym c.is_before.ensures ∙ c.if-not-is_before.false) c.loop-i.invariant
