use Rattle.std.proofs.Common.{◌≡◌, true, false, sym, ◌∙◌}
use Rattle.std.specs.List.{list_any}
use Rattle.mt_facts.proofs.Lists.{any_map}
use Rattle.mt_skip.specs.declared.seen.Seen.{Seen}
use Rattle.mt_skip.specs.Gathering.{is_same, values_in}
use Rattle.mt_skip.proofs.DistinctLemmas.{among_fails, among_holds}
use Rattle.mt_skip.proofs.agreement.are_among.Goals as goal

pub returns-then-not-contains : goal.returns-then-not-contains
returns-then-not-contains c =
    let keys = c.args.distinct.now.keys in
    let v = c.value-item.result in
    let lacks : list_any (is_same v) (values_in keys) ≡ false = any_map (is_same v) (λ (key : Seen). key.value.now) keys ∙ sym c.contains.ensures ∙ c.if-not-contains.true in
    sym (among_fails (values_in keys) c.args.values.now c.loop-value.value-index v c.loop-value-test.true c.value-item.is lacks) ∙ c.loop-value.invariant

pub loop-value-preserved : goal.loop-value-preserved
loop-value-preserved c =
    let keys = c.args.distinct.now.keys in
    let v = c.value-item.result in
    let has : list_any (is_same v) (values_in keys) ≡ true = any_map (is_same v) (λ (key : Seen). key.value.now) keys ∙ sym c.contains.ensures ∙ c.if-not-contains.false in
    among_holds (values_in keys) c.args.values.now c.loop-value.value-index v c.loop-value-test.true c.value-item.is has ∙ c.loop-value.invariant
