use Rattle.std.proofs.Common.{◌∙◌}
use Rattle.mt_table_rules.proofs.KeyLemmas.{no_more, other_name, same_name, too_long}
use Rattle.mt_table_names.proofs.SetLemmas.{was_among, was_new}
use Rattle.mt_table_rules.proofs.keys.begins.Goals as goal

pub returns-then-first-names : goal.returns-then-first-names
returns-then-first-names c = too_long c.args.first.now c.args.names.now c.if-first-names.true

pub returns-then-ne : goal.returns-then-ne
returns-then-ne c =
    other_name c.args.first.now c.args.names.now c.loop-place.place c.as_slice.result.now c.as_slice-in-loop-place.result.now _ _ c.loop-place-test.true c.if-first-names.false
    (c.as_slice.ensures ∙ c.index-first-place.is) (c.as_slice-in-loop-place.ensures ∙ c.index-names-place.is) (was_new _ _ c.ne.ensures c.if-ne.true) c.loop-place.invariant

pub loop-place-preserved : goal.loop-place-preserved
loop-place-preserved c =
    same_name c.args.first.now c.args.names.now c.loop-place.place c.as_slice.result.now c.as_slice-in-loop-place.result.now _ _ c.loop-place-test.true c.if-first-names.false
    (c.as_slice.ensures ∙ c.index-first-place.is) (c.as_slice-in-loop-place.ensures ∙ c.index-names-place.is) (was_among _ _ c.ne.ensures c.if-ne.false) c.loop-place.invariant

pub returns : goal.returns
returns c = no_more c.args.first.now c.args.names.now c.loop-place.place c.loop-place-test.false c.loop-place.invariant
