use Rattle.std.proofs.Common.{◌∙◌, ap, map}
use Rattle.std.specs.Str.{bytes_eq}
use Rattle.mt_facts.proofs.Lists.{any_map}
use Rattle.mt_table_names.proofs.SetLemmas.{keys_more, seen_before, taken_all, taken_more, taken_none, was_among, was_new}
use Rattle.mt_table_names.proofs.names.distinct.Goals as goal

pub loop-name-init : goal.loop-name-init
loop-name-init c = taken_none c.args.names.now _ (ap (map (λ name. name.now)) c.in_ok-set.ensures.empty)

pub returns-then-not-is_new : goal.returns-then-not-is_new
returns-then-not-is_new c =
    seen_before c.args.names.now _ c.loop-name.name-index c.as_slice.result.now c.name-item.result c.loop-name-test.true (c.as_slice.ensures ∙ c.name-item.is) c.loop-name.invariant
    (any_map (bytes_eq c.as_slice.result.now) (λ name. name.now) c.loop-name.set.keys ∙ was_among _ _ c.in_ok-is_new.ensures.added c.if-not-is_new.true)

pub loop-name-preserved : goal.loop-name-preserved
loop-name-preserved c =
    let absent = was_new _ _ c.in_ok-is_new.ensures.added c.if-not-is_new.false in
    taken_more c.args.names.now _ _ c.loop-name.name-index c.as_slice.result.now c.name-item.result c.loop-name-test.true (c.as_slice.ensures ∙ c.name-item.is) c.loop-name.invariant
    (any_map (bytes_eq c.as_slice.result.now) (λ name. name.now) c.loop-name.set.keys ∙ absent)
    (keys_more bytes_eq (λ name. name.now) c.loop-name.set.keys c.insert_full.new.self.keys c.as_slice.result absent c.in_ok-is_new.ensures.keys)

pub returns : goal.returns
returns c = let both = taken_all c.args.names.now _ c.loop-name.name-index c.loop-name-test.false c.loop-name.invariant in record { are = both.0; differ = both.1 }
