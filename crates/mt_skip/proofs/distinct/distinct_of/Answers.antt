use Rattle.std.proofs.Common.{◌≡◌, ◌+◌, ◌&&◌, length, ◌∷◌, [], ◌++◌, take, ap, sym, ◌∙◌}
use Rattle.std.specs.Prelude.{nat_lt}
use Rattle.std.proofs.lemmas.List.{take_more, length-map}
use Rattle.mt_defs.specs.SkipIndexes.{distinct_values}
use Rattle.mt_skip.specs.declared.seen.Seen.{Seen}
use Rattle.mt_skip.specs.Gathering.{values_in}
use Rattle.mt_skip.proofs.DistinctLemmas.{gather_step, too_many_so_far}
use Rattle.mt_skip.proofs.distinct.distinct_of.Goals as goal

pub returns-then-is_above : goal.returns-then-is_above
returns-then-is_above c =
    let i = c.loop-value.value-index in
    let values = c.args.values.now in
    let keys = c.insert.new.self.keys in
    let gathered : values_in keys ≡ distinct_values (take (i + 1) values) =
    gather_step c.loop-value.distinct.keys keys _ (take i values) c.in_ok-insert.ensures.keys c.loop-value.invariant.gathered
    ∙ ap (λ v. distinct_values (take i values ++ v ∷ [])) c.value-item.is ∙ ap distinct_values (sym (take_more values i c.value-item.result c.loop-value-test.true)) in
    let long : length (values_in keys) ≡ c.len.result = length-map keys (λ (key : Seen). key.value.now) ∙ sym c.len.ensures.len in
    too_many_so_far c.args.max_rows (i + 1) values (values_in keys) gathered (ap (λ n. nat_lt 0 c.args.max_rows && nat_lt c.args.max_rows n) long ∙ sym c.is_above.ensures ∙ c.if-is_above.true)

pub loop-value-preserved : goal.loop-value-preserved
loop-value-preserved c =
    let i = c.loop-value.value-index in
    let values = c.args.values.now in
    let keys = c.insert.new.self.keys in
    record {
      gathered = gather_step c.loop-value.distinct.keys keys _ (take i values) c.in_ok-insert.ensures.keys c.loop-value.invariant.gathered
          ∙ ap (λ v. distinct_values (take i values ++ v ∷ [])) c.value-item.is ∙ ap distinct_values (sym (take_more values i c.value-item.result c.loop-value-test.true));
      few = ap (λ n. nat_lt 0 c.args.max_rows && nat_lt c.args.max_rows n) (sym c.len.ensures.len) ∙ sym c.is_above.ensures ∙ c.if-is_above.false;
    }
