use Rattle.std.proofs.Common.{◌≡◌, ◌+◌, ◌∙◌, length, arith, sym, ap, [], ◌∷◌, drop, get_or}
use Rattle.std.specs.Prelude.{unwrap_or}
use Rattle.std.proofs.Math.ListN.{length-set}
use Rattle.mt_types.specs.declared.value.AggState.TheVariants as state
use Rattle.mt_defs.specs.Folds.{states_join}
use Rattle.mt_defs.specs.Projections.{aggregate_index}
use Rattle.mt_query.specs.declared.query.Item.TheVariants.{Column}
use Rattle.mt_look.specs.Seen.{row_by_index}
use Rattle.mt_fold.specs.Answer.{item_aggregates}
use Rattle.mt_fold.specs.Steps.{option_list}
use Rattle.mt_fold.proofs.StateLemmas.{at_place}
use Rattle.mt_stored.specs.Merged.{given_state}
use Rattle.mt_stored.proofs.StoredLemmas.{join_none, join_full, join_some, joined_with, one_passes}
use Rattle.mt_stored.proofs.group.join_states.Goals as goal
use Rattle.mt_stored.proofs.group.join_states.Goals.{in-Some+then-place-states, in-Some+else-place-states, in_default}

pub given_state-requires-clause-shown : goal.given_state-requires-clause-shown
given_state-requires-clause-shown g c =
    one_passes (λ a. g.L.Look.shows c.args.from.now (length c.args.projection.now.keys.now + aggregate_index c.args.projection.now.aggs.now a)) c.args.items.now c.loop-item.item-index (Column 0) c.in-Some.aggregate (omega arith) c.requires.shown
    (sym c.aggregate_of.ensures ∙ ap option_list c.in-Some.is)

pub loop-item-preserved : goal.loop-item-preserved
loop-item-preserved g c =
    let items = c.args.items.now in
    let i = c.loop-item.item-index in
    let item = get_or items i (Column 0) in
    let given = given_state c.args.projection.now.keys.now c.args.projection.now.aggs.now (row_by_index (g.L.Look.rows_of c.args.from.now) c.args.row) in
    let states = c.loop-item.states in
    let at : drop i items ≡ item ∷ drop (i + 1) items = at_place (Column 0) items i (omega arith) in
    elim c.match-aggregate_of.branch [
      | in-Some+then-place-states w ↦
          let a = w.in-Some.aggregate in
          let old = get_or states c.loop-item.place (state.Count 0) in
          let one : item_aggregates item ≡ a ∷ [] = sym c.aggregate_of.ensures ∙ ap option_list w.in-Some.is in
          let joined : w.merge.new.self ≡ unwrap_or (states_join old (given a)) old =
          joined_with old w.given_state.result (given a) w.merge.new.self w.merge.ensures.joined w.given_state.ensures in
          record {
            within = rw (w.states-is, w.place-is) (omega (arith, length-set states c.loop-item.place w.merge.new.self));
            done = rw (w.states-is, w.place-is) (c.loop-item.invariant.done ∙ join_some given items states i c.loop-item.place item a (state.Count 0) w.merge.new.self at one (omega arith) joined);
          }
      | in-Some+else-place-states w ↦ record {
        within = omega (arith, w.place-is, ap length w.states-is);
        done = rw (w.states-is, w.place-is) (c.loop-item.invariant.done ∙ join_full given items states i c.loop-item.place (omega arith));
      }
      | in_default w ↦
          let none : item_aggregates item ≡ [] = sym c.aggregate_of.ensures ∙ ap option_list w.in_default.is in
          record {
            within = omega (arith, w.place-is, ap length w.states-is);
            done = rw (w.states-is, w.place-is) (c.loop-item.invariant.done ∙ join_none given items states i c.loop-item.place item at none);
          }
    ]
