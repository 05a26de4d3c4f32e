use Rattle.std.proofs.Common.{◌≡◌, ◌+◌, ◌∙◌, length, arith, sym, ap, rules, [], ◌∷◌, drop, get_or}
use Rattle.std.proofs.Math.ListN.{length-set}
use Rattle.std.proofs.lemmas.Int.{to_z-of_z}
use Rattle.std.specs.Int.{w128}
use mir.Val.{SFits}
use Rattle.mt_types.specs.declared.value.AggState.TheVariants.{Count}
use Rattle.mt_defs.specs.Folds.{number_taken}
use Rattle.mt_agg.specs.States.{state_with}
use Rattle.mt_query.specs.declared.query.Item.TheVariants.{Column}
use Rattle.mt_look.specs.Seen.{row_by_index}
use Rattle.mt_fold.specs.Answer.{item_aggregates}
use Rattle.mt_fold.specs.Steps.{option_list}
use Rattle.mt_fold.proofs.StateLemmas.{at_place, step_none, step_full, step_some}
use Rattle.mt_fold.proofs.state.add_numbers.Goals as goal
use Rattle.mt_fold.proofs.state.add_numbers.Goals.{in-Some+then-place-states, in-Some+else-place-states, in_default}

pub loop-item-preserved : goal.loop-item-preserved
loop-item-preserved g c =
    let items = c.args.items.now in
    let i = c.loop-item.item-index in
    let item = get_or items i (Column 0) in
    let row = row_by_index (g.L.Look.rows_of c.args.from.now) c.args.row in
    let at : drop i items ≡ item ∷ drop (i + 1) items = at_place (Column 0) items i (omega arith) in
    elim c.match-aggregate_of.branch [
      | in-Some+then-place-states w ↦
          let fits : SFits w128 w.number_of.result = search rules in
          let a = w.in-Some.aggregate in
          let one : item_aggregates item ≡ a ∷ [] = sym c.aggregate_of.ensures ∙ ap option_list w.in-Some.is in
          let added : w.add.new.self ≡ state_with (get_or c.loop-item.states c.loop-item.place (Count 0)) (number_taken a row) =
          simp to_z-of_z at w.add.ensures.with ∙ ap (state_with (get_or c.loop-item.states c.loop-item.place (Count 0))) w.number_of.ensures in
          record {
            within = rw (w.states-is, w.place-is) (omega (arith, length-set c.loop-item.states c.loop-item.place w.add.new.self));
            done = rw (w.states-is, w.place-is) (c.loop-item.invariant.done ∙ step_some items c.loop-item.states i c.loop-item.place item a (Count 0) w.add.new.self row at one (omega arith) added);
          }
      | in-Some+else-place-states w ↦ record {
        within = omega (arith, w.place-is, ap length w.states-is);
        done = rw (w.states-is, w.place-is) (c.loop-item.invariant.done ∙ step_full items c.loop-item.states i c.loop-item.place row (omega arith));
      }
      | in_default w ↦
          let none : item_aggregates item ≡ [] = sym c.aggregate_of.ensures ∙ ap option_list w.in_default.is in
          record {
            within = omega (arith, w.place-is, ap length w.states-is);
            done = rw (w.states-is, w.place-is) (c.loop-item.invariant.done ∙ step_none items c.loop-item.states i c.loop-item.place item row at none);
          }
    ]
