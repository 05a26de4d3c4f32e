use Rattle.std.proofs.Common.{◌≡◌, ◌∙◌, ap, cond, map, Some, []}
use Rattle.std.specs.Prelude.{unwrap_or}
use Rattle.indexmap.specs.IndexMap.{get}
use Rattle.mt_defs.specs.Projections.{is_same_key}
use Rattle.mt_look.specs.Seen.{row_by_index}
use Rattle.mt_fold.specs.Answer.{aggregates}
use Rattle.mt_fold.specs.Gathered.{folds_of}
use Rattle.mt_stored.specs.Merged.{given_state, join_each}
use Rattle.mt_stored.proofs.group.join_to_group.Goals as goal

pub returns-clause-joined : goal.returns-clause-joined
returns-clause-joined g c =
    let aggs = aggregates c.args.items.now in
    let given = given_state c.args.projection.now.keys.now c.args.projection.now.aggs.now (row_by_index (g.L.Look.rows_of c.args.from.now) c.args.row) in
    let states : c.join_row-2.new.states ≡ join_each (unwrap_or (get is_same_key c.args.groups c.args.key) (folds_of aggs [])) (map given aggs) =
    c.join_row-2.ensures ∙ ap (λ s. join_each s (map given aggs)) (c.in_ok-states.ensures ∙ ap (λ o. unwrap_or o (folds_of aggs [])) c.in_default.ensures.value) in
    λ k. c.in_ok-insert.ensures.updates.0 k
    ∙ ap (λ m. cond (is_same_key c.args.key k) (Some c.join_row-2.new.states) (get is_same_key m k)) c.get_mut.follows.holds-at-none
    ∙ ap (λ s. cond (is_same_key c.args.key k) (Some s) (get is_same_key c.args.groups k)) states
