use Rattle.std.proofs.Common.{◌≡◌, ◌∙◌, ap, cond, Some, []}
use Rattle.std.specs.Prelude.{unwrap_or}
use Rattle.indexmap.specs.IndexMap.{get}
use Rattle.mt_defs.specs.Projections.{is_same_key}
use Rattle.mt_look.specs.Seen.{row_by_index}
use Rattle.mt_fold.specs.Answer.{aggregates}
use Rattle.mt_fold.specs.Gathered.{folds_of}
use Rattle.mt_fold.specs.Steps.{each_with}
use Rattle.mt_fold.proofs.group.add_to_group.Goals as goal

pub returns-clause-added : goal.returns-clause-added
returns-clause-added g c =
    let aggs = aggregates c.args.items.now in
    let row = row_by_index (g.L.Look.rows_of c.args.from.now) c.args.row in
    let states : c.add_row-2.new.states ≡ each_with aggs row (unwrap_or (get is_same_key c.args.groups c.args.key) (folds_of aggs [])) =
    c.add_row-2.ensures ∙ ap (each_with aggs row) (c.in_ok-states.ensures ∙ ap (λ o. unwrap_or o (folds_of aggs [])) c.in_default.ensures.value) in
    λ k. c.in_ok-insert.ensures.updates.0 k
    ∙ ap (λ m. cond (is_same_key c.args.key k) (Some c.add_row-2.new.states) (get is_same_key m k)) c.get_mut.follows.holds-at-none
    ∙ ap (λ s. cond (is_same_key c.args.key k) (Some s) (get is_same_key c.args.groups k)) states
