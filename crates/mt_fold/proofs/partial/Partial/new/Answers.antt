use Rattle.std.proofs.Common.{◌≡◌, ◌∙◌, sym, ap, [], ◌∷◌}
use Rattle.indexmap.specs.IndexMap.{insert_entry}
use Rattle.mt_defs.specs.Projections.{is_same_key}
use Rattle.mt_fold.specs.Answer.{aggregates}
use Rattle.mt_fold.specs.Gathered.{folds_of}
use Rattle.mt_fold.proofs.GroupLemmas.{one_group, no_groups}
use Rattle.mt_fold.proofs.partial.Partial.new.Goals as goal
use Rattle.mt_fold.proofs.partial.Partial.new.Goals.{then-is_one_group+in_ok-states+in_ok-insert+in-Some-1, then-is_one_group+in_ok-states+in_ok-insert+in-None-1, else-is_one_group}

pub returns-clause-gathers : goal.returns-clause-gathers
returns-clause-gathers c = let q = c.args.query.now in elim c.if-is_one_group.branch [
  | then-is_one_group+in_ok-states+in_ok-insert+in-Some-1 w ↦
      let st = w.in_ok-states.states in
      let is : w.insert.new.self.entries ≡ ([], folds_of (aggregates q.items) []) ∷ [] =
      w.in_ok-insert.ensures.entries ∙ ap (λ es. insert_entry is_same_key es w.new.result st) c.new-groups.ensures.empty ∙ ap (λ k. (k, st) ∷ []) w.new.ensures
      ∙ ap (λ s. ([], s) ∷ []) (w.in_ok-states.ensures ∙ ap (λ items. folds_of (aggregates items) []) w.as_slice.ensures) in
      rw (w.groups-is, c.new-2.ensures) (one_group q w.insert.new.self.entries (sym c.is_one_group.ensures ∙ w.if-is_one_group.true) w.in_ok-insert.ensures.unique is)
  | then-is_one_group+in_ok-states+in_ok-insert+in-None-1 w ↦
      let st = w.in_ok-states.states in
      let is : w.insert.new.self.entries ≡ ([], folds_of (aggregates q.items) []) ∷ [] =
      w.in_ok-insert.ensures.entries ∙ ap (λ es. insert_entry is_same_key es w.new.result st) c.new-groups.ensures.empty ∙ ap (λ k. (k, st) ∷ []) w.new.ensures
      ∙ ap (λ s. ([], s) ∷ []) (w.in_ok-states.ensures ∙ ap (λ items. folds_of (aggregates items) []) w.as_slice.ensures) in
      rw (w.groups-is, c.new-2.ensures) (one_group q w.insert.new.self.entries (sym c.is_one_group.ensures ∙ w.if-is_one_group.true) w.in_ok-insert.ensures.unique is)
  | else-is_one_group w ↦
      rw (w.groups-is, c.new-2.ensures) (no_groups q c.new-groups.result.entries (sym c.is_one_group.ensures ∙ w.if-is_one_group.false) c.new-groups.ensures.unique c.new-groups.ensures.empty)
]
