use Rattle.std.proofs.Common.{cond, [], ◌∷◌, ◌++◌, ap, sym, ◌∙◌}
use Rattle.std.proofs.lemmas.List.{append-nil}
use Rattle.mt_table.specs.Stored.{columns_below}
use Rattle.mt_table.proofs.StoredLemmas.{below_more}
use Rattle.mt_table.proofs.stored.places_below.Goals.{then-is_among+in_ok-push, else-is_among}
use Rattle.mt_table.proofs.stored.places_below.Goals as goal

pub loop-place-preserved : goal.loop-place-preserved
loop-place-preserved c =
    let n = c.loop-place.place in
    let before = columns_below n c.args.chosen.now in
    elim c.if-is_among.branch [
      | then-is_among+in_ok-push w ↦
          w.places-is ∙ w.in_ok-push.ensures.ok ∙ ap (λ l. l ++ n ∷ []) c.loop-place.invariant ∙ sym (ap (λ b. before ++ cond b (n ∷ []) []) (sym c.is_among.ensures ∙ w.if-is_among.true)) ∙ sym (below_more n c.args.chosen.now)
      | else-is_among w ↦
          w.places-is ∙ c.loop-place.invariant ∙ sym (append-nil before) ∙ sym (ap (λ b. before ++ cond b (n ∷ []) []) (sym c.is_among.ensures ∙ w.if-is_among.false)) ∙ sym (below_more n c.args.chosen.now)
    ]
