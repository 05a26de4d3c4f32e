use Rattle.std.proofs.Common.{ℕ, Bool, cond, ◌==◌, [], ◌∷◌, ◌++◌, ap, sym, ◌∙◌}
use Rattle.std.specs.Prelude.{filter}
use Rattle.std.specs.List.{list_any, range_with_len}
use Rattle.std.proofs.lemmas.List.{append-nil}
use Rattle.mt_proj.proofs.WalkLemmas.{filter_range_more}
use Rattle.mt_proj.proofs.normal.stored_columns.Goals.{then-is_among+in_ok-push, else-is_among}
use Rattle.mt_proj.proofs.normal.stored_columns.Goals as goal

pub loop-column-preserved : goal.loop-column-preserved
loop-column-preserved c =
    let n = c.loop-column.column in
    let p : ℕ → Bool = λ i. list_any (λ j. j == i) c.args.columns.now in
    let before = filter p (range_with_len 0 n) in
    elim c.if-is_among.branch [
      | then-is_among+in_ok-push w ↦
          ap (λ v. v.items) w.stored-is ∙ w.in_ok-push.ensures.items ∙ ap (λ l. l ++ n ∷ []) c.loop-column.invariant ∙ sym (ap (λ b. before ++ cond b (n ∷ []) []) (sym c.is_among.ensures ∙ w.if-is_among.true)) ∙ sym (filter_range_more p n)
      | else-is_among w ↦
          ap (λ v. v.items) w.stored-is ∙ c.loop-column.invariant ∙ sym (append-nil before) ∙ sym (ap (λ b. before ++ cond b (n ∷ []) []) (sym c.is_among.ensures ∙ w.if-is_among.false)) ∙ sym (filter_range_more p n)
    ]
