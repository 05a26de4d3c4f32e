use Rattle.std.proofs.Common.{◌++◌, ◌∷◌, [], List, ℕ, map, ap, sym, ◌∙◌}
use Rattle.std.proofs.lemmas.List.{map_push}
use Rattle.std.proofs.lemmas.Result.{on_ok_weaker}
use Rattle.mt_types.specs.declared.value.Value.{Value}
use Rattle.mt_types.specs.declared.value.Value.TheVariants.{Text}
use Rattle.mt_cells.proofs.FitLemmas.{default_text}
use Rattle.mt_cells.proofs.items.Items.push_default.Goals as goal

pub returns-in-Texts-clause-ok : goal.returns-in-Texts-clause-ok
returns-in-Texts-clause-ok c =
    rw c.in-Texts.is (on_ok_weaker c.push.result (λ e. ap (map (λ (text : List ℕ). Text text)) e ∙ map_push (λ (text : List ℕ). Text text) c.in-Texts.texts []
    ∙ ap (λ (v : Value). map (λ (text : List ℕ). Text text) c.in-Texts.texts ++ v ∷ []) (sym default_text)) c.push.ensures.ok)
