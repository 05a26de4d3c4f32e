-- Runs of marks that are joined and cut again.
use Rattle.std.proofs.Common.{◌≡◌, ℕ, List, [], ◌∷◌, ◌++◌, length, drop, refl, ap, ◌∙◌}
use Rattle.std.specs.Prelude.{map, All}
use Rattle.std.specs.List.{flat_map}
use Rattle.std.proofs.lemmas.List.{take_at, drop_at}
use Rattle.std.proofs.lemmas.List.Elements.{All-head, All-tail}
use Rattle.mt_defs.specs.declared.mark.Mark.{Mark}
use Rattle.mt_marks.specs.Entries.{mark_runs}

abbrev joined : List (List Mark) → List Mark
joined = flat_map (λ run. run)

-- runs of equal lengths, joined, are cut into themselves
pub mark_runs-joined : (per : ℕ) (runs : List (List Mark)) → All (λ run. length run ≡ per) runs → mark_runs per (length runs) (joined runs) ≡ runs
mark_runs-joined per [] all = refl
mark_runs-joined per (run ∷ runs) all =
    let long = All-head (λ (r : List Mark). length r ≡ per) run runs all in
    ap (λ (first : List Mark). first ∷ mark_runs per (length runs) (drop per (run ++ joined runs))) (take_at run (joined runs) per long)
    ∙ ap (λ (rest : List Mark). run ∷ mark_runs per (length runs) rest) (drop_at run (joined runs) per long)
    ∙ ap (λ (rest : List (List Mark)). run ∷ rest) (mark_runs-joined per runs (All-tail (λ (r : List Mark). length r ≡ per) run runs all))

-- one mark an entry
pub mark_runs-one : (marks : List Mark) → mark_runs 1 (length marks) marks ≡ map (λ mark. mark ∷ []) marks
mark_runs-one [] = refl
mark_runs-one (mark ∷ marks) = ap (λ (rest : List (List Mark)). (mark ∷ []) ∷ rest) (mark_runs-one marks)
