-- Names gathered from the front on.
use Rattle.std.proofs.Common.{◌≡◌, ℕ, List, [], ◌∷◌, ◌++◌, Option, Some, None, ap, sym, ◌∙◌}
use Rattle.std.specs.List.{cons_option, filter_map}
use Rattle.std.proofs.lemmas.List.{append-nil}
use Rattle.std.proofs.lemmas.List.Elements.{filter_map-append}

-- one name more
pub gains : {X : Type 0} (h : X → Option (List ℕ)) (old new : List (List ℕ)) (before : List X) (x : X) (name copied : List ℕ)
    → new ≡ old ++ copied ∷ [] → copied ≡ name → h x ≡ Some name → old ≡ filter_map h before → new ≡ filter_map h (before ++ x ∷ [])
gains h old new before x name copied more same is are =
    more ∙ ap (λ n. old ++ n ∷ []) same ∙ ap (λ names. names ++ name ∷ []) are
    ∙ ap (λ o. filter_map h before ++ cons_option o []) (sym is)
    ∙ sym (filter_map-append h before (x ∷ []))

-- none more
pub stays : {X : Type 0} (h : X → Option (List ℕ)) (old : List (List ℕ)) (before : List X) (x : X)
    → h x ≡ None → old ≡ filter_map h before → old ≡ filter_map h (before ++ x ∷ [])
stays h old before x is are =
    are ∙ sym (append-nil (filter_map h before)) ∙ ap (λ o. filter_map h before ++ cons_option o []) (sym is) ∙ sym (filter_map-append h before (x ∷ []))
