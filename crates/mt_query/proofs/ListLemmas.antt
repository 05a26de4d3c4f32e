-- Lists, as loops make them.
use Rattle.std.proofs.Common.{◌≡◌, ℕ, ◌+◌, List, [], ◌∷◌, ◌++◌, map, refl, ap, sym, ◌∙◌}
use Rattle.std.specs.Prelude.{Option, option_map}
use Rattle.std.specs.List.{range_with_len}
use Rattle.std.proofs.lemmas.List.{map-append}
use Rattle.mt_table.proofs.PlaceLemmas.{range_more}

-- what was found, before the values of what is left
abbrev pub with_front : {B : Type 0} → List B → Option (List B) → Option (List B)
with_front found rest = option_map (λ ys. found ++ ys) rest

-- one more of the first numbers
pub mapped_more : {B : Type 0} (f : ℕ → B) (n : ℕ) (old new : List B) → new ≡ old ++ f n ∷ [] → old ≡ map f (range_with_len 0 n) → new ≡ map f (range_with_len 0 (n + 1))
mapped_more f n old new more so_far =
    more ∙ ap (λ ys. ys ++ f n ∷ []) so_far ∙ sym (map-append f (range_with_len 0 n) (n ∷ []))
    ∙ ap (map f) (range_more n (range_with_len 0 n) (range_with_len 0 n ++ n ∷ []) refl refl)
