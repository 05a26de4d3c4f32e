-- Lists made of the parts of a sentence.
use Rattle.std.proofs.Common.{◌≡◌, ℕ, ◌+◌, ◌<◌, ◌≤◌, List, [], ◌∷◌, ◌++◌, length, refl, ap, sym, ◌∙◌, get_or, take}
use Rattle.std.specs.Prelude.{not, Option, Some, None}
use Rattle.std.specs.List.{cons_option, filter_map}
use Rattle.std.specs.Option.{option_to_list}
use Rattle.std.specs.Str.{bytes_eq}
use Rattle.std.proofs.lemmas.List.{take_more}
use Rattle.std.proofs.lemmas.List.Elements.{filter_map-append}
use Rattle.std.proofs.lemmas.List.Sums.{prefix_len-le-length}
use Rattle.mt_table_names.specs.Sentence.{place_in}

one_or_none : {Y : Type 0} (found : Option Y) → option_to_list found ≡ cons_option found []
one_or_none None = refl
one_or_none (Some y) = refl

-- what one element more gives
pub found_more : {X Y : Type 0} (h : X → Option Y) (xs : List X) (i : ℕ) (x d : X) (old new : List Y) (found : Option Y) → i < length xs → x ≡ get_or xs i d
    → found ≡ h x → new ≡ old ++ option_to_list found → old ≡ filter_map h (take i xs) → new ≡ filter_map h (take (i + 1) xs)
found_more h xs i x d old new found inside is gives more so_far =
    more ∙ ap (λ items. items ++ option_to_list found) so_far ∙ ap (λ items. filter_map h (take i xs) ++ items) (one_or_none found ∙ ap (λ o. cons_option o []) (gives ∙ ap h is))
    ∙ sym (filter_map-append h (take i xs) (get_or xs i d ∷ [])) ∙ ap (filter_map h) (sym (take_more xs i d inside))

-- a place is at most how many names there are
pub place_within : (names : List (List ℕ)) (name : List ℕ) → place_in names name ≤ length names
place_within names name = prefix_len-le-length (λ other. not (bytes_eq name other)) names
