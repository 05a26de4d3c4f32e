-- Two UInt64 columns keep the rules of a table.
use Rattle.std.proofs.Common.{◌≡◌, ◌⊎◌, inl, inr, ℕ, true, List, [], ◌∷◌, ap, ◌∙◌, refl}
use Rattle.std.specs.Prelude.{not}
use Rattle.mt_types.specs.declared.ty.Ty.{Ty, map-Ty}
use Rattle.mt_types.specs.declared.ty.Ty.TheVariants.{UInt, outs-UInt}
use Rattle.mt_types.specs.declared.ty.Ty.TheFolds.{fold_out-Ty}
use Rattle.mt_types.specs.declared.ty.Width.TheVariants.{W64}
use Rattle.mt_types.specs.Profile.{Kind, is_known, is_profile, kind_of, kind_step}
use Rattle.mt_types.proofs.StepLemmas.{both_of}
use Rattle.mt_types.specs.Words.{is_name}
use Rattle.mt_table.specs.ColumnTypes.{is_column_type, is_key_at, is_key_type, is_state_at, place_has}
use Rattle.mt_table.specs.Form.{numbers_fields, uint64_column, wide_settings}
use Rattle.mt_table.specs.Kept.{keeps_rules, keeps_settings}
use Rattle.mt_table.specs.Names.{names_differ}

of_profile : is_profile (UInt W64) ≡ true
of_profile = ap is_known (fold_out-Ty Kind kind_step (UInt W64) ∙ ap (λ l. kind_step (map-Ty Ty Kind kind_of l)) (outs-UInt W64))

of_a_column : is_column_type (UInt W64) ≡ true
of_a_column = both_of _ _ of_profile (ap (λ l. not (is_state_at l)) (outs-UInt W64))

of_a_key : is_key_type (UInt W64) ≡ true
of_a_key = ap is_key_at (outs-UInt W64)

one_of_two : (first second : List ℕ) (place : ℕ) → (place ≡ 0) ⊎ (place ≡ 1) → place_has is_key_type (uint64_column first ∷ uint64_column second ∷ []) place ≡ true
one_of_two first second place (inl zeroth) = ap (place_has is_key_type (uint64_column first ∷ uint64_column second ∷ [])) zeroth ∙ of_a_key
one_of_two first second place (inr next) = ap (place_has is_key_type (uint64_column first ∷ uint64_column second ∷ [])) next ∙ of_a_key

pub numbers_keep : (name first second : List ℕ) (place rows bytes : ℕ) → is_name name ≡ true → is_name first ≡ true → is_name second ≡ true → names_differ (first ∷ second ∷ []) ≡ true
    → (place ≡ 0) ⊎ (place ≡ 1) → keeps_settings (wide_settings rows bytes) ≡ true → keeps_rules (numbers_fields name first second place rows bytes) ≡ true
numbers_keep name first second place rows bytes named one two differ key settings =
    both_of _ _ named
    (both_of _ _ (both_of _ _ refl (both_of _ _ (both_of _ _ (both_of _ _ one of_a_column) (both_of _ _ (both_of _ _ two of_a_column) refl)) differ))
    (both_of _ _ (both_of _ _ refl (both_of _ _ refl (both_of _ _ (one_of_two first second place key) refl)))
    (both_of _ _ refl (both_of _ _ refl (both_of _ _ refl (both_of _ _ refl settings))))))
