-- Lemma: what the table of a trial says keeps the rules of a table. A table has this proof, and so it stands here and
-- not in proofs/.
use Rattle.std.specs.Prelude.{◌≡◌, true, false, not, IsTrue, [], ◌∷◌}
use Rattle.std.proofs.Common.{refl, ap, ◌∙◌}
use Rattle.mt_types.specs.declared.ty.Ty.{Ty, map-Ty, out-Ty}
use Rattle.mt_types.specs.declared.ty.Ty.TheFolds.{fold_out-Ty}
use Rattle.mt_types.specs.declared.ty.Ty.TheOpen.{Ty-F}
use Rattle.mt_types.specs.declared.ty.Ty.TheVariants.{Date, Str, UInt, outs-Date, outs-Str, outs-UInt}
use Rattle.mt_types.specs.declared.ty.Width.TheVariants.{W32, W64}
use Rattle.mt_types.specs.Profile.{Kind, is_known, is_profile, kind_of, kind_step}
use Rattle.mt_types.proofs.StepLemmas.{both_of}
use Rattle.mt_table.specs.ColumnTypes.{is_column_type, is_date_at, is_date_type, is_integer_at, is_integer_type, is_key_at, is_key_type, is_state_at}
use Rattle.mt_table.specs.Kept.{keeps_columns, keeps_key, keeps_partition, keeps_projections, keeps_rules, keeps_skips}
use Rattle.mt_trial.specs.Tables.{trial_columns, trial_fields, trial_partition, trial_projection, trial_skip}

-- ---- its types

profile_at : (ty : Ty) (level : Ty-F Ty) → out-Ty ty ≡ level → is_profile ty ≡ is_known (kind_step (map-Ty Ty Kind kind_of level))
profile_at ty level is = ap is_known (fold_out-Ty Kind kind_step ty ∙ ap (λ l. kind_step (map-Ty Ty Kind kind_of l)) is)

-- a type of the profile, and no state
column_at : (ty : Ty) (level : Ty-F Ty) → out-Ty ty ≡ level → is_known (kind_step (map-Ty Ty Kind kind_of level)) ≡ true → is_state_at level ≡ false → is_column_type ty ≡ true
column_at ty level is known none = both_of _ _ (profile_at ty level is ∙ known) (ap (λ l. not (is_state_at l)) is ∙ ap not none)

date_column : is_column_type Date ≡ true
date_column = column_at Date _ outs-Date refl refl

u32_column : is_column_type (UInt W32) ≡ true
u32_column = column_at (UInt W32) _ (outs-UInt W32) refl refl

u64_column : is_column_type (UInt W64) ≡ true
u64_column = column_at (UInt W64) _ (outs-UInt W64) refl refl

text_column : is_column_type Str ≡ true
text_column = column_at Str _ outs-Str refl refl

u32_key : is_key_type (UInt W32) ≡ true
u32_key = ap is_key_at (outs-UInt W32)

u64_key : is_key_type (UInt W64) ≡ true
u64_key = ap is_key_at (outs-UInt W64)

date_is_date : is_date_type Date ≡ true
date_is_date = ap is_date_at outs-Date

u64_integer : is_integer_type (UInt W64) ≡ true
u64_integer = ap is_integer_at (outs-UInt W64)

-- ---- its parts keep the rules

columns_keep : keeps_columns trial_columns ≡ true
columns_keep =
    both_of _ _ refl
    (both_of _ _
    (both_of _ _ (both_of _ _ refl date_column)
    (both_of _ _ (both_of _ _ refl u32_column) (both_of _ _ (both_of _ _ refl u64_column) (both_of _ _ (both_of _ _ refl text_column) refl)))) refl)

key_keeps : keeps_key trial_columns trial_fields.sort ≡ true
key_keeps = both_of _ _ refl (both_of _ _ refl (both_of _ _ u32_key (both_of _ _ u64_key refl)))

partition_keeps : keeps_partition trial_columns trial_partition ≡ true
partition_keeps = both_of _ _ refl (both_of _ _ refl (both_of _ _ refl (both_of _ _ date_is_date refl)))

skips_keep : keeps_skips trial_columns (trial_skip ∷ []) ≡ true
skips_keep = both_of _ _ refl (both_of _ _ (both_of _ _ (both_of _ _ refl (both_of _ _ u64_key refl)) refl) refl)

projections_keep : keeps_projections trial_columns (trial_projection ∷ []) ≡ true
projections_keep =
    both_of _ _ refl
    (both_of _ _ (both_of _ _ (both_of _ _ refl (both_of _ _ (both_of _ _ refl (both_of _ _ refl (both_of _ _ u32_key refl))) (both_of _ _ refl (both_of _ _ refl (both_of _ _ refl (both_of _ _ u64_integer refl)))))) refl) refl)

-- all of them do
pub trial_keeps : IsTrue (keeps_rules trial_fields)
trial_keeps =
    both_of _ _ refl
    (both_of _ _ columns_keep
    (both_of _ _ key_keeps
    (both_of _ _ refl (both_of _ _ partition_keeps (both_of _ _ skips_keep (both_of _ _ projections_keep refl))))))
