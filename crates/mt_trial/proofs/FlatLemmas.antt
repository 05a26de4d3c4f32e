-- The columns of a trial and of its projection have one substream each: their items, one after another.
use Rattle.std.proofs.Common.{◌≡◌, ℕ, zero, suc, arith, List, [], ◌∷◌, ◌++◌, length, ap, sym, ◌∙◌}
use Rattle.std.specs.Prelude.{All, IsTrue}
use Rattle.std.specs.List.{flat_map}
use Rattle.std.proofs.lemmas.List.{length-map}
use Rattle.mt_types.specs.declared.ty.Agg.{Agg}
use Rattle.mt_types.specs.declared.ty.Agg.TheVariants.{Sum}
use Rattle.mt_types.specs.declared.ty.Ty.{Ty, map-Ty, out-Ty, roll-Ty}
use Rattle.mt_types.specs.declared.ty.Ty.TheVariants.{UInt, Str, Date, CountState, State, outs-UInt, outs-Str, outs-Date, outs-CountState, outs-State}
use Rattle.mt_types.specs.declared.ty.Ty.TheOpen.{Ty-F}
use Rattle.mt_types.specs.declared.ty.Ty.TheFolds.{fold-Ty, fold_out-Ty}
use Rattle.mt_types.specs.declared.ty.Ty.TheViews.{roll-out-Ty}
use Rattle.mt_types.specs.declared.ty.Width.{Width}
use Rattle.mt_types.specs.declared.ty.Width.TheVariants.{W32, W64}
use Rattle.mt_types.specs.declared.value.Value.{Value}
use Rattle.mt_types.specs.Items.{item_bytes}
use Rattle.mt_table.specs.declared.column.Column.{Column}
use Rattle.mt_table.specs.Kept.{keeps_rules}
use Rattle.mt_table.specs.Stored.{inner_of}
use Rattle.mt_table.specs.Tables.{table_with}
use Rattle.mt_defs.specs.FileNames.{file_name, stream_names, stream_suffixes, suffix_step}
use Rattle.mt_defs.specs.WrittenStreams.{Encoder, encoder_step, written_streams}
use Rattle.mt_trial.specs.Tables.{trial_columns, trial_fields, trial_projection}

-- a type whose values are in one substream, one item after another
pub record IsFlatType (ty : Ty) : Type 0 where
  pub suffixes : stream_suffixes ty ≡ [] ∷ []
  pub items : (values : List Value) → written_streams ty values ≡ flat_map (item_bytes ty) values ∷ []

-- ---- by the outermost level of a type

suffixes_at : (ty : Ty) (level : Ty-F Ty) → out-Ty ty ≡ level → stream_suffixes ty ≡ suffix_step (map-Ty Ty (ℕ → List (List ℕ)) (fold-Ty (ℕ → List (List ℕ)) suffix_step) level) 0
suffixes_at ty level is =
    ap (λ (f : ℕ → List (List ℕ)). f 0) (fold_out-Ty (ℕ → List (List ℕ)) suffix_step ty)
    ∙ ap (λ l. suffix_step (map-Ty Ty (ℕ → List (List ℕ)) (fold-Ty (ℕ → List (List ℕ)) suffix_step) l) 0) is

encoder_at : (ty : Ty) (level : Ty-F Ty) → out-Ty ty ≡ level → fold-Ty Encoder encoder_step ty ≡ encoder_step (map-Ty Ty Encoder (fold-Ty Encoder encoder_step) level)
encoder_at ty level is = fold_out-Ty Encoder encoder_step ty ∙ ap (λ l. encoder_step (map-Ty Ty Encoder (fold-Ty Encoder encoder_step) l)) is

roll_is : (ty : Ty) (level : Ty-F Ty) → out-Ty ty ≡ level → roll-Ty level ≡ ty
roll_is ty level is = ap roll-Ty (sym is) ∙ roll-out-Ty ty

-- the items of a type
abbrev items_of : List Value → Ty → List (List ℕ)
items_of values ty = flat_map (item_bytes ty) values ∷ []

-- ---- the types

flat_Date : IsFlatType Date
flat_Date = record {
  suffixes = suffixes_at Date _ outs-Date;
  items = λ values. ap (λ (e : Encoder). e.streams values) (encoder_at Date _ outs-Date) ∙ ap (items_of values) (roll_is Date _ outs-Date);
}

flat_Str : IsFlatType Str
flat_Str = record {
  suffixes = suffixes_at Str _ outs-Str;
  items = λ values. ap (λ (e : Encoder). e.streams values) (encoder_at Str _ outs-Str) ∙ ap (items_of values) (roll_is Str _ outs-Str);
}

flat_UInt : (width : Width) → IsFlatType (UInt width)
flat_UInt width = record {
  suffixes = suffixes_at (UInt width) _ (outs-UInt width);
  items = λ values. ap (λ (e : Encoder). e.streams values) (encoder_at (UInt width) _ (outs-UInt width)) ∙ ap (items_of values) (roll_is (UInt width) _ (outs-UInt width));
}

flat_CountState : IsFlatType CountState
flat_CountState = record {
  suffixes = suffixes_at CountState _ outs-CountState;
  items = λ values. ap (λ (e : Encoder). e.streams values) (encoder_at CountState _ outs-CountState) ∙ ap (items_of values) (roll_is CountState _ outs-CountState);
}

encoder_of_UInt : (width : Width) → (fold-Ty Encoder encoder_step (UInt width)).ty ≡ UInt width
encoder_of_UInt width = ap (λ (e : Encoder). e.ty) (encoder_at (UInt width) _ (outs-UInt width)) ∙ roll_is (UInt width) _ (outs-UInt width)

flat_State : (agg : Agg) (width : Width) → IsFlatType (State agg (UInt width))
flat_State agg width = record {
  suffixes = suffixes_at (State agg (UInt width)) _ (outs-State agg (UInt width));
  items = λ values.
      ap (λ (e : Encoder). e.streams values) (encoder_at (State agg (UInt width)) _ (outs-State agg (UInt width)))
      ∙ ap (λ ty. items_of values (roll-Ty (Ty-F.State agg ty))) (encoder_of_UInt width)
      ∙ ap (items_of values) (roll_is (State agg (UInt width)) _ (outs-State agg (UInt width)));
}

-- ---- the columns

-- a column of such a type
abbrev pub IsFlatColumn : Column → Type 0
IsFlatColumn column = IsFlatType column.ty

pub one_name : (column : Column) → IsFlatColumn column → length (stream_names column) ≡ 1
one_name column flat = length-map (stream_suffixes column.ty) (λ suffix. file_name column.name ++ suffix) ∙ ap length flat.suffixes

pub trial_flat : All IsFlatColumn trial_columns
trial_flat zero d inside = flat_Date
trial_flat (suc zero) d inside = flat_UInt W32
trial_flat (suc (suc zero)) d inside = flat_UInt W64
trial_flat (suc (suc (suc zero))) d inside = flat_Str
trial_flat (suc (suc (suc (suc k)))) d inside = absurd (omega (arith, inside))

pub group_flat : (rules : IsTrue (keeps_rules trial_fields)) → All IsFlatColumn (inner_of (table_with trial_fields rules) trial_projection).columns
group_flat rules zero d inside = flat_UInt W32
group_flat rules (suc zero) d inside = flat_CountState
group_flat rules (suc (suc zero)) d inside = flat_State Sum W64
group_flat rules (suc (suc (suc k))) d inside = absurd (omega (arith, inside))
