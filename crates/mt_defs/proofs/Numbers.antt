-- Columns of unsigned integers: names, order and encodings, one equation for each fold over types.
use Rattle.std.proofs.Common.{◌≡◌, ℕ, List, [], ◌∷◌, ap, ◌∙◌, sym}
use Rattle.std.specs.List.{flat_map}
use Rattle.mt_types.specs.declared.ty.Width.{Width}
use Rattle.mt_types.specs.declared.ty.Ty.{Ty, map-Ty, roll-Ty}
use Rattle.mt_types.specs.declared.ty.Ty.TheOpen.{Ty-F}
use Rattle.mt_types.specs.declared.ty.Ty.TheVariants.{UInt, outs-UInt}
use Rattle.mt_types.specs.declared.ty.Ty.TheViews.{roll-out-Ty}
use Rattle.mt_types.specs.declared.ty.Ty.TheFolds.{fold-Ty, fold_out-Ty}
use Rattle.mt_types.specs.declared.value.Value.{Value}
use Rattle.mt_types.specs.Items.{item_bytes}
use Rattle.mt_defs.specs.FileNames.{stream_suffixes, suffix_step}
use Rattle.mt_defs.specs.WrittenStreams.{Encoder, encoder_step, written_streams}

pub roll_UInt : (w : Width) → roll-Ty (Ty-F.UInt w) ≡ UInt w
roll_UInt w = ap roll-Ty (sym (outs-UInt w)) ∙ roll-out-Ty (UInt w)

-- a column of numbers has one substream, of its items
pub written_streams_UInt : (w : Width) (values : List Value) → written_streams (UInt w) values ≡ flat_map (item_bytes (UInt w)) values ∷ []
written_streams_UInt w values =
    ap (λ (e : Encoder). e.streams values) (fold_out-Ty Encoder encoder_step (UInt w) ∙ ap (λ l. encoder_step (map-Ty Ty Encoder (fold-Ty Encoder encoder_step) l)) (outs-UInt w))
    ∙ ap (λ ty. flat_map (item_bytes ty) values ∷ []) (roll_UInt w)

-- and its file names have no suffix
pub stream_suffixes_UInt : (w : Width) → stream_suffixes (UInt w) ≡ [] ∷ []
stream_suffixes_UInt w =
    ap (λ (f : ℕ → List (List ℕ)). f 0) (fold_out-Ty (ℕ → List (List ℕ)) suffix_step (UInt w))
    ∙ ap (λ l. suffix_step (map-Ty Ty (ℕ → List (List ℕ)) (fold-Ty (ℕ → List (List ℕ)) suffix_step) l) 0) (outs-UInt w)
