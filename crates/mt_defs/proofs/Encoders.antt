-- How columns of a type are encoded, one level at a time.
use Rattle.std.proofs.Common.{◌≡◌, refl, ap, sym, ◌∙◌}
use Rattle.mt_types.specs.declared.ty.Ty.{Ty, map-Ty, out-Ty}
use Rattle.mt_types.specs.declared.ty.Ty.TheOpen.{Ty-F}
use Rattle.mt_types.specs.declared.ty.Ty.TheViews.{roll-out-Ty}
use Rattle.mt_types.specs.declared.ty.Ty.TheFolds.{rec-roll-Ty}
use Rattle.mt_defs.specs.Encoding.{Encoding, EncodesAs, encoding_step}

step_natural : (X : Type 0) (type_of : X → Ty) (encoding : Ty → Encoding) (level : Ty-F X)
    → encoding_step X type_of (λ u. encoding (type_of u)) level ≡ encoding_step Ty (λ u. u) encoding (map-Ty X Ty type_of level)
step_natural X type_of encoding (Ty-F.UInt w) = refl
step_natural X type_of encoding (Ty-F.Int w) = refl
step_natural X type_of encoding (Ty-F.FixedString n) = refl
step_natural X type_of encoding Ty-F.Str = refl
step_natural X type_of encoding Ty-F.Date = refl
step_natural X type_of encoding Ty-F.Moment = refl
step_natural X type_of encoding (Ty-F.Nullable u) = refl
step_natural X type_of encoding (Ty-F.Array u) = refl
step_natural X type_of encoding (Ty-F.State agg u) = refl
step_natural X type_of encoding Ty-F.CountState = refl

-- what substreams say of values, by the outermost level of the type
pub EncodesAs_out : (ty : Ty) → EncodesAs ty ≡ encoding_step Ty (λ u. u) EncodesAs (out-Ty ty)
EncodesAs_out ty = ap EncodesAs (sym (roll-out-Ty ty)) ∙ rec-roll-Ty Encoding encoding_step step_natural (out-Ty ty)
