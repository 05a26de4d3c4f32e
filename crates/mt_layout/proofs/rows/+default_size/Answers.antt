use Rattle.std.proofs.Common.{◌≡◌, pos, refl, ap, sym, ◌∙◌, arith}
use Rattle.mt_types.specs.declared.ty.Ty.{out-Ty}
use Rattle.mt_types.specs.declared.ty.Ty.TheOpen.{Ty-F}
use Rattle.mt_types.specs.declared.ty.Ty.TheVariants.{Nullable, outs-UInt, outs-Int, outs-Date, outs-Moment, outs-State, outs-CountState}
use Rattle.mt_types.specs.declared.value.AggState.TheVariants.{Count}
use Rattle.mt_types.specs.declared.value.Value.TheVariants.{Num, State}
use Rattle.mt_layout.specs.Sizes.{saturated}
use Rattle.mt_layout.proofs.SizeLemmas.{default_single, default_FixedString, default_Str, default_Nullable, default_Array, saturated-more, saturated-small}
use Rattle.mt_layout.proofs.rows.+default_size.Goals as goal

pub returns-in-UInt : goal.returns-in-UInt
returns-in-UInt t c =
    c.item_size.ensures ∙ ap saturated (sym (default_single c.args.ty.now (Ty-F.UInt c.in-UInt.field-0) (ap out-Ty c.in-UInt.is ∙ outs-UInt c.in-UInt.field-0) tt (Num (pos 0)) refl))

pub returns-in-Int : goal.returns-in-Int
returns-in-Int t c =
    c.item_size-in-Int.ensures ∙ ap saturated (sym (default_single c.args.ty.now (Ty-F.Int c.in-Int.field-0) (ap out-Ty c.in-Int.is ∙ outs-Int c.in-Int.field-0) tt (Num (pos 0)) refl))

pub returns-in-Date : goal.returns-in-Date
returns-in-Date t c =
    c.item_size-in-Date.ensures ∙ ap saturated (sym (default_single c.args.ty.now Ty-F.Date (ap out-Ty c.in-Date.is ∙ outs-Date) tt (Num (pos 0)) refl))

pub returns-in-Moment : goal.returns-in-Moment
returns-in-Moment t c =
    c.item_size-in-Moment.ensures ∙ ap saturated (sym (default_single c.args.ty.now Ty-F.Moment (ap out-Ty c.in-Moment.is ∙ outs-Moment) tt (Num (pos 0)) refl))

pub returns-in-FixedString : goal.returns-in-FixedString
returns-in-FixedString t c =
    c.from.ensures ∙ saturated-small c.in-FixedString.size _ (omega arith) (default_FixedString c.args.ty.now c.in-FixedString.size c.in-FixedString.is)

pub returns-in-Str : goal.returns-in-Str
returns-in-Str t c = saturated-small 1 _ (omega arith) (default_Str c.args.ty.now c.in-Str.is)

pub returns-in-Nullable : goal.returns-in-Nullable
returns-in-Nullable t c =
    let inner = c.get.result.now in
    let is : c.args.ty.now ≡ Nullable inner = c.in-Nullable.is ∙ ap (λ u. Nullable u) (sym c.get.ensures) in
    saturated-more _ _ 1 _ _ c.saturating_add.ensures c.default_size.ensures (default_Nullable c.args.ty.now inner is)

pub returns-in-Array : goal.returns-in-Array
returns-in-Array t c = saturated-small 8 _ (omega arith) (default_Array c.args.ty.now c.in-Array.field-0 c.in-Array.is)

pub returns-in-State : goal.returns-in-State
returns-in-State t c =
    c.item_size-in-State.ensures ∙ ap saturated (sym (default_single c.args.ty.now (Ty-F.State c.in-State.agg c.in-State.field-1) (ap out-Ty c.in-State.is ∙ outs-State c.in-State.agg c.in-State.field-1) tt
    (State c.empty_state.result) (ap (λ s. State s) (sym c.empty_state.ensures))))

pub returns-in-CountState : goal.returns-in-CountState
returns-in-CountState t c =
    c.item_size-in-CountState.ensures ∙ ap saturated (sym (default_single c.args.ty.now Ty-F.CountState (ap out-Ty c.in-CountState.is ∙ outs-CountState) tt (State (Count 0)) refl))
