-- Definitions by levels of a type, as equations where the type's variant is known.
use Rattle.std.proofs.Common.{◌≡◌, ℕ, List, ◌++◌, ap, sym, ◌∙◌}
use Rattle.std.specs.Prelude.{codes, nat_le, ◌&&◌, if◌then◌else◌}
use Rattle.std.specs.Fmt.{decimal}
use Rattle.mt_types.specs.declared.limits.TheConstants.{MAX_FIXED_STRING}
use Rattle.mt_types.specs.declared.ty.Width.{Width}
use Rattle.mt_types.specs.declared.ty.Agg.{Agg}
use Rattle.mt_types.specs.declared.ty.Ty.{Ty, map-Ty, out-Ty, roll-Ty}
use Rattle.mt_types.specs.declared.ty.Ty.TheOpen.{Ty-F}
use Rattle.mt_types.specs.declared.ty.Ty.TheViews.{roll-out-Ty}
use Rattle.mt_types.specs.declared.ty.Ty.TheVariants.{UInt, Int, FixedString, Str, Date, Moment, Nullable, Array, State, CountState, outs-UInt, outs-Int, outs-FixedString, outs-Str, outs-Date, outs-Moment, outs-Nullable, outs-Array, outs-State, outs-CountState}
use Rattle.mt_types.specs.declared.ty.Ty.TheFolds.{fold_out-Ty}
use Rattle.mt_types.specs.Names.{type_name, name_step, state_opening, width_text}
use Rattle.mt_types.specs.Profile.{Kind, Whole, Day, Plain, Stored, Unknown, width_kind, kind_of, kind_step, optional_kind, array_kind, state_kind}

-- types of one level are the same
pub same_level : (t u : Ty) → out-Ty t ≡ out-Ty u → t ≡ u
same_level t u e = sym (roll-out-Ty t) ∙ ap roll-Ty e ∙ roll-out-Ty u

-- the name of a type of this level
pub name_at : (t : Ty) (level : Ty-F Ty) → out-Ty t ≡ level → type_name t ≡ name_step (map-Ty Ty (List ℕ) type_name level)
name_at t level is = fold_out-Ty (List ℕ) name_step t ∙ ap (λ l. name_step (map-Ty Ty (List ℕ) type_name l)) is

-- the kind of a type of this level
pub kind_at : (t : Ty) (level : Ty-F Ty) → out-Ty t ≡ level → kind_of t ≡ kind_step (map-Ty Ty Kind kind_of level)
kind_at t level is = fold_out-Ty Kind kind_step t ∙ ap (λ l. kind_step (map-Ty Ty Kind kind_of l)) is

-- the name of each variant
pub name-UInt : (w : Width) → type_name (UInt w) ≡ codes "UInt" ++ width_text w
name-UInt w = name_at (UInt w) (Ty-F.UInt w) (outs-UInt w)

pub name-Int : (w : Width) → type_name (Int w) ≡ codes "Int" ++ width_text w
name-Int w = name_at (Int w) (Ty-F.Int w) (outs-Int w)

pub name-FixedString : (n : ℕ) → type_name (FixedString n) ≡ codes "FixedString(" ++ decimal n ++ codes ")"
name-FixedString n = name_at (FixedString n) (Ty-F.FixedString n) (outs-FixedString n)

pub name-Str : type_name Str ≡ codes "String"
name-Str = name_at Str Ty-F.Str outs-Str

pub name-Date : type_name Date ≡ codes "Date"
name-Date = name_at Date Ty-F.Date outs-Date

pub name-Moment : type_name Moment ≡ codes "DateTime('UTC')"
name-Moment = name_at Moment Ty-F.Moment outs-Moment

pub name-CountState : type_name CountState ≡ codes "AggregateFunction(count)"
name-CountState = name_at CountState Ty-F.CountState outs-CountState

pub name-Nullable : (t : Ty) → type_name (Nullable t) ≡ codes "Nullable(" ++ type_name t ++ codes ")"
name-Nullable t = name_at (Nullable t) (Ty-F.Nullable t) (outs-Nullable t)

pub name-Array : (t : Ty) → type_name (Array t) ≡ codes "Array(" ++ type_name t ++ codes ")"
name-Array t = name_at (Array t) (Ty-F.Array t) (outs-Array t)

pub name-State : (agg : Agg) (t : Ty) → type_name (State agg t) ≡ state_opening agg ++ type_name t ++ codes ")"
name-State agg t = name_at (State agg t) (Ty-F.State agg t) (outs-State agg t)

-- the kind of each variant
pub kind-UInt : (w : Width) → kind_of (UInt w) ≡ width_kind w
kind-UInt w = kind_at (UInt w) (Ty-F.UInt w) (outs-UInt w)

pub kind-Int : (w : Width) → kind_of (Int w) ≡ width_kind w
kind-Int w = kind_at (Int w) (Ty-F.Int w) (outs-Int w)

pub kind-FixedString : (n : ℕ) → kind_of (FixedString n) ≡ (if nat_le 1 n && nat_le n MAX_FIXED_STRING then Plain else Unknown)
kind-FixedString n = kind_at (FixedString n) (Ty-F.FixedString n) (outs-FixedString n)

pub kind-Str : kind_of Str ≡ Plain
kind-Str = kind_at Str Ty-F.Str outs-Str

pub kind-Date : kind_of Date ≡ Day
kind-Date = kind_at Date Ty-F.Date outs-Date

pub kind-Moment : kind_of Moment ≡ Plain
kind-Moment = kind_at Moment Ty-F.Moment outs-Moment

pub kind-CountState : kind_of CountState ≡ Stored
kind-CountState = kind_at CountState Ty-F.CountState outs-CountState

pub kind-Nullable : (t : Ty) → kind_of (Nullable t) ≡ optional_kind (kind_of t)
kind-Nullable t = kind_at (Nullable t) (Ty-F.Nullable t) (outs-Nullable t)

pub kind-Array : (t : Ty) → kind_of (Array t) ≡ array_kind (kind_of t)
kind-Array t = kind_at (Array t) (Ty-F.Array t) (outs-Array t)

pub kind-State : (agg : Agg) (t : Ty) → kind_of (State agg t) ≡ state_kind agg (kind_of t)
kind-State agg t = kind_at (State agg t) (Ty-F.State agg t) (outs-State agg t)
