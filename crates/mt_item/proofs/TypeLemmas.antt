-- Which types have items, and which are those of aggregates.
use Rattle.std.proofs.Common.{◌≡◌, ◌⊎◌, inl, inr, true, refl, ap, sym, ◌∙◌}
use Rattle.mt_types.specs.declared.ty.Agg.{Agg}
use Rattle.mt_types.specs.declared.ty.Agg.TheVariants.{Sum, Min, Max}
use Rattle.mt_types.specs.declared.ty.Width.{Width}
use Rattle.mt_types.specs.declared.ty.Width.TheVariants.{W8, W16, W32, W64, W128}
use Rattle.mt_types.specs.declared.ty.Ty.{Ty, out-Ty}
use Rattle.mt_types.specs.declared.ty.Ty.TheOpen.{Ty-F}
use Rattle.mt_types.specs.declared.ty.Ty.TheVariants.{State, outs-State}
use Rattle.mt_types.specs.Numbers.{is_argument_at, is_argument_type, is_narrow}
use Rattle.mt_types.specs.Profile.{Kind, Whole, Day, width_kind, kind_of, state_kind, is_known, is_profile}
use Rattle.mt_types.proofs.KindLemmas.{IsNumber, known}
use Rattle.mt_types.proofs.Levels.{kind_at, kind-State}
use Rattle.mt_types.proofs.NumberLemmas.{argument_known}
use Rattle.mt_table.specs.ColumnTypes.{is_integer_at, is_integer_type}
use Rattle.mt_item.specs.ItemTypes.{has_items, has_items_at, is_scalar, is_scalar_at}

-- the arguments of states are of numbers
number_kind : (agg : Agg) (k : Kind) → is_known (state_kind agg k) ≡ true → IsNumber k
number_kind agg Whole e = tt
number_kind Min Day e = tt
number_kind Max Day e = tt
number_kind Sum Day e = cc
number_kind Sum _ e = cc
number_kind Min _ e = cc
number_kind Max _ e = cc

-- a state that has items is of the profile
pub state_profile : (t : Ty) (agg : Agg) (u : Ty) → t ≡ State agg u → has_items t ≡ true → is_profile t ≡ true
state_profile t agg u is items = sym (ap (has_items_at t) (ap out-Ty is ∙ outs-State agg u)) ∙ items

-- and its argument is one that min and max are over
pub state_argument : (t : Ty) (agg : Agg) (u : Ty) → t ≡ State agg u → has_items t ≡ true → is_argument_type u ≡ true
state_argument t agg u is items =
    argument_known u (known u) (number_kind agg (kind_of u) (ap is_known (sym (kind-State agg u)) ∙ ap is_profile (sym is) ∙ state_profile t agg u is items))

-- scalars have items
scalar_level : (t : Ty) (level : Ty-F Ty) → is_scalar_at level ≡ true → has_items_at t level ≡ true
scalar_level t (Ty-F.UInt w) e = refl
scalar_level t (Ty-F.Int w) e = refl
scalar_level t (Ty-F.FixedString n) e = refl
scalar_level t Ty-F.Str e = refl
scalar_level t Ty-F.Date e = refl
scalar_level t Ty-F.Moment e = refl
scalar_level t (Ty-F.Nullable u) e = cc
scalar_level t (Ty-F.Array u) e = cc
scalar_level t (Ty-F.State agg u) e = cc
scalar_level t Ty-F.CountState e = cc

pub scalar_has_items : (t : Ty) → is_scalar t ≡ true → has_items t ≡ true
scalar_has_items t e = scalar_level t (out-Ty t) e

-- ---- the types that aggregates are over

narrow_kind : (w : Width) → is_narrow w ≡ true → width_kind w ≡ Whole
narrow_kind W8 e = refl
narrow_kind W16 e = refl
narrow_kind W32 e = refl
narrow_kind W64 e = refl
narrow_kind W128 e = cc

integer_level : (t : Ty) (level : Ty-F Ty) → out-Ty t ≡ level → is_integer_at level ≡ true → kind_of t ≡ Whole
integer_level t (Ty-F.UInt w) is e = kind_at t (Ty-F.UInt w) is ∙ narrow_kind w e
integer_level t (Ty-F.Int w) is e = kind_at t (Ty-F.Int w) is ∙ narrow_kind w e
integer_level t _ is e = cc

-- those of sum
pub integer_kind : (t : Ty) → is_integer_type t ≡ true → kind_of t ≡ Whole
integer_kind t e = integer_level t (out-Ty t) refl e

argument_level : (t : Ty) (level : Ty-F Ty) → out-Ty t ≡ level → is_argument_at level ≡ true → (kind_of t ≡ Whole) ⊎ (kind_of t ≡ Day)
argument_level t (Ty-F.UInt w) is e = inl (kind_at t (Ty-F.UInt w) is ∙ narrow_kind w e)
argument_level t (Ty-F.Int w) is e = inl (kind_at t (Ty-F.Int w) is ∙ narrow_kind w e)
argument_level t Ty-F.Date is e = inr (kind_at t Ty-F.Date is)
argument_level t _ is e = cc

-- those of min and max
pub argument_kind : (t : Ty) → is_argument_type t ≡ true → (kind_of t ≡ Whole) ⊎ (kind_of t ≡ Day)
argument_kind t e = argument_level t (out-Ty t) refl e
