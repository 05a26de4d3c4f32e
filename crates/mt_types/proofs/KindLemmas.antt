-- The types of each kind.
use Rattle.std.proofs.Common.{◌≡◌, ℕ, suc, ◌+◌, ◌<◌, ◌≤◌, arith, Bool, true, false, refl, sym, ◌∙◌, subst}
use Rattle.std.specs.Prelude.{nat_le, nat_lt, ◌&&◌, if◌then◌else◌}
use Rattle.std.proofs.lemmas.Bool.{leb-true, ltb-true}
use Rattle.mt_types.specs.declared.limits.TheConstants.{MAX_FIXED_STRING, MAX_ARRAY_DEPTH}
use Rattle.mt_types.specs.declared.ty.Width.{Width}
use Rattle.mt_types.specs.declared.ty.Agg.{Agg}
use Rattle.mt_types.specs.declared.ty.Agg.TheVariants.{Sum, Min, Max}
use Rattle.mt_types.specs.declared.ty.Ty.{Ty, out-Ty}
use Rattle.mt_types.specs.declared.ty.Ty.TheOpen.{Ty-F}
use Rattle.mt_types.specs.declared.ty.Ty.TheVariants.{UInt, Int, FixedString, Str, Date, Moment, Nullable, Array, State, CountState, outs-UInt, outs-Int, outs-FixedString, outs-Str, outs-Date, outs-Moment, outs-Nullable, outs-Array, outs-State, outs-CountState}
use Rattle.mt_types.specs.Profile.{Kind, Whole, Day, Plain, Optional, Nested, Stored, Unknown, width_kind, kind_of, optional_kind, array_kind, state_kind}
use Rattle.mt_types.proofs.OptionLemmas.{both_true}
use Rattle.mt_types.proofs.Levels.{same_level, kind_at}

-- what sum takes
abbrev pub IsWhole : Kind → Type 0
IsWhole Whole = Unit {0}
IsWhole _ = ⊥

-- what min and max take
abbrev pub IsNumber : Kind → Type 0
IsNumber Whole = Unit {0}
IsNumber Day = Unit {0}
IsNumber _ = ⊥

-- what Nullable takes
abbrev pub IsScalar : Kind → Type 0
IsScalar Whole = Unit {0}
IsScalar Day = Unit {0}
IsScalar Plain = Unit {0}
IsScalar _ = ⊥

-- what has at most so many arrays and is no state
abbrev pub Nests : (arrays : ℕ) → Kind → Type 0
Nests arrays (Nested depth) = depth ≤ arrays
Nests arrays Stored = ⊥
Nests arrays Unknown = ⊥
Nests arrays _ = Unit {0}

-- a type and its kind
pub data Known (t : Ty) : Type 0 where
  unsigned : (w : Width) → t ≡ UInt w → kind_of t ≡ width_kind w → Known t
  signed : (w : Width) → t ≡ Int w → kind_of t ≡ width_kind w → Known t
  day : t ≡ Date → kind_of t ≡ Day → Known t
  moment : t ≡ Moment → kind_of t ≡ Plain → Known t
  text : t ≡ Str → kind_of t ≡ Plain → Known t
  fixed : (n : ℕ) → t ≡ FixedString n → 1 ≤ n → n ≤ MAX_FIXED_STRING → kind_of t ≡ Plain → Known t
  optional : (inner : Ty) → t ≡ Nullable inner → IsScalar (kind_of inner) → kind_of t ≡ Optional → Known t
  nested : (inner : Ty) (depth : ℕ) → t ≡ Array inner → array_kind (kind_of inner) ≡ Nested depth → kind_of t ≡ Nested depth → Known t
  stored : (agg : Agg) (inner : Ty) → t ≡ State agg inner → state_kind agg (kind_of inner) ≡ Stored → kind_of t ≡ Stored → Known t
  counted : t ≡ CountState → kind_of t ≡ Stored → Known t
  outside : kind_of t ≡ Unknown → Known t

-- a FixedString of a size within the limit
fixed_known : (t : Ty) (n : ℕ) (test : Bool) → (nat_le 1 n && nat_le n MAX_FIXED_STRING) ≡ test → t ≡ FixedString n → kind_of t ≡ (if test then Plain else Unknown) → Known t
fixed_known t n true e is k =
    let both = both_true (nat_le 1 n) (nat_le n MAX_FIXED_STRING) e in
    fixed n is (leb-true 1 n both.0) (leb-true n MAX_FIXED_STRING both.1) k
fixed_known t n false e is k = outside k

-- Nullable, by its argument
optional_known : (t inner : Ty) (k : Kind) → kind_of inner ≡ k → t ≡ Nullable inner → kind_of t ≡ optional_kind k → Known t
optional_known t inner Whole e is k = optional inner is (subst IsScalar (sym e) tt) k
optional_known t inner Day e is k = optional inner is (subst IsScalar (sym e) tt) k
optional_known t inner Plain e is k = optional inner is (subst IsScalar (sym e) tt) k
optional_known t inner _ e is k = outside k

-- Array and the states give no other kind than their own
abbrev IsArrayed : Kind → Type 0
IsArrayed (Nested depth) = ℕ
IsArrayed Unknown = ℕ
IsArrayed _ = ⊥

-- and the states no other than theirs
abbrev IsState : Kind → Type 0
IsState Stored = ℕ
IsState Unknown = ℕ
IsState _ = ⊥

-- an array of an array
deeper_arrayed : (test : Bool) (depth : ℕ) → IsArrayed (if test then Nested depth else Unknown)
deeper_arrayed true depth = 0
deeper_arrayed false depth = 0

-- what Array gives
arrayed : (k : Kind) → IsArrayed (array_kind k)
arrayed Whole = 0
arrayed Day = 0
arrayed Plain = 0
arrayed Optional = 0
arrayed (Nested depth) = deeper_arrayed (nat_lt depth MAX_ARRAY_DEPTH) (depth + 1)
arrayed Stored = 0
arrayed Unknown = 0

-- what a state gives
is_state : (agg : Agg) (k : Kind) → IsState (state_kind agg k)
is_state Sum Whole = 0
is_state Min Whole = 0
is_state Max Whole = 0
is_state Sum Day = 0
is_state Min Day = 0
is_state Max Day = 0
is_state Sum _ = 0
is_state Min _ = 0
is_state Max _ = 0

-- Array, by its kind
nested_known : (t inner : Ty) (k : Kind) → IsArrayed k → array_kind (kind_of inner) ≡ k → t ≡ Array inner → kind_of t ≡ k → Known t
nested_known t inner (Nested depth) own e is k = nested inner depth is e k
nested_known t inner Unknown own e is k = outside k
nested_known t inner _ own e is k = absurd own

-- a state, by its kind
stored_known : (t inner : Ty) (agg : Agg) (k : Kind) → IsState k → state_kind agg (kind_of inner) ≡ k → t ≡ State agg inner → kind_of t ≡ k → Known t
stored_known t inner agg Stored own e is k = stored agg inner is e k
stored_known t inner agg Unknown own e is k = outside k
stored_known t inner agg _ own e is k = absurd own

-- each variant
known_at : (t : Ty) (level : Ty-F Ty) → out-Ty t ≡ level → Known t
known_at t (Ty-F.UInt w) is = unsigned w (same_level t (UInt w) (is ∙ sym (outs-UInt w))) (kind_at t (Ty-F.UInt w) is)
known_at t (Ty-F.Int w) is = signed w (same_level t (Int w) (is ∙ sym (outs-Int w))) (kind_at t (Ty-F.Int w) is)
known_at t (Ty-F.FixedString n) is = fixed_known t n (nat_le 1 n && nat_le n MAX_FIXED_STRING) refl (same_level t (FixedString n) (is ∙ sym (outs-FixedString n))) (kind_at t (Ty-F.FixedString n) is)
known_at t Ty-F.Str is = text (same_level t Str (is ∙ sym outs-Str)) (kind_at t Ty-F.Str is)
known_at t Ty-F.Date is = day (same_level t Date (is ∙ sym outs-Date)) (kind_at t Ty-F.Date is)
known_at t Ty-F.Moment is = moment (same_level t Moment (is ∙ sym outs-Moment)) (kind_at t Ty-F.Moment is)
known_at t (Ty-F.Nullable inner) is = optional_known t inner (kind_of inner) refl (same_level t (Nullable inner) (is ∙ sym (outs-Nullable inner))) (kind_at t (Ty-F.Nullable inner) is)
known_at t (Ty-F.Array inner) is = nested_known t inner (array_kind (kind_of inner)) (arrayed (kind_of inner)) refl (same_level t (Array inner) (is ∙ sym (outs-Array inner))) (kind_at t (Ty-F.Array inner) is)
known_at t (Ty-F.State agg inner) is = stored_known t inner agg (state_kind agg (kind_of inner)) (is_state agg (kind_of inner)) refl (same_level t (State agg inner) (is ∙ sym (outs-State agg inner))) (kind_at t (Ty-F.State agg inner) is)
known_at t Ty-F.CountState is = counted (same_level t CountState (is ∙ sym outs-CountState)) (kind_at t Ty-F.CountState is)

-- each type
pub known : (t : Ty) → Known t
known t = known_at t (out-Ty t) refl

-- ---- arrays and states by their arguments

-- one array more, where there may be one
deeper_is : (d depth : ℕ) (test : Bool) → nat_lt d MAX_ARRAY_DEPTH ≡ test → (if test then Nested (d + 1) else Unknown) ≡ Nested depth → (depth ≡ d + 1) × (depth ≤ MAX_ARRAY_DEPTH)
deeper_is d depth true e is = let same : d + 1 ≡ depth = cc in let below : d < MAX_ARRAY_DEPTH = ltb-true d MAX_ARRAY_DEPTH e in (sym same, omega arith)
deeper_is d depth false e is = cc

-- an array has one level more than its element, and no more than there may be
pub array_depth : (k : Kind) (depth : ℕ) → array_kind k ≡ Nested depth → (1 ≤ depth) × (depth ≤ MAX_ARRAY_DEPTH) × ((arrays : ℕ) → depth ≤ suc arrays → Nests arrays k)
array_depth Whole depth e = let one : 1 ≡ depth = cc in (omega arith, omega arith, λ arrays h. tt)
array_depth Day depth e = let one : 1 ≡ depth = cc in (omega arith, omega arith, λ arrays h. tt)
array_depth Plain depth e = let one : 1 ≡ depth = cc in (omega arith, omega arith, λ arrays h. tt)
array_depth Optional depth e = let one : 1 ≡ depth = cc in (omega arith, omega arith, λ arrays h. tt)
array_depth (Nested d) depth e = let is = deeper_is d depth (nat_lt d MAX_ARRAY_DEPTH) refl e in (omega (arith, is.0), is.1, λ arrays h. omega (arith, is.0, h))
array_depth Stored depth e = cc
array_depth Unknown depth e = cc

-- the arguments of states
pub sum_argument : (k : Kind) → state_kind Sum k ≡ Stored → IsWhole k
sum_argument Whole e = tt
sum_argument _ e = cc

-- of min
pub least_argument : (k : Kind) → state_kind Min k ≡ Stored → IsNumber k
least_argument Whole e = tt
least_argument Day e = tt
least_argument _ e = cc

-- of max
pub greatest_argument : (k : Kind) → state_kind Max k ≡ Stored → IsNumber k
greatest_argument Whole e = tt
greatest_argument Day e = tt
greatest_argument _ e = cc
