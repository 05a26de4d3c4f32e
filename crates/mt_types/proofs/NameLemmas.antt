-- The name of a type of the profile is read as that type.
use Rattle.std.proofs.Common.{◌≡◌, ℕ, zero, suc, ◌≤◌, true, false, List, ◌++◌, Option, Some, refl, ap, sym, ◌∙◌, arith, subst}
use Rattle.std.specs.Prelude.{codes, option_map}
use Rattle.std.specs.Fmt.{decimal}
use Rattle.mt_types.specs.declared.limits.TheConstants.{MAX_FIXED_STRING}
use Rattle.mt_types.specs.declared.ty.Width.{Width}
use Rattle.mt_types.specs.declared.ty.Width.TheVariants.{W8, W16, W32, W64, W128}
use Rattle.mt_types.specs.declared.ty.Agg.{Agg}
use Rattle.mt_types.specs.declared.ty.Agg.TheVariants.{Sum, Min, Max}
use Rattle.mt_types.specs.declared.ty.Ty.{Ty}
use Rattle.mt_types.specs.declared.ty.Ty.TheVariants.{UInt, Int, FixedString, Str, Date, Moment, Nullable, Array, State, CountState}
use Rattle.mt_types.specs.Names.{type_name, state_opening, width_text}
use Rattle.mt_types.specs.NameReading.{integer_named, number_named, scalar_named, optional_named, nested_named, type_named, size_named, within}
use Rattle.mt_types.specs.Profile.{Stored, width_kind, kind_of, is_profile, is_known, state_kind}
use Rattle.mt_types.proofs.OptionLemmas.{some_is}
use Rattle.mt_types.proofs.Levels.{name-UInt, name-Int, name-FixedString, name-Str, name-Date, name-Moment, name-Nullable, name-Array, name-State, name-CountState}
use Rattle.mt_types.proofs.KindLemmas.{Known, unsigned, signed, day, moment, text, fixed, optional, nested, stored, counted, outside, known, IsWhole, IsNumber, IsScalar, Nests, array_depth, sum_argument, least_argument, greatest_argument}
use Rattle.mt_types.proofs.SizeLemmas.{size_of_decimal}
use Rattle.mt_types.proofs.TextLemmas.{between_of}

-- a reading of a type's name
abbrev Reads : (List ℕ → Option Ty) → Ty → Type 0
Reads reading t = reading (type_name t) ≡ Some t

-- where the type is another one's, whose name is known
reads_as : (reading : List ℕ → Option Ty) (t u : Ty) (name : List ℕ) → t ≡ u → type_name u ≡ name → reading name ≡ Some u → Reads reading t
reads_as reading t u name same is read = ap (λ v. reading (type_name v)) same ∙ ap reading is ∙ read ∙ ap Some (sym same)

-- ---- integers and dates

-- names without a sign
unsigned_read : (w : Width) → IsWhole (width_kind w) → integer_named (codes "UInt" ++ width_text w) ≡ Some (UInt w)
unsigned_read W8 h = refl
unsigned_read W16 h = refl
unsigned_read W32 h = refl
unsigned_read W64 h = refl
unsigned_read W128 h = absurd h

-- names with one
signed_read : (w : Width) → IsWhole (width_kind w) → integer_named (codes "Int" ++ width_text w) ≡ Some (Int w)
signed_read W8 h = refl
signed_read W16 h = refl
signed_read W32 h = refl
signed_read W64 h = refl
signed_read W128 h = absurd h

-- each integer
integer_at : (t : Ty) → Known t → IsWhole (kind_of t) → Reads integer_named t
integer_at t (unsigned w is k) h = reads_as integer_named t (UInt w) (codes "UInt" ++ width_text w) is (name-UInt w) (unsigned_read w (subst IsWhole k h))
integer_at t (signed w is k) h = reads_as integer_named t (Int w) (codes "Int" ++ width_text w) is (name-Int w) (signed_read w (subst IsWhole k h))
integer_at t (day is k) h = absurd (subst IsWhole k h)
integer_at t (moment is k) h = absurd (subst IsWhole k h)
integer_at t (text is k) h = absurd (subst IsWhole k h)
integer_at t (fixed n is some small k) h = absurd (subst IsWhole k h)
integer_at t (optional inner is i k) h = absurd (subst IsWhole k h)
integer_at t (nested inner depth is i k) h = absurd (subst IsWhole k h)
integer_at t (stored agg inner is i k) h = absurd (subst IsWhole k h)
integer_at t (counted is k) h = absurd (subst IsWhole k h)
integer_at t (outside k) h = absurd (subst IsWhole k h)

-- an integer that min and max take, sum takes too
whole_width : (w : Width) → IsNumber (width_kind w) → IsWhole (width_kind w)
whole_width W8 h = tt
whole_width W16 h = tt
whole_width W32 h = tt
whole_width W64 h = tt
whole_width W128 h = absurd h

-- each number
number_at : (t : Ty) → Known t → IsNumber (kind_of t) → Reads number_named t
number_at t (unsigned w is k) h = reads_as number_named t (UInt w) (codes "UInt" ++ width_text w) is (name-UInt w) (unsigned_read w (whole_width w (subst IsNumber k h)))
number_at t (signed w is k) h = reads_as number_named t (Int w) (codes "Int" ++ width_text w) is (name-Int w) (signed_read w (whole_width w (subst IsNumber k h)))
number_at t (day is k) h = reads_as number_named t Date (codes "Date") is name-Date refl
number_at t (moment is k) h = absurd (subst IsNumber k h)
number_at t (text is k) h = absurd (subst IsNumber k h)
number_at t (fixed n is some within k) h = absurd (subst IsNumber k h)
number_at t (optional inner is i k) h = absurd (subst IsNumber k h)
number_at t (nested inner depth is i k) h = absurd (subst IsNumber k h)
number_at t (stored agg inner is i k) h = absurd (subst IsNumber k h)
number_at t (counted is k) h = absurd (subst IsNumber k h)
number_at t (outside k) h = absurd (subst IsNumber k h)

-- ---- the other scalars

-- integers of any width
scalar_unsigned : (w : Width) → scalar_named (codes "UInt" ++ width_text w) ≡ Some (UInt w)
scalar_unsigned W8 = refl
scalar_unsigned W16 = refl
scalar_unsigned W32 = refl
scalar_unsigned W64 = refl
scalar_unsigned W128 = refl

scalar_signed : (w : Width) → scalar_named (codes "Int" ++ width_text w) ≡ Some (Int w)
scalar_signed W8 = refl
scalar_signed W16 = refl
scalar_signed W32 = refl
scalar_signed W64 = refl
scalar_signed W128 = refl

-- FixedString
fixed_read : (n : ℕ) → 1 ≤ n → n ≤ MAX_FIXED_STRING → scalar_named (codes "FixedString(" ++ decimal n ++ codes ")") ≡ Some (FixedString n)
fixed_read n some small =
    ap (within FixedString size_named (number_named (codes "FixedString(" ++ decimal n ++ codes ")"))) (between_of (codes "FixedString(") (codes "FixedString(" ++ decimal n ++ codes ")") (decimal n) refl)
    ∙ ap (option_map FixedString) (size_of_decimal n some small)

-- each scalar
scalar_at : (t : Ty) → Known t → IsScalar (kind_of t) → Reads scalar_named t
scalar_at t (unsigned w is k) h = reads_as scalar_named t (UInt w) (codes "UInt" ++ width_text w) is (name-UInt w) (scalar_unsigned w)
scalar_at t (signed w is k) h = reads_as scalar_named t (Int w) (codes "Int" ++ width_text w) is (name-Int w) (scalar_signed w)
scalar_at t (day is k) h = reads_as scalar_named t Date (codes "Date") is name-Date refl
scalar_at t (moment is k) h = reads_as scalar_named t Moment (codes "DateTime('UTC')") is name-Moment refl
scalar_at t (text is k) h = reads_as scalar_named t Str (codes "String") is name-Str refl
scalar_at t (fixed n is some small k) h = reads_as scalar_named t (FixedString n) (codes "FixedString(" ++ decimal n ++ codes ")") is (name-FixedString n) (fixed_read n some small)
scalar_at t (optional inner is i k) h = absurd (subst IsScalar k h)
scalar_at t (nested inner depth is i k) h = absurd (subst IsScalar k h)
scalar_at t (stored agg inner is i k) h = absurd (subst IsScalar k h)
scalar_at t (counted is k) h = absurd (subst IsScalar k h)
scalar_at t (outside k) h = absurd (subst IsScalar k h)

-- ---- Nullable

-- Nullable of a scalar
optional_read : (inner : Ty) → IsScalar (kind_of inner) → optional_named (codes "Nullable(" ++ type_name inner ++ codes ")") ≡ Some (Nullable inner)
optional_read inner h =
    ap (within Nullable scalar_named (scalar_named (codes "Nullable(" ++ type_name inner ++ codes ")"))) (between_of (codes "Nullable(") (codes "Nullable(" ++ type_name inner ++ codes ")") (type_name inner) refl)
    ∙ ap (option_map Nullable) (scalar_at inner (known inner) h)

-- each type without arrays
optional_at : (t : Ty) → Known t → Nests 0 (kind_of t) → Reads optional_named t
optional_at t (unsigned w is k) h = reads_as optional_named t (UInt w) (codes "UInt" ++ width_text w) is (name-UInt w) (scalar_unsigned w)
optional_at t (signed w is k) h = reads_as optional_named t (Int w) (codes "Int" ++ width_text w) is (name-Int w) (scalar_signed w)
optional_at t (day is k) h = reads_as optional_named t Date (codes "Date") is name-Date refl
optional_at t (moment is k) h = reads_as optional_named t Moment (codes "DateTime('UTC')") is name-Moment refl
optional_at t (text is k) h = reads_as optional_named t Str (codes "String") is name-Str refl
optional_at t (fixed n is some small k) h = reads_as optional_named t (FixedString n) (codes "FixedString(" ++ decimal n ++ codes ")") is (name-FixedString n) (fixed_read n some small)
optional_at t (optional inner is i k) h = reads_as optional_named t (Nullable inner) (codes "Nullable(" ++ type_name inner ++ codes ")") is (name-Nullable inner) (optional_read inner i)
optional_at t (nested inner depth is i k) h =
    let within : depth ≤ 0 = subst (Nests 0) k h in
    absurd (omega (arith, (array_depth (kind_of inner) depth i).0))
optional_at t (stored agg inner is i k) h = absurd (subst (Nests 0) k h)
optional_at t (counted is k) h = absurd (subst (Nests 0) k h)
optional_at t (outside k) h = absurd (subst (Nests 0) k h)

-- ---- Array

-- an array inside others
array_read : (arrays : ℕ) (inner : Ty) → Reads (nested_named arrays) inner → nested_named (suc arrays) (codes "Array(" ++ type_name inner ++ codes ")") ≡ Some (Array inner)
array_read arrays inner h =
    ap (within Array (nested_named arrays) (optional_named (codes "Array(" ++ type_name inner ++ codes ")"))) (between_of (codes "Array(") (codes "Array(" ++ type_name inner ++ codes ")") (type_name inner) refl)
    ∙ ap (option_map Array) h

-- each type of so many arrays
nested_at : (arrays : ℕ) (t : Ty) → Known t → Nests arrays (kind_of t) → Reads (nested_named arrays) t
nested_at zero t is h = optional_at t is h
nested_at (suc arrays) t (unsigned w is k) h = reads_as (nested_named (suc arrays)) t (UInt w) (codes "UInt" ++ width_text w) is (name-UInt w) (scalar_unsigned w)
nested_at (suc arrays) t (signed w is k) h = reads_as (nested_named (suc arrays)) t (Int w) (codes "Int" ++ width_text w) is (name-Int w) (scalar_signed w)
nested_at (suc arrays) t (day is k) h = reads_as (nested_named (suc arrays)) t Date (codes "Date") is name-Date refl
nested_at (suc arrays) t (moment is k) h = reads_as (nested_named (suc arrays)) t Moment (codes "DateTime('UTC')") is name-Moment refl
nested_at (suc arrays) t (text is k) h = reads_as (nested_named (suc arrays)) t Str (codes "String") is name-Str refl
nested_at (suc arrays) t (fixed n is some small k) h = reads_as (nested_named (suc arrays)) t (FixedString n) (codes "FixedString(" ++ decimal n ++ codes ")") is (name-FixedString n) (fixed_read n some small)
nested_at (suc arrays) t (optional inner is i k) h = reads_as (nested_named (suc arrays)) t (Nullable inner) (codes "Nullable(" ++ type_name inner ++ codes ")") is (name-Nullable inner) (optional_read inner i)
nested_at (suc arrays) t (nested inner depth is i k) h =
    let within : depth ≤ suc arrays = subst (Nests (suc arrays)) k h in
    let element : Reads (nested_named arrays) inner = nested_at arrays inner (known inner) ((array_depth (kind_of inner) depth i).2 arrays within) in
    reads_as (nested_named (suc arrays)) t (Array inner) (codes "Array(" ++ type_name inner ++ codes ")") is (name-Array inner) (array_read arrays inner element)
nested_at (suc arrays) t (stored agg inner is i k) h = absurd (subst (Nests (suc arrays)) k h)
nested_at (suc arrays) t (counted is k) h = absurd (subst (Nests (suc arrays)) k h)
nested_at (suc arrays) t (outside k) h = absurd (subst (Nests (suc arrays)) k h)

-- ---- states, and all types

-- each state
state_read : (agg : Agg) (inner : Ty) → state_kind agg (kind_of inner) ≡ Stored → type_named (state_opening agg ++ type_name inner ++ codes ")") ≡ Some (State agg inner)
state_read Sum inner h =
    ap (within (State Sum) integer_named _) (between_of (state_opening Sum) (state_opening Sum ++ type_name inner ++ codes ")") (type_name inner) refl)
    ∙ ap (option_map (State Sum)) (integer_at inner (known inner) (sum_argument (kind_of inner) h))
state_read Min inner h =
    ap (within (State Min) number_named _) (between_of (state_opening Min) (state_opening Min ++ type_name inner ++ codes ")") (type_name inner) refl)
    ∙ ap (option_map (State Min)) (number_at inner (known inner) (least_argument (kind_of inner) h))
state_read Max inner h =
    ap (within (State Max) number_named _) (between_of (state_opening Max) (state_opening Max ++ type_name inner ++ codes ")") (type_name inner) refl)
    ∙ ap (option_map (State Max)) (number_at inner (known inner) (greatest_argument (kind_of inner) h))

-- each type
type_at : (t : Ty) → Known t → is_known (kind_of t) ≡ true → Reads type_named t
type_at t (unsigned w is k) h = reads_as type_named t (UInt w) (codes "UInt" ++ width_text w) is (name-UInt w) (scalar_unsigned w)
type_at t (signed w is k) h = reads_as type_named t (Int w) (codes "Int" ++ width_text w) is (name-Int w) (scalar_signed w)
type_at t (day is k) h = reads_as type_named t Date (codes "Date") is name-Date refl
type_at t (moment is k) h = reads_as type_named t Moment (codes "DateTime('UTC')") is name-Moment refl
type_at t (text is k) h = reads_as type_named t Str (codes "String") is name-Str refl
type_at t (fixed n is some small k) h = reads_as type_named t (FixedString n) (codes "FixedString(" ++ decimal n ++ codes ")") is (name-FixedString n) (fixed_read n some small)
type_at t (optional inner is i k) h = reads_as type_named t (Nullable inner) (codes "Nullable(" ++ type_name inner ++ codes ")") is (name-Nullable inner) (optional_read inner i)
type_at t (nested inner depth is i k) h =
    let deep = array_depth (kind_of inner) depth i in
    let element : Reads (nested_named 2) inner = nested_at 2 inner (known inner) (deep.2 2 deep.1) in
    reads_as type_named t (Array inner) (codes "Array(" ++ type_name inner ++ codes ")") is (name-Array inner) (array_read 2 inner element)
type_at t (stored agg inner is i k) h = reads_as type_named t (State agg inner) (state_opening agg ++ type_name inner ++ codes ")") is (name-State agg inner) (state_read agg inner i)
type_at t (counted is k) h = reads_as type_named t CountState (codes "AggregateFunction(count)") is name-CountState refl
type_at t (outside k) h = let never : true ≡ false = sym h ∙ ap is_known k in cc

-- the law
pub type_named_of_name : (t : Ty) → is_profile t ≡ true → type_named (type_name t) ≡ Some t
type_named_of_name t h = type_at t (known t) h

-- so names differ
pub type_name_injective : (s t : Ty) → is_profile s ≡ true → is_profile t ≡ true → type_name s ≡ type_name t → s ≡ t
type_name_injective s t in_s in_t e = some_is s t (sym (type_named_of_name s in_s) ∙ ap type_named e ∙ type_named_of_name t in_t)
