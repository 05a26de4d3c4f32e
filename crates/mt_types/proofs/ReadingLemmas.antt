-- What is read of a text is a type of the profile that has this name.
use Rattle.std.proofs.Common.{◌≡◌, ◌≢◌, ◌⊎◌, inl, inr, ℕ, zero, suc, ◌+◌, ◌≤◌, ◌<◌, true, List, ◌++◌, Option, Some, None, Result, Ok, Err, refl, ap, sym, ◌∙◌, arith, subst, lit≤}
use Rattle.std.specs.Prelude.{IfOk, codes, nat_lt, if◌then◌else◌}
use Rattle.std.specs.Str.{bytes_eq}
use Rattle.std.specs.Fmt.{decimal}
use Rattle.std.proofs.lemmas.Bool.{lt-ltb, le-leb}
use Rattle.std.proofs.lemmas.Slice.Eq.{bytes_eq-Decides}
use Rattle.mt_types.specs.declared.limits.TheConstants.{MAX_FIXED_STRING, MAX_ARRAY_DEPTH}
use Rattle.mt_types.specs.declared.ty.Width.{Width}
use Rattle.mt_types.specs.declared.ty.Width.TheVariants.{W8, W16, W32, W64, W128}
use Rattle.mt_types.specs.declared.ty.Agg.TheVariants.{Sum, Min, Max}
use Rattle.mt_types.specs.declared.ty.Ty.{Ty}
use Rattle.mt_types.specs.declared.ty.Ty.TheVariants.{UInt, Int, FixedString, Str, Date, Moment, Nullable, Array, State, CountState}
use Rattle.mt_types.specs.declared.ty.error.TyError.{TyError}
use Rattle.mt_types.specs.declared.ty.error.TyError.TheVariants.{NotAType, NoMemory}
use Rattle.mt_types.specs.Names.{type_name, state_opening, width_text}
use Rattle.mt_types.specs.NameReading.{GivesType, after_prefix, between, width_named, integer_named, number_named, scalar_named, sized_named, optional_named, nested_named, type_named, size_named, within, state_named}
use Rattle.mt_types.specs.Profile.{Kind, Whole, Day, Plain, Optional, Nested, Stored, Unknown, width_kind, kind_of, is_profile, is_known, optional_kind, array_kind, state_kind}
use Rattle.mt_types.proofs.OptionLemmas.{chosen_is, mapped_is}
use Rattle.mt_types.proofs.Levels.{name-UInt, name-Int, name-FixedString, name-Str, name-Date, name-Moment, name-Nullable, name-Array, name-State, name-CountState, kind-UInt, kind-Int, kind-FixedString, kind-Str, kind-Date, kind-Moment, kind-Nullable, kind-Array, kind-State, kind-CountState}
use Rattle.mt_types.proofs.KindLemmas.{IsWhole, IsNumber, IsScalar, Nests}
use Rattle.mt_types.proofs.NameLemmas.{type_named_of_name}
use Rattle.mt_types.proofs.SizeLemmas.{size_is}
use Rattle.mt_types.proofs.TextLemmas.{after_prefix_is, between_is}

-- ---- taking readings apart

-- a text is the word, or it is read otherwise
word_is : {X : Type 0} (text word : List ℕ) (u : X) (rest : Option X) (t : X) → (if bytes_eq text word then Some u else rest) ≡ Some t → ((text ≡ word) × (t ≡ u)) ⊎ (rest ≡ Some t)
word_is text word u rest t e =
    elim (chosen_is (bytes_eq text word) u rest t e) [
      | inl same ↦ inl ((bytes_eq-Decides text word).0 same.0, same.1)
      | inr other ↦ inr other
    ]

-- there is an inner text, or the text is read otherwise
within_is : {X : Type 0} (make : X → Ty) (read : List ℕ → Option X) (otherwise : Option Ty) (o : Option (List ℕ)) (t : Ty) → within make read otherwise o ≡ Some t
    → ((s : List ℕ) × (x : X) × (o ≡ Some s) × (read s ≡ Some x) × (t ≡ make x)) ⊎ (otherwise ≡ Some t)
within_is make read otherwise None t e = inr e
within_is make read otherwise (Some s) t e = let one = mapped_is make (read s) t e in inl (s, one.0, refl, one.1, one.2)

-- a type of such a kind that has the name
record Named (K : Kind → Type 0) (t : Ty) (text : List ℕ) : Type 0 where
  pub kind : K (kind_of t)
  pub name : type_name t ≡ text

-- the same type, with its name and its kind
named_as : (K : Kind → Type 0) (t u : Ty) (text name : List ℕ) (k : Kind) → t ≡ u → type_name u ≡ name → text ≡ name → kind_of u ≡ k → K k → Named K t text
named_as K t u text name k same is text_is kind_is holds = record {
  kind = subst (λ v. K (kind_of v)) (sym same) (subst K (sym kind_is) holds);
  name = ap type_name same ∙ is ∙ sym text_is;
}

-- ---- numbers

-- kinds that are among others
whole_number : (k : Kind) → IsWhole k → IsNumber k
whole_number Whole h = tt
whole_number _ h = absurd h

-- a number is a scalar
number_scalar : (k : Kind) → IsNumber k → IsScalar k
number_scalar Whole h = tt
number_scalar Day h = tt
number_scalar _ h = absurd h

-- a scalar has no arrays
scalar_nests : (arrays : ℕ) (k : Kind) → IsScalar k → Nests arrays k
scalar_nests arrays Whole h = tt
scalar_nests arrays Day h = tt
scalar_nests arrays Plain h = tt
scalar_nests arrays _ h = absurd h

-- what has no arrays
nests_more : (arrays : ℕ) (k : Kind) → Nests 0 k → Nests arrays k
nests_more arrays Whole h = tt
nests_more arrays Day h = tt
nests_more arrays Plain h = tt
nests_more arrays Optional h = tt
nests_more arrays (Nested depth) h = omega arith
nests_more arrays Stored h = absurd h
nests_more arrays Unknown h = absurd h

-- a weaker statement on the kind
weaker : (K L : Kind → Type 0) (t : Ty) (text : List ℕ) → ((k : Kind) → K k → L k) → Named K t text → Named L t text
weaker K L t text more h = record { kind = more (kind_of t) h.kind; name = h.name }

-- a width of at most 64 bits
record Narrow (w : Width) (text : List ℕ) : Type 0 where
  pub whole : IsWhole (width_kind w)
  pub name : text ≡ width_text w

narrow_as : (w v : Width) (text : List ℕ) → w ≡ v → text ≡ width_text v → IsWhole (width_kind v) → Narrow w text
narrow_as w v text same is whole = record { whole = subst (λ u. IsWhole (width_kind u)) (sym same) whole; name = is ∙ ap width_text (sym same) }

-- widths
width_is : (text : List ℕ) (w : Width) → width_named text ≡ Some w → Narrow w text
width_is text w e =
    elim (word_is text (codes "8") W8 _ w e) [
      | inl same ↦ narrow_as w W8 text same.1 same.0 tt
      | inr e2 ↦ elim (word_is text (codes "16") W16 _ w e2) [
        | inl same ↦ narrow_as w W16 text same.1 same.0 tt
        | inr e3 ↦ elim (word_is text (codes "32") W32 _ w e3) [
          | inl same ↦ narrow_as w W32 text same.1 same.0 tt
          | inr e4 ↦ elim (word_is text (codes "64") W64 _ w e4) [
            | inl same ↦ narrow_as w W64 text same.1 same.0 tt
            | inr e5 ↦ cc
          ]
        ]
      ]
    ]

-- integers
integer_is : (text : List ℕ) (t : Ty) → integer_named text ≡ Some t → Named IsWhole t text
integer_is text t e =
    elim (within_is UInt width_named _ (after_prefix (codes "UInt") text) t e) [
      | inl (s, w, is, read, same) ↦
          let width = width_is s w read in
          named_as IsWhole t (UInt w) text (codes "UInt" ++ width_text w) (width_kind w) same (name-UInt w) (after_prefix_is (codes "UInt") text s is ∙ ap (λ v. codes "UInt" ++ v) width.name) (kind-UInt w) width.whole
      | inr e2 ↦ elim (within_is Int width_named _ (after_prefix (codes "Int") text) t e2) [
        | inl (s, w, is, read, same) ↦
            let width = width_is s w read in
            named_as IsWhole t (Int w) text (codes "Int" ++ width_text w) (width_kind w) same (name-Int w) (after_prefix_is (codes "Int") text s is ∙ ap (λ v. codes "Int" ++ v) width.name) (kind-Int w) width.whole
        | inr e3 ↦ cc
      ]
    ]

-- numbers
number_is : (text : List ℕ) (t : Ty) → number_named text ≡ Some t → Named IsNumber t text
number_is text t e =
    elim (word_is text (codes "Date") Date _ t e) [
      | inl same ↦ named_as IsNumber t Date text (codes "Date") Day same.1 name-Date same.0 kind-Date tt
      | inr e2 ↦ weaker IsWhole IsNumber t text whole_number (integer_is text t e2)
    ]

-- ---- scalars and Nullable

-- a FixedString within the limit is of the profile
sized_kind : (n : ℕ) → 1 ≤ n → n ≤ MAX_FIXED_STRING → kind_of (FixedString n) ≡ Plain
sized_kind n some small = kind-FixedString n ∙ rw (le-leb 1 n some, le-leb n MAX_FIXED_STRING small) refl

-- FixedString and numbers
sized_is : (text : List ℕ) (t : Ty) → sized_named text ≡ Some t → Named IsScalar t text
sized_is text t e =
    elim (within_is FixedString size_named _ (between (codes "FixedString(") text) t e) [
      | inl (s, n, is, read, same) ↦
          let size = size_is s n read in
          named_as IsScalar t (FixedString n) text (codes "FixedString(" ++ decimal n ++ codes ")") Plain same (name-FixedString n)
          (between_is (codes "FixedString(") text s is ∙ ap (λ v. codes "FixedString(" ++ v ++ codes ")") (sym size.2)) (sized_kind n size.1 size.0) tt
      | inr e2 ↦ weaker IsNumber IsScalar t text number_scalar (number_is text t e2)
    ]

-- scalars
scalar_is : (text : List ℕ) (t : Ty) → scalar_named text ≡ Some t → Named IsScalar t text
scalar_is text t e =
    elim (word_is text (codes "String") Str _ t e) [
      | inl same ↦ named_as IsScalar t Str text (codes "String") Plain same.1 name-Str same.0 kind-Str tt
      | inr e2 ↦ elim (word_is text (codes "DateTime('UTC')") Moment _ t e2) [
        | inl same ↦ named_as IsScalar t Moment text (codes "DateTime('UTC')") Plain same.1 name-Moment same.0 kind-Moment tt
        | inr e3 ↦ elim (word_is text (codes "UInt128") (UInt W128) _ t e3) [
          | inl same ↦ named_as IsScalar t (UInt W128) text (codes "UInt128") Plain same.1 (name-UInt W128) same.0 (kind-UInt W128) tt
          | inr e4 ↦ elim (word_is text (codes "Int128") (Int W128) _ t e4) [
            | inl same ↦ named_as IsScalar t (Int W128) text (codes "Int128") Plain same.1 (name-Int W128) same.0 (kind-Int W128) tt
            | inr e5 ↦ sized_is text t e5
          ]
        ]
      ]
    ]

-- Nullable takes each scalar
optional_of_scalar : (k : Kind) → IsScalar k → optional_kind k ≡ Optional
optional_of_scalar Whole h = refl
optional_of_scalar Day h = refl
optional_of_scalar Plain h = refl
optional_of_scalar _ h = absurd h

-- a type around another
around : (K L : Kind → Type 0) (t u inner : Ty) (text s opening : List ℕ) (wrap : Kind → Kind) → t ≡ u → type_name u ≡ opening ++ type_name inner ++ codes ")" → kind_of u ≡ wrap (kind_of inner)
    → between opening text ≡ Some s → ((k : Kind) → K k → L (wrap k)) → Named K inner s → Named L t text
around K L t u inner text s opening wrap same name kind is step h =
    named_as L t u text (opening ++ type_name inner ++ codes ")") (wrap (kind_of inner)) same name (between_is opening text s is ∙ ap (λ v. opening ++ v ++ codes ")") (sym h.name)) kind (step (kind_of inner) h.kind)

-- types without arrays
optional_is : (text : List ℕ) (t : Ty) → optional_named text ≡ Some t → Named (Nests 0) t text
optional_is text t e =
    elim (within_is Nullable scalar_named _ (between (codes "Nullable(") text) t e) [
      | inl (s, inner, is, read, same) ↦
          around IsScalar (Nests 0) t (Nullable inner) inner text s (codes "Nullable(") optional_kind same (name-Nullable inner) (kind-Nullable inner) is
          (λ k h. subst (Nests 0) (sym (optional_of_scalar k h)) tt) (scalar_is s inner read)
      | inr e2 ↦ weaker IsScalar (Nests 0) t text (scalar_nests 0) (scalar_is text t e2)
    ]

-- ---- Array and the states

-- one array more
deeper_nests : (arrays d : ℕ) → d ≤ arrays → arrays < MAX_ARRAY_DEPTH → Nests (suc arrays) (if nat_lt d MAX_ARRAY_DEPTH then Nested (d + 1) else Unknown)
deeper_nests arrays d in_arrays below = let less : d < MAX_ARRAY_DEPTH = omega arith in rw (lt-ltb d MAX_ARRAY_DEPTH less) (omega arith)

-- Array, while there may be one more
array_nests : (arrays : ℕ) → arrays < MAX_ARRAY_DEPTH → (k : Kind) → Nests arrays k → Nests (suc arrays) (array_kind k)
array_nests arrays below Whole h = omega arith
array_nests arrays below Day h = omega arith
array_nests arrays below Plain h = omega arith
array_nests arrays below Optional h = omega arith
array_nests arrays below (Nested d) h = deeper_nests arrays d h below
array_nests arrays below Stored h = absurd h
array_nests arrays below Unknown h = absurd h

-- types of so many arrays
nested_is : (arrays : ℕ) → arrays ≤ MAX_ARRAY_DEPTH → (text : List ℕ) (t : Ty) → nested_named arrays text ≡ Some t → Named (Nests arrays) t text
nested_is zero fits text t e = optional_is text t e
nested_is (suc arrays) fits text t e =
    elim (within_is Array (nested_named arrays) (optional_named text) (between (codes "Array(") text) t e) [
      | inl (s, inner, is, read, same) ↦
          around (Nests arrays) (Nests (suc arrays)) t (Array inner) inner text s (codes "Array(") array_kind same (name-Array inner) (kind-Array inner) is
          (array_nests arrays (omega arith)) (nested_is arrays (omega arith) s inner read)
      | inr e2 ↦ weaker (Nests 0) (Nests (suc arrays)) t text (nests_more (suc arrays)) (optional_is text t e2)
    ]

-- a kind of the profile
abbrev IsOfProfile : Kind → Type 0
IsOfProfile k = is_known k ≡ true

-- a type of at most three arrays is of the profile
nests_known : (k : Kind) → Nests MAX_ARRAY_DEPTH k → IsOfProfile k
nests_known Whole h = refl
nests_known Day h = refl
nests_known Plain h = refl
nests_known Optional h = refl
nests_known (Nested depth) h = refl
nests_known Stored h = absurd h
nests_known Unknown h = absurd h

-- so are the states: of sum
sum_known : (k : Kind) → IsWhole k → IsOfProfile (state_kind Sum k)
sum_known Whole h = refl
sum_known _ h = absurd h

-- of min
least_known : (k : Kind) → IsNumber k → IsOfProfile (state_kind Min k)
least_known Whole h = refl
least_known Day h = refl
least_known _ h = absurd h

-- of max
greatest_known : (k : Kind) → IsNumber k → IsOfProfile (state_kind Max k)
greatest_known Whole h = refl
greatest_known Day h = refl
greatest_known _ h = absurd h

-- the states of max, or no state
greatest_is : (text : List ℕ) (t : Ty) → within (State Max) number_named (nested_named MAX_ARRAY_DEPTH text) (between (state_opening Max) text) ≡ Some t → Named IsOfProfile t text
greatest_is text t e =
    elim (within_is (State Max) number_named (nested_named MAX_ARRAY_DEPTH text) (between (state_opening Max) text) t e) [
      | inl (s, inner, is, read, same) ↦ around IsNumber IsOfProfile t (State Max inner) inner text s (state_opening Max) (state_kind Max) same (name-State Max inner) (kind-State Max inner) is greatest_known (number_is s inner read)
      | inr e2 ↦ weaker (Nests MAX_ARRAY_DEPTH) IsOfProfile t text nests_known (nested_is MAX_ARRAY_DEPTH (lit≤ tt) text t e2)
    ]

-- states, or no state
state_is : (text : List ℕ) (t : Ty) → state_named text (nested_named MAX_ARRAY_DEPTH text) ≡ Some t → Named IsOfProfile t text
state_is text t e =
    elim (within_is (State Sum) integer_named _ (between (state_opening Sum) text) t e) [
      | inl (s, inner, is, read, same) ↦ around IsWhole IsOfProfile t (State Sum inner) inner text s (state_opening Sum) (state_kind Sum) same (name-State Sum inner) (kind-State Sum inner) is sum_known (integer_is s inner read)
      | inr e2 ↦ elim (within_is (State Min) number_named _ (between (state_opening Min) text) t e2) [
        | inl (s, inner, is, read, same) ↦ around IsNumber IsOfProfile t (State Min inner) inner text s (state_opening Min) (state_kind Min) same (name-State Min inner) (kind-State Min inner) is least_known (number_is s inner read)
        | inr e3 ↦ greatest_is text t e3
      ]
    ]

-- all types
type_is : (text : List ℕ) (t : Ty) → type_named text ≡ Some t → Named IsOfProfile t text
type_is text t e =
    elim (word_is text (codes "AggregateFunction(count)") CountState _ t e) [
      | inl same ↦ named_as IsOfProfile t CountState text (codes "AggregateFunction(count)") Stored same.1 name-CountState same.0 kind-CountState refl
      | inr e2 ↦ state_is text t e2
    ]

-- the law
pub name_of_type_named : (text : List ℕ) (t : Ty) → type_named text ≡ Some t → (is_profile t ≡ true) × (type_name t ≡ text)
name_of_type_named text t e = let h = type_is text t e in (h.kind, h.name)

-- a text that is no array
pub nested_none : (arrays : ℕ) (text : List ℕ) → 0 < arrays → between (codes "Array(") text ≡ None → nested_named arrays text ≡ optional_named text
nested_none zero text some none = absurd (omega (arith, some))
nested_none (suc arrays) text some none = ap (within Array (nested_named arrays) (optional_named text)) none

-- ---- a reading's answer

-- what is answered is the type
pub found_of : (text : List ℕ) (r : Result Ty TyError) → GivesType r (type_named text) → IfOk r (λ t. (is_profile t ≡ true) × (type_name t ≡ text))
found_of text (Ok t) h = name_of_type_named text t h
found_of text (Err NotAType) h = tt
found_of text (Err NoMemory) h = tt

-- a type that is there is answered
pub only_of : (text : List ℕ) (r : Result Ty TyError) → GivesType r (type_named text) → (t : Ty) → is_profile t ≡ true → type_name t ≡ text → (r ≡ Ok t) ⊎ (r ≡ Err NoMemory)
only_of text (Ok u) h t profile name =
    let read : type_named text ≡ Some t = ap type_named (sym name) ∙ type_named_of_name t profile in
    let same : u ≡ t = cc in
    inl (ap Ok same)
only_of text (Err NotAType) h t profile name =
    let read : type_named text ≡ Some t = ap type_named (sym name) ∙ type_named_of_name t profile in
    let never : None ≡ Some t = sym h ∙ read in cc
only_of text (Err NoMemory) h t profile name = inr refl

-- none is there where none is answered
pub cause_of : (text : List ℕ) (r : Result Ty TyError) → GivesType r (type_named text) → r ≡ Err NotAType → (t : Ty) → is_profile t ≡ true → type_name t ≢ text
cause_of text r h is t profile name =
    elim (only_of text r h t profile name) [
      | inl found ↦ let never : Ok t ≡ Err NotAType = sym found ∙ is in cc
      | inr none ↦ let never : NoMemory ≡ NotAType = cc in cc
    ]
