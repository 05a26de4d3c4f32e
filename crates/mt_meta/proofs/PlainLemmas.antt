-- Bytes without a separator: numbers, names of types, and where a text is split.
use Rattle.std.proofs.Common.{◌≡◌, ◌≢◌, ℕ, ◌<◌, ◌^◌, Bool, true, false, cond, eqb, not, List, [], ◌∷◌, ◌++◌, Some, refl, sym, ap, ◌∙◌, arith, subst, lit<}
use Rattle.std.specs.Prelude.{codes, option_map, ◌==◌, ◌&&◌, nat_le}
use Rattle.std.specs.Fmt.{decimal}
use Rattle.std.specs.Str.Parse.{AllDigits}
use Rattle.std.specs.List.{slice_split, onto_first as onto_part}
use Rattle.std.proofs.lemmas.Bool.{eq-eqb, ne_eqb, leb-true, and_from, not-true}
use Rattle.std.proofs.lemmas.Fmt.{decimal_is_IsNumeral}
use Rattle.std.proofs.lemmas.Str.Parse.{digit_from_value}
use Rattle.std.proofs.lemmas.List.Splits.{slice_split-cons_yes, slice_split-cons_no}
use Rattle.std.proofs.lemmas.List.Folds.{list_all-append}
use Rattle.mt_types.specs.declared.limits.TheConstants.{MAX_FIXED_STRING}
use Rattle.mt_types.specs.declared.ty.Width.{Width}
use Rattle.mt_types.specs.declared.ty.Width.TheVariants.{W8, W16, W32, W64, W128}
use Rattle.mt_types.specs.declared.ty.Agg.{Agg}
use Rattle.mt_types.specs.declared.ty.Agg.TheVariants.{Sum, Min, Max}
use Rattle.mt_types.specs.declared.ty.Ty.{Ty, map-Ty, roll-Ty}
use Rattle.mt_types.specs.declared.ty.Ty.TheOpen.{Ty-F}
use Rattle.mt_types.specs.declared.ty.Ty.TheFolds.{fold-roll-Ty, ind-Ty}
use Rattle.mt_types.specs.Names.{type_name, name_step, state_opening, width_text}
use Rattle.mt_types.specs.Profile.{Kind, Whole, Day, Plain, Optional, Nested, Stored, Unknown, kind_of, kind_step, is_known, is_profile, optional_kind, array_kind, state_kind}
use Rattle.mt_meta.specs.Splitting.{onto_before, split_once}
use Rattle.mt_meta.specs.ColumnsReading.{lacks}
use Rattle.mt_meta.proofs.SplitLemmas.{at_byte}
use Rattle.mt_types.proofs.StepLemmas.{both_true as both}

pub lacks_append : (s : ℕ) (xs ys : List ℕ) → lacks s xs ≡ true → lacks s ys ≡ true → lacks s (xs ++ ys) ≡ true
lacks_append s xs ys e f = list_all-append (λ byte. not (byte == s)) xs ys ∙ and_from _ _ e f

-- ---- where a text is split

pub split_after : (s : ℕ) (line rest : List ℕ) → lacks s line ≡ true → slice_split (at_byte s) (line ++ s ∷ rest) ≡ line ∷ slice_split (at_byte s) rest
split_after s [] rest e = slice_split-cons_yes (at_byte s) s rest (same s)
  where
    same : (s : ℕ) → eqb s s ≡ true
    same s = eq-eqb s s refl
split_after s (byte ∷ line) rest e =
    let parts = both (not (byte == s)) (lacks s line) e in
    slice_split-cons_no (at_byte s) byte (line ++ s ∷ rest) (not-true (byte == s) parts.0) ∙ ap (onto_part byte) (split_after s line rest parts.1)

pub once_after : (s : ℕ) (name rest : List ℕ) → lacks s name ≡ true → split_once s (name ++ s ∷ rest) ≡ Some (name, rest)
once_after s [] rest e = rw (eq-eqb s s refl) refl
once_after s (byte ∷ name) rest e =
    let parts = both (not (byte == s)) (lacks s name) e in
    rw (not-true (byte == s) parts.0) (ap (option_map (onto_before byte)) (once_after s name rest parts.1))

-- ---- numbers

digits_lack : (ds : List ℕ) → AllDigits 10 ds → lacks 10 ds ≡ true
digits_lack [] d = refl
digits_lack (c ∷ cs) d =
    let k = digit_from_value c d.0 in
    and_from _ _ (ap not (ne_eqb c 10 (λ e. omega (arith, k)))) (digits_lack cs d.1)

pub decimal_lacks : (n : ℕ) → n < 2 ^ 64 → lacks 10 (decimal n) ≡ true
decimal_lacks n small = digits_lack (decimal n) (decimal_is_IsNumeral n small).0.1

-- ---- names of types

-- the name of a type of the profile is on one line, and not empty
abbrev OneLine : Ty → Type 0
OneLine t = is_profile t ≡ true → (lacks 10 (type_name t) ≡ true) × (type_name t ≢ [])

abbrev OneLineLevel : Ty-F Ty → Type 0
OneLineLevel x = is_known (kind_step (map-Ty Ty Kind kind_of x)) ≡ true → (lacks 10 (name_step (map-Ty Ty (List ℕ) type_name x)) ≡ true) × (name_step (map-Ty Ty (List ℕ) type_name x) ≢ [])

abbrev Below : Type 0
Below = (ty : Ty) × OneLine ty

optional_inner : (k : Kind) → is_known (optional_kind k) ≡ true → is_known k ≡ true
optional_inner Whole e = refl
optional_inner Day e = refl
optional_inner Plain e = refl
optional_inner Optional e = cc
optional_inner (Nested depth) e = cc
optional_inner Stored e = cc
optional_inner Unknown e = cc

array_inner : (k : Kind) → is_known (array_kind k) ≡ true → is_known k ≡ true
array_inner Unknown e = cc
array_inner Whole e = refl
array_inner Day e = refl
array_inner Plain e = refl
array_inner Optional e = refl
array_inner (Nested depth) e = refl
array_inner Stored e = refl

state_inner : (agg : Agg) (k : Kind) → is_known (state_kind agg k) ≡ true → is_known k ≡ true
state_inner agg Whole e = refl
state_inner agg Day e = refl
state_inner agg Plain e = refl
state_inner agg Optional e = refl
state_inner agg (Nested depth) e = refl
state_inner agg Stored e = refl
state_inner Sum Unknown e = cc
state_inner Min Unknown e = cc
state_inner Max Unknown e = cc

whole_name : (sign : List ℕ) (w : Width) → lacks 10 sign ≡ true → lacks 10 (sign ++ width_text w) ≡ true
whole_name sign W8 e = lacks_append 10 sign (codes "8") e refl
whole_name sign W16 e = lacks_append 10 sign (codes "16") e refl
whole_name sign W32 e = lacks_append 10 sign (codes "32") e refl
whole_name sign W64 e = lacks_append 10 sign (codes "64") e refl
whole_name sign W128 e = lacks_append 10 sign (codes "128") e refl

round : (opening name : List ℕ) → lacks 10 opening ≡ true → lacks 10 name ≡ true → lacks 10 (opening ++ name ++ codes ")") ≡ true
round opening name e f = lacks_append 10 (opening ++ name) (codes ")") (lacks_append 10 opening name e f) refl

size_small : (size : ℕ) → is_known (kind_step (Ty-F.FixedString size)) ≡ true → size < 2 ^ 64
size_small size e = small (nat_le 1 size && nat_le size MAX_FIXED_STRING) refl e
  where
    small : (test : Bool) → (nat_le 1 size && nat_le size MAX_FIXED_STRING) ≡ test → is_known (cond test Plain Unknown) ≡ true → size < 2 ^ 64
    small true is e =
        let most : MAX_FIXED_STRING < 2 ^ 64 = lit< tt in
        omega (arith, leb-true size MAX_FIXED_STRING (both (nat_le 1 size) (nat_le size MAX_FIXED_STRING) is).1, most)
    small false is e = cc

level_line : (y : Ty-F Below) → OneLineLevel (map-Ty Below Ty (λ e. e.0) y)
level_line (Ty-F.UInt w) k = (whole_name (codes "UInt") w refl, λ e. cc)
level_line (Ty-F.Int w) k = (whole_name (codes "Int") w refl, λ e. cc)
level_line (Ty-F.FixedString size) k = (round (codes "FixedString(") (decimal size) refl (decimal_lacks size (size_small size k)), λ e. cc)
level_line Ty-F.Str k = (refl, λ e. cc)
level_line Ty-F.Date k = (refl, λ e. cc)
level_line Ty-F.Moment k = (refl, λ e. cc)
level_line (Ty-F.Nullable t) k = (round (codes "Nullable(") (type_name t.0) refl (t.1 (optional_inner (kind_of t.0) k)).0, λ e. cc)
level_line (Ty-F.Array t) k = (round (codes "Array(") (type_name t.0) refl (t.1 (array_inner (kind_of t.0) k)).0, λ e. cc)
level_line (Ty-F.State Sum t) k = (round (state_opening Sum) (type_name t.0) refl (t.1 (state_inner Sum (kind_of t.0) k)).0, λ e. cc)
level_line (Ty-F.State Min t) k = (round (state_opening Min) (type_name t.0) refl (t.1 (state_inner Min (kind_of t.0) k)).0, λ e. cc)
level_line (Ty-F.State Max t) k = (round (state_opening Max) (type_name t.0) refl (t.1 (state_inner Max (kind_of t.0) k)).0, λ e. cc)
level_line Ty-F.CountState k = (refl, λ e. cc)

rolled_line : (x : Ty-F Ty) → OneLineLevel x → OneLine (roll-Ty x)
rolled_line x h k =
    let w = h (ap is_known (sym (fold-roll-Ty Kind kind_step x)) ∙ k) in
    rw (fold-roll-Ty (List ℕ) name_step x) w

pub name_line : (ty : Ty) → OneLine ty
name_line = ind-Ty OneLine (λ x y is. rolled_line x (subst OneLineLevel is (level_line y)))
