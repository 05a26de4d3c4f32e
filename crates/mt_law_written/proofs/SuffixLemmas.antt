-- The suffixes of a type's substreams differ.
use Rattle.std.proofs.Common.{◌≡◌, ◌≢◌, ℕ, zero, suc, ◌+◌, ◌<◌, ◌≤◌, true, false, ◌&&◌, ◌||◌, List, [], ◌∷◌, ◌++◌, length, get_or, refl, ap, sym, ◌∙◌, subst, arith, inl, inr, ◌⊎◌}
use Rattle.std.specs.Prelude.{All, codes}
use Rattle.std.specs.Fmt.{decimal}
use Rattle.std.proofs.lemmas.Fmt.{decimal_digit}
use Rattle.std.proofs.lemmas.Bool.{ne_eqb}
use Rattle.std.proofs.lemmas.List.Elements.{All-nil, All-cons, All-weaker}
use Rattle.mt_types.specs.declared.limits.TheConstants.{MAX_ARRAY_DEPTH}
use Rattle.mt_types.specs.declared.ty.Width.{Width}
use Rattle.mt_types.specs.declared.ty.Width.TheVariants.{W8, W16, W32, W64, W128}
use Rattle.mt_types.specs.declared.ty.Ty.{Ty, map-Ty, out-Ty}
use Rattle.mt_types.specs.declared.ty.Ty.TheOpen.{Ty-F}
use Rattle.mt_types.specs.declared.ty.Ty.TheVariants.{Nullable, Array, outs-Nullable, outs-Array}
use Rattle.mt_types.specs.declared.ty.Ty.TheFolds.{fold-Ty, fold_out-Ty}
use Rattle.mt_types.specs.Profile.{Kind, Day, Plain, Optional, Stored, Unknown, width_kind, kind_of, is_profile}
use Rattle.mt_types.proofs.Levels.{same_level}
use Rattle.mt_types.proofs.KindLemmas.{Known, unsigned, signed, day, moment, text, fixed, optional, nested, stored, counted, outside, known, array_depth}
use Rattle.mt_defs.specs.FileNames.{stream_suffixes, suffix_step}
use Rattle.mt_defs.specs.FileNames.{array_levels, levels_of_kind}
use Rattle.mt_codec.proofs.WrittenLemmas.{IsSingleLevel, nullable_level, array_inside}
use Rattle.mt_law_written.proofs.NameLemmas.{has_slash}
use Rattle.mt_law_written.proofs.PlainLemmas.{is_plain, plain_byte}
use Rattle.mt_law_written.proofs.ApartLemmas.{Differ}

-- ---- the form of a suffix

-- nothing, the null map's, or the sizes' of an array at this level or further in
abbrev HasForm : ℕ → List ℕ → Type 0
HasForm level suffix = (suffix ≡ []) ⊎ ((suffix ≡ codes ".null") ⊎ ((inner : ℕ) × (level ≤ inner) × (inner < 10) × (suffix ≡ codes ".size" ++ decimal inner)))

-- what is said of a suffix: it is empty or begins with a dot, its bytes are plain, and no slash is in it
pub record IsSuffix (suffix : List ℕ) : Type 0 where
  pub dotted : (suffix ≡ []) ⊎ ((rest : List ℕ) × (suffix ≡ 46 ∷ rest))
  pub no_slash : has_slash suffix ≡ false
  pub plain : is_plain suffix ≡ true

digit_no_slash : (n : ℕ) → n < 10 → has_slash (codes ".size" ++ decimal n) ≡ false
digit_no_slash n small =
    ap (λ digits. has_slash (codes ".size" ++ digits)) (decimal_digit n small)
    ∙ ap (λ b. b || false) (ne_eqb (48 + n) 47 (λ is. omega (arith, is)))

digit_is_plain : (n : ℕ) → n < 10 → is_plain (codes ".size" ++ decimal n) ≡ true
digit_is_plain n small =
    ap (λ digits. is_plain (codes ".size" ++ digits)) (decimal_digit n small) ∙ ap (λ b. b && true) (plain_byte (48 + n) (omega arith) (omega (arith, small)))

form_is : (level : ℕ) (suffix : List ℕ) → HasForm level suffix → IsSuffix suffix
form_is level suffix (inl e) = record { dotted = inl e; no_slash = ap has_slash e; plain = ap is_plain e }
form_is level suffix (inr (inl e)) = record { dotted = inr (codes "null", e); no_slash = ap has_slash e; plain = ap is_plain e }
form_is level suffix (inr (inr sizes)) = record { dotted = inr (codes "size" ++ decimal sizes.0, sizes.3); no_slash = ap has_slash sizes.3 ∙ digit_no_slash sizes.0 sizes.2; plain = ap is_plain sizes.3 ∙ digit_is_plain sizes.0 sizes.2 }

-- ---- levels of a type

abbrev suffixes : Ty → ℕ → List (List ℕ)
suffixes t = fold-Ty (ℕ → List (List ℕ)) suffix_step t

suffixes_at : (t : Ty) (level : Ty-F Ty) (k : ℕ) → out-Ty t ≡ level → suffixes t k ≡ suffix_step (map-Ty Ty (ℕ → List (List ℕ)) suffixes level) k
suffixes_at t level k is =
    ap (λ (f : ℕ → List (List ℕ)). f k) (fold_out-Ty (ℕ → List (List ℕ)) suffix_step t ∙ ap (λ l. suffix_step (map-Ty Ty (ℕ → List (List ℕ)) suffixes l)) is)

single_suffix : (t : Ty) (level : Ty-F Ty) (k : ℕ) → out-Ty t ≡ level → IsSingleLevel level → suffixes t k ≡ [] ∷ []
single_suffix t (Ty-F.Nullable u) k is single = absurd single
single_suffix t (Ty-F.Array u) k is single = absurd single
single_suffix t (Ty-F.UInt w) k is single = suffixes_at t (Ty-F.UInt w) k is
single_suffix t (Ty-F.Int w) k is single = suffixes_at t (Ty-F.Int w) k is
single_suffix t (Ty-F.FixedString n) k is single = suffixes_at t (Ty-F.FixedString n) k is
single_suffix t Ty-F.Str k is single = suffixes_at t Ty-F.Str k is
single_suffix t Ty-F.Date k is single = suffixes_at t Ty-F.Date k is
single_suffix t Ty-F.Moment k is single = suffixes_at t Ty-F.Moment k is
single_suffix t (Ty-F.State agg u) k is single = suffixes_at t (Ty-F.State agg u) k is
single_suffix t Ty-F.CountState k is single = suffixes_at t Ty-F.CountState k is

-- the suffixes have their form, and none stands twice
record Suffixes (level : ℕ) (all : List (List ℕ)) : Type 0 where
  form : All (HasForm level) all
  differ : Differ all

one_suffix : (k : ℕ) → Suffixes k ([] ∷ [])
one_suffix k = record { form = All-cons (HasForm k) [] [] (inl refl) (All-nil (HasForm k)); differ = (All-nil _, tt) }

null_first : (k : ℕ) → Suffixes k (codes ".null" ∷ [] ∷ [])
null_first k = record {
  form = All-cons (HasForm k) (codes ".null") ([] ∷ []) (inr (inl refl)) (one_suffix k).form;
  differ = (All-cons (λ y. codes ".null" ≢ y) [] [] (λ e. (let bad : 5 ≡ 0 = ap length e in omega (arith, bad))) (All-nil _), (one_suffix k).differ);
}

sizes_other : (k : ℕ) → k < 10 → (suffix : List ℕ) → HasForm (k + 1) suffix → codes ".size" ++ decimal k ≢ suffix
sizes_other k small suffix (inl e) same = let bad : 46 ≡ 0 = ap (λ l. get_or l 0 0) (same ∙ e) in omega (arith, bad)
sizes_other k small suffix (inr (inl e)) same =
    let bad : 115 ≡ 110 = ap (λ l. get_or l 1 0) (same ∙ e) in
    omega (arith, bad)
sizes_other k small suffix (inr (inr sizes)) same =
    let whole : codes ".size" ++ (48 + k) ∷ [] ≡ codes ".size" ++ (48 + sizes.0) ∷ [] =
    ap (λ digits. codes ".size" ++ digits) (sym (decimal_digit k small)) ∙ same ∙ sizes.3 ∙ ap (λ digits. codes ".size" ++ digits) (decimal_digit sizes.0 sizes.2) in
    let digit : 48 + k ≡ 48 + sizes.0 = ap (λ l. get_or l 5 0) whole in
    omega (arith, digit, sizes.1)

form_lower : (k : ℕ) (suffix : List ℕ) → HasForm (k + 1) suffix → HasForm k suffix
form_lower k suffix (inl e) = inl e
form_lower k suffix (inr (inl e)) = inr (inl e)
form_lower k suffix (inr (inr sizes)) = inr (inr (sizes.0, omega (arith, sizes.1), sizes.2, sizes.3))

sizes_first : (k : ℕ) (inner : List (List ℕ)) → k < 10 → Suffixes (k + 1) inner → Suffixes k ((codes ".size" ++ decimal k) ∷ inner)
sizes_first k inner small are = record {
  form = All-cons (HasForm k) (codes ".size" ++ decimal k) inner (inr (inr (k, omega arith, small, refl))) (All-weaker (HasForm (k + 1)) (HasForm k) (form_lower k) inner are.form);
  differ = (All-weaker (HasForm (k + 1)) (λ y. codes ".size" ++ decimal k ≢ y) (sizes_other k small) inner are.form, are.differ);
}

suffixes_within : (depth k : ℕ) (t : Ty) (level : Ty-F Ty) → out-Ty t ≡ level → array_levels t ≤ depth → k + depth < 10 → is_profile t ≡ true → Suffixes k (suffixes t k)
suffixes_within depth k t (Ty-F.UInt w) is few small profile = subst (Suffixes k) (sym (single_suffix t (Ty-F.UInt w) k is tt)) (one_suffix k)
suffixes_within depth k t (Ty-F.Int w) is few small profile = subst (Suffixes k) (sym (single_suffix t (Ty-F.Int w) k is tt)) (one_suffix k)
suffixes_within depth k t (Ty-F.FixedString n) is few small profile = subst (Suffixes k) (sym (single_suffix t (Ty-F.FixedString n) k is tt)) (one_suffix k)
suffixes_within depth k t Ty-F.Str is few small profile = subst (Suffixes k) (sym (single_suffix t Ty-F.Str k is tt)) (one_suffix k)
suffixes_within depth k t Ty-F.Date is few small profile = subst (Suffixes k) (sym (single_suffix t Ty-F.Date k is tt)) (one_suffix k)
suffixes_within depth k t Ty-F.Moment is few small profile = subst (Suffixes k) (sym (single_suffix t Ty-F.Moment k is tt)) (one_suffix k)
suffixes_within depth k t (Ty-F.State agg u) is few small profile = subst (Suffixes k) (sym (single_suffix t (Ty-F.State agg u) k is tt)) (one_suffix k)
suffixes_within depth k t Ty-F.CountState is few small profile = subst (Suffixes k) (sym (single_suffix t Ty-F.CountState k is tt)) (one_suffix k)
suffixes_within depth k t (Ty-F.Nullable u) is few small profile =
    let same : Nullable u ≡ t = sym (same_level t (Nullable u) (is ∙ sym (outs-Nullable u))) in
    let inner : suffixes u k ≡ [] ∷ [] = single_suffix u (out-Ty u) k refl (nullable_level u (ap is_profile same ∙ profile)) in
    subst (Suffixes k) (sym (suffixes_at t (Ty-F.Nullable u) k is)) (subst (λ l. Suffixes k (codes ".null" ∷ l)) (sym inner) (null_first k))
suffixes_within zero k t (Ty-F.Array u) is few small profile =
    let same : Array u ≡ t = sym (same_level t (Array u) (is ∙ sym (outs-Array u))) in
    let more = (array_inside u (ap is_profile same ∙ profile)).1 in
    absurd (omega (arith, more, ap array_levels same, few))
suffixes_within (suc depth) k t (Ty-F.Array u) is few small profile =
    let same : Array u ≡ t = sym (same_level t (Array u) (is ∙ sym (outs-Array u))) in
    let p = array_inside u (ap is_profile same ∙ profile) in
    let below : array_levels u ≤ depth = omega (arith, p.1, ap array_levels same, few) in
    subst (Suffixes k) (sym (suffixes_at t (Ty-F.Array u) k is)) (sizes_first k (suffixes u (k + 1)) (omega (arith, small)) (suffixes_within depth (k + 1) u (out-Ty u) refl below (omega (arith, small)) p.0))

-- ---- each type

none_small : (t : Ty) (kind : Kind) → kind_of t ≡ kind → levels_of_kind kind ≡ 0 → array_levels t ≤ MAX_ARRAY_DEPTH
none_small t kind is none = let zero : array_levels t ≡ 0 = ap levels_of_kind is ∙ none in omega (arith, zero)

width_levels : (w : Width) → levels_of_kind (width_kind w) ≡ 0
width_levels W8 = refl
width_levels W16 = refl
width_levels W32 = refl
width_levels W64 = refl
width_levels W128 = refl

levels_small : (t : Ty) → Known t → array_levels t ≤ MAX_ARRAY_DEPTH
levels_small t (unsigned w is k) = none_small t (width_kind w) k (width_levels w)
levels_small t (signed w is k) = none_small t (width_kind w) k (width_levels w)
levels_small t (day is k) = none_small t Day k refl
levels_small t (moment is k) = none_small t Plain k refl
levels_small t (text is k) = none_small t Plain k refl
levels_small t (fixed n is low high k) = none_small t Plain k refl
levels_small t (optional inner is s k) = none_small t Optional k refl
levels_small t (nested inner depth is e k) = let same : array_levels t ≡ depth = ap levels_of_kind k in omega (arith, same, (array_depth (kind_of inner) depth e).1)
levels_small t (stored agg inner is e k) = none_small t Stored k refl
levels_small t (counted is k) = none_small t Stored k refl
levels_small t (outside k) = none_small t Unknown k refl

all_suffixes : (t : Ty) → is_profile t ≡ true → Suffixes 0 (stream_suffixes t)
all_suffixes t profile = suffixes_within MAX_ARRAY_DEPTH 0 t (out-Ty t) refl (levels_small t (known t)) (omega arith) profile

pub suffixes_differ : (t : Ty) → is_profile t ≡ true → Differ (stream_suffixes t)
suffixes_differ t profile = (all_suffixes t profile).differ

pub are_suffixes : (t : Ty) → is_profile t ≡ true → All IsSuffix (stream_suffixes t)
are_suffixes t profile = All-weaker (HasForm 0) IsSuffix (form_is 0) (stream_suffixes t) (all_suffixes t profile).form
