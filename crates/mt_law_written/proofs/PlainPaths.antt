-- Plain names are relative paths in UTF-8, alone and below a folder of a plain name.
use Rattle.std.proofs.Common.{◌≡◌, ℕ, ◌<◌, ◌≤◌, Bool, true, false, not, List, [], ◌∷◌, ◌++◌, length, refl, ap, sym, ◌∙◌, subst, append_assoc, arith, eqb, ltb}
use Rattle.std.specs.List.{list_all}
use Rattle.std.specs.Str.{IsAscii, IsUtf8}
use Rattle.std.proofs.lemmas.Bool.{and_parts, and_from, ltb-true, not-true}
use Rattle.std.proofs.lemmas.List.Folds.{list_all-append}
use Rattle.std.proofs.lemmas.Str.{IsUtf8-from_ascii}
use Rattle.std.proofs.lemmas.Str.Ascii.{IsAscii-nil, IsAscii-cons}
use Rattle.mt_fault.specs.declared.file.FileBytes.{FileBytes}
use Rattle.mt_shelf.specs.Held.{HasName}
use Rattle.mt_shelf.specs.Paths.{path_names, is_relative, is_dots, has_no_zero, onto_first_name}
use Rattle.mt_shelf.specs.Paths as paths
use Rattle.mt_defs.specs.WrittenColumns.{file}
use Rattle.mt_defs.specs.Writer.{file_below}
use Rattle.mt_law_written.proofs.PlainLemmas.{is_plain, is_plain_byte}

-- ---- paths of plain names

record Plain (c : ℕ) : Type 0 where
  ascii : c < 128
  no_zero : not (eqb c 0) ≡ true
  no_slash : eqb c 47 ≡ false

plain_parts : (c : ℕ) → is_plain_byte c ≡ true → Plain c
plain_parts c e =
    let outer = and_parts (ltb c 128) _ e in
    let inner = and_parts (not (eqb c 0)) _ outer.1 in
    record { ascii = ltb-true c 128 outer.0; no_zero = inner.0; no_slash = not-true (eqb c 47) inner.1 }

-- a plain name alone, and before a slash
one_name : (name : List ℕ) → is_plain name ≡ true → path_names name ≡ name ∷ []
one_name [] e = refl
one_name (c ∷ name) e =
    let both = and_parts (is_plain_byte c) (is_plain name) e in
    rw ((plain_parts c both.0).no_slash, one_name name both.1) refl

name_before : (name rest : List ℕ) → is_plain name ≡ true → path_names (name ++ 47 ∷ rest) ≡ name ∷ path_names rest
name_before [] rest e = refl
name_before (c ∷ name) rest e =
    let both = and_parts (is_plain_byte c) (is_plain name) e in
    rw ((plain_parts c both.0).no_slash, name_before name rest both.1) refl

no_zeros : (name : List ℕ) → is_plain name ≡ true → has_no_zero name ≡ true
no_zeros [] e = refl
no_zeros (c ∷ name) e =
    let both = and_parts (is_plain_byte c) (is_plain name) e in
    and_from (not (eqb c 0)) (has_no_zero name) (plain_parts c both.0).no_zero (no_zeros name both.1)

no_dots : (name : List ℕ) → 3 ≤ length name → is_dots name ≡ false
no_dots [] long = absurd (omega (arith, long))
no_dots (a ∷ []) long = absurd (omega (arith, long))
no_dots (a ∷ b ∷ []) long = absurd (omega (arith, long))
no_dots (a ∷ b ∷ c ∷ name) long = refl

abbrev is_ascii : List ℕ → Bool
is_ascii = list_all (λ c. ltb c 128)

ascii_of : (name : List ℕ) → is_ascii name ≡ true → IsAscii name
ascii_of [] e = IsAscii-nil
ascii_of (c ∷ name) e =
    let both = and_parts (ltb c 128) (is_ascii name) e in
    IsAscii-cons c name (ltb-true c 128 both.0) (ascii_of name both.1)

plain_ascii : (name : List ℕ) → is_plain name ≡ true → is_ascii name ≡ true
plain_ascii [] e = refl
plain_ascii (c ∷ name) e =
    let both = and_parts (is_plain_byte c) (is_plain name) e in
    and_from (ltb c 128) (is_ascii name) (and_parts (ltb c 128) _ both.0).0 (plain_ascii name both.1)

-- plain bytes, more than `.` and `..` have
pub record IsPlainName (name : List ℕ) : Type 0 where
  pub plain : is_plain name ≡ true
  pub long : 3 ≤ length name

is_file_name : (name : List ℕ) → IsPlainName name → paths.is_entry_name name ≡ true
is_file_name name is = and_from (not (is_dots name)) (has_no_zero name) (ap not (no_dots name is.long)) (no_zeros name is.plain)

abbrev pub OfPlainName : FileBytes → Type 0
OfPlainName file = IsPlainName file.name

pub plain_path : (file : FileBytes) → OfPlainName file → HasName file
plain_path file is = record {
  utf8 = IsUtf8-from_ascii file.name (ascii_of file.name (plain_ascii file.name is.plain));
  form = ap (list_all paths.is_entry_name) (one_name file.name is.plain) ∙ and_from (paths.is_entry_name file.name) true (is_file_name file.name is) refl;
}

-- a plain name below a folder of a plain name
pub below_path : (above : List ℕ) (file : FileBytes) → IsPlainName above → OfPlainName file → HasName (file_below (above ++ 47 ∷ []) file)
below_path above file is here =
    let whole : List ℕ = above ++ 47 ∷ file.name in
    let same : (above ++ 47 ∷ []) ++ file.name ≡ whole = append_assoc above (47 ∷ []) file.name in
    let ascii : is_ascii whole ≡ true = list_all-append (λ c. ltb c 128) above (47 ∷ file.name) ∙ and_from (is_ascii above) _ (plain_ascii above is.plain) (plain_ascii file.name here.plain) in
    let form : is_relative whole ≡ true =
    ap (list_all paths.is_entry_name) (name_before above file.name is.plain ∙ ap (λ names. above ∷ names) (one_name file.name here.plain))
    ∙ and_from (paths.is_entry_name above) _ (is_file_name above is) (and_from (paths.is_entry_name file.name) true (is_file_name file.name here) refl) in
    record { utf8 = subst IsUtf8 (sym same) (IsUtf8-from_ascii whole (ascii_of whole ascii)); form = ap is_relative same ∙ form }
