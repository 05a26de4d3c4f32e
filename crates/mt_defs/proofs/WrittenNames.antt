-- Names of plain words, and the one substream of a number column.
use Rattle.std.proofs.Common.{◌≡◌, ℕ, Bool, true, false, ◌&&◌, ◌||◌, List, [], ◌∷◌, ◌++◌, map, refl, sym, ap, ◌∙◌, eqb, leb}
use Rattle.std.specs.Prelude.{IsTrue}
use Rattle.std.specs.List.{list_all}
use Rattle.std.specs.Char.{is_ascii_digit}
use Rattle.std.proofs.lemmas.Bool.{and_from, and_parts}
use Rattle.std.proofs.lemmas.List.{append-nil}
use Rattle.mt_types.specs.declared.ty.Width.TheVariants.{W64}
use Rattle.mt_types.specs.declared.ty.Ty.TheVariants.{UInt, outs-UInt}
use Rattle.mt_types.specs.declared.ty.Ty.{Ty, map-Ty}
use Rattle.mt_types.specs.declared.ty.Ty.TheFolds.{fold-Ty, fold_out-Ty}
use Rattle.mt_types.specs.Words.{is_word_start, is_word_byte as is_name_byte, is_name, is_word_text}
use Rattle.mt_table.specs.Form.{uint64_column}
use Rattle.mt_defs.specs.FileNames.{file_name, file_name_byte, is_word_byte, stream_names, stream_suffixes, suffix_step}

word_byte : (digit upper line low : Bool) → (((upper || low) || line) || digit) ≡ true → (((digit || upper) || line) || low) ≡ true
word_byte true upper line low e = refl
word_byte false true line low e = refl
word_byte false false true low e = refl
word_byte false false false true e = refl
word_byte false false false false e = cc

name_byte_word : (c : ℕ) → is_name_byte c ≡ true → is_word_byte c ≡ true
name_byte_word c e = word_byte (leb 48 c && leb c 57) (leb 65 c && leb c 90) (eqb c 95) (leb 97 c && leb c 122) e

-- a name's bytes stand for themselves in names of files
same_name : (name : List ℕ) → list_all is_name_byte name ≡ true → file_name name ≡ name
same_name [] e = refl
same_name (c ∷ name) e =
    let both = and_parts (is_name_byte c) (list_all is_name_byte name) e in
    let first : file_name_byte c ≡ c ∷ [] = rw (name_byte_word c both.0) refl in
    ap (λ bytes. bytes ++ file_name name) first ∙ ap (λ rest. c ∷ rest) (same_name name both.1)

-- a letter or _ stands first
abbrev pub begins_word : List ℕ → Bool
begins_word [] = false
begins_word (c ∷ rest) = is_word_start c

pub record Word (name : List ℕ) : Type 0 where
  pub begins : begins_word name ≡ true
  pub bytes : list_all is_name_byte name ≡ true

word_text : (name : List ℕ) → is_word_text name ≡ true → Word name
word_text [] e = cc
word_text (c ∷ rest) e =
    let both = and_parts (is_word_start c) (list_all is_name_byte rest) e in
    record { begins = both.0; bytes = and_from (is_name_byte c) (list_all is_name_byte rest) (ap (λ b. b || is_ascii_digit c) both.0) both.1 }

pub word_of : (name : List ℕ) → IsTrue (is_name name) → Word name
word_of name e = word_text name (and_parts (is_word_text name) _ e).0

suffixes : stream_suffixes (UInt W64) ≡ [] ∷ []
suffixes = ap (λ (f : ℕ → List (List ℕ)). f 0) (fold_out-Ty (ℕ → List (List ℕ)) suffix_step (UInt W64) ∙ ap (λ l. suffix_step (map-Ty Ty (ℕ → List (List ℕ)) (fold-Ty (ℕ → List (List ℕ)) suffix_step) l)) (outs-UInt W64))

pub stream_name : (name : List ℕ) → Word name → stream_names (uint64_column name) ≡ name ∷ []
stream_name name word = ap (map (λ suffix. file_name name ++ suffix)) suffixes ∙ ap (λ bytes. bytes ∷ []) (append-nil (file_name name) ∙ same_name name word.bytes)
