-- Drafts by whole paths.
use Rattle.std.proofs.Common.{◌≡◌, ℕ, suc, zero, Bool, true, false, cond, ◌&&◌, ◌==◌, List, [], ◌∷◌, ◌++◌, Option, Some, None, is_some, refl, sym, ◌∙◌, ap, subst, arith, rules, get_or, length, drop, ◌<◌, ◌+◌, length-append}
use Rattle.std.proofs.lemmas.Bool.{eqb-true, eq-eqb, and_from}
use Rattle.std.proofs.lemmas.Str.{IsUtf8-append, is_utf8-from_IsUtf8, IsUtf8-from_is_utf8, IsUtf8-from_ascii, IsUtf8-drop, IsCharBoundary-after_ascii}
use Rattle.std.proofs.Math.Seq.{get_or-append_seam, drop-append-add}
use Rattle.std.proofs.lemmas.List.Folds.{list_all-append}
use Rattle.std.specs.Str.{is_utf8, IsUtf8}
use Rattle.std.specs.Option.{option_map}
use Rattle.std.specs.List.{list_all, cons_option}
use Rattle.std.specs.Prelude.{All}
use Rattle.std.specs.FinMap.{insert}
use Rattle.mt_shelf.specs.Paths.{path_names, onto_first_name, is_entry_name, is_relative, is_path, joined_path, name_below}
use Rattle.mt_shelf.specs.Files.{Files, gained_files, is_file_path, is_file_name}
use Rattle.mt_shelf.specs.Held.{all_paths, put_of, draft_in, with_files, is_put, HasName}
use Rattle.mt_fault.specs.declared.file.FileBytes.{FileBytes}

pub below_joined : (target name : List ℕ) → name_below target (joined_path target name) ≡ Some name
below_joined [] name = refl
below_joined (p ∷ target) name = ap (λ (b : Bool). cond b (name_below target (joined_path target name)) None) (eq-eqb p p refl) ∙ below_joined target name

pub joined_below : (target path name : List ℕ) → name_below target path ≡ Some name → path ≡ joined_path target name
joined_below [] [] name is = cc
joined_below [] (c ∷ path) name is = by_test (c == 47) refl is
  where
    by_test : (b : Bool) → (c == 47) ≡ b → cond b (Some path) None ≡ Some name → c ∷ path ≡ 47 ∷ name
    by_test true e found = let c_is : c ≡ 47 = eqb-true c 47 e in let path_is : path ≡ name = cc in λ i. c_is i ∷ path_is i
    by_test false e found = cc
joined_below (p ∷ target) [] name is = cc
joined_below (p ∷ target) (c ∷ path) name is = by_test (p == c) refl is (joined_below target path name)
  where
    by_test : (b : Bool) → (p == c) ≡ b → cond b (name_below target path) None ≡ Some name → (name_below target path ≡ Some name → path ≡ joined_path target name) → c ∷ path ≡ p ∷ joined_path target name
    by_test true e found later = let c_is : c ≡ p = sym (eqb-true p c e) in let path_is : path ≡ joined_path target name = later found in λ i. c_is i ∷ path_is i
    by_test false e found later = cc

pub first_true : (a b : Bool) → (a && b) ≡ true → a ≡ true
first_true true b e = refl
first_true false b e = cc

pub second_true : (a b : Bool) → (a && b) ≡ true → b ≡ true
second_true true b e = e
second_true false b e = cc

pub paths-puts : (target : List ℕ) (draft : List FileBytes) → list_all (is_put target) draft ≡ true → all_paths draft ≡ true
paths-puts target [] good = refl
paths-puts target (file ∷ draft) good =
    let head : is_put target file ≡ true = first_true (is_put target file) (list_all (is_put target) draft) good in
    and_from (is_file_path file.name) (all_paths draft) (first_true (is_file_path file.name) (is_some (name_below target file.name)) head) (paths-puts target draft (second_true (is_put target file) (list_all (is_put target) draft) good))

-- to write a draft below its target is to put each file in its place
pub gained_files-draft_in : (target : List ℕ) (draft : List FileBytes) (files : Files) → list_all (is_put target) draft ≡ true → gained_files target (draft_in target draft) files ≡ with_files draft files
gained_files-draft_in target [] files good = refl
gained_files-draft_in target (file ∷ draft) files good = by_name (name_below target file.name) refl (λ fs. gained_files-draft_in target draft fs (second_true (is_put target file) (list_all (is_put target) draft) good))
  where
    head : is_put target file ≡ true
    head = first_true (is_put target file) (list_all (is_put target) draft) good

    no : (b : Bool) → b ≡ false → b ≡ true → ⊥
    no b p q = cc

    by_name : (o : Option (List ℕ)) → name_below target file.name ≡ o → ((fs : Files) → gained_files target (draft_in target draft) fs ≡ with_files draft fs) → gained_files target (draft_in target (file ∷ draft)) files ≡ with_files draft (insert files file.name file.bytes)
    by_name None e later = absurd (no (is_some (name_below target file.name)) (ap is_some e) (second_true (is_file_path file.name) (is_some (name_below target file.name)) head))
    by_name (Some name) e later =
        ap (λ (o : Option (List ℕ)). gained_files target (cons_option (option_map (λ (n : List ℕ). (n, file.bytes)) o) (draft_in target draft)) files) e
        ∙ later (insert files (joined_path target name) file.bytes)
        ∙ ap (λ (p : List ℕ). with_files draft (insert files p file.bytes)) (sym (joined_below target file.name name e))

-- one more `put`
pub draft_in-push : (target : List ℕ) (draft : List FileBytes) (file : FileBytes) (name : List ℕ) → file.name ≡ joined_path target name → draft_in target (draft ++ file ∷ []) ≡ draft_in target draft ++ (name, file.bytes) ∷ []
draft_in-push target [] file name is = ap (λ (o : Option (List ℕ)). cons_option (option_map (λ (n : List ℕ). (n, file.bytes)) o) []) (ap (name_below target) is ∙ below_joined target name)
draft_in-push target (f ∷ draft) file name is = ap (cons_option (put_of target f)) (draft_in-push target draft file name is) ∙ moved (put_of target f)
  where
    moved : (o : Option (List ℕ × List ℕ)) → cons_option o (draft_in target draft ++ (name, file.bytes) ∷ []) ≡ cons_option o (draft_in target draft) ++ (name, file.bytes) ∷ []
    moved None = refl
    moved (Some p) = refl

onto-append : (c : ℕ) (xs ys : List (List ℕ)) (x : List ℕ) → onto_first_name c ((x ∷ xs) ++ ys) ≡ onto_first_name c (x ∷ xs) ++ ys
onto-append c xs ys x = refl

-- names_of is never empty
some_names : (path : List ℕ) → (x : List ℕ) × (xs : List (List ℕ)) × (path_names path ≡ x ∷ xs)
some_names [] = ([], [], refl)
some_names (c ∷ path) = by_test (c == 47)
  where
    onto : (names : List (List ℕ)) → (x : List ℕ) × (xs : List (List ℕ)) × (onto_first_name c names ≡ x ∷ xs)
    onto [] = (c ∷ [], [], refl)
    onto (n ∷ names) = (c ∷ n, names, refl)

    by_test : (b : Bool) → (x : List ℕ) × (xs : List (List ℕ)) × (cond b ([] ∷ path_names path) (onto_first_name c (path_names path)) ≡ x ∷ xs)
    by_test true = ([], path_names path, refl)
    by_test false = onto (path_names path)

pub names-joined_path : (part name : List ℕ) → path_names (joined_path part name) ≡ path_names part ++ path_names name
names-joined_path [] name = refl
names-joined_path (c ∷ part) name = by_test (c == 47) (names-joined_path part name) (some_names part)
  where
    by_test : (b : Bool) → path_names (joined_path part name) ≡ path_names part ++ path_names name → (x : List ℕ) × (xs : List (List ℕ)) × (path_names part ≡ x ∷ xs)
        → cond b ([] ∷ path_names (joined_path part name)) (onto_first_name c (path_names (joined_path part name))) ≡ cond b ([] ∷ path_names part) (onto_first_name c (path_names part)) ++ path_names name
    by_test true later some = ap (λ (names : List (List ℕ)). [] ∷ names) later
    by_test false later some = ap (onto_first_name c) (later ∙ ap (λ (names : List (List ℕ)). names ++ path_names name) some.2) ∙ ap (λ (names : List (List ℕ)). onto_first_name c names ++ path_names name) (sym some.2)

relative_joined : (part name : List ℕ) → is_relative part ≡ true → is_relative name ≡ true → is_relative (joined_path part name) ≡ true
relative_joined part name p n = ap (list_all is_entry_name) (names-joined_path part name) ∙ list_all-append is_entry_name (path_names part) (path_names name) ∙ and_from (is_relative part) (is_relative name) p n

pub path_joined : (part name : List ℕ) → is_path part ≡ true → is_relative name ≡ true → is_path (joined_path part name) ≡ true
path_joined [] name p n = cc
path_joined (c ∷ part) name p n = by_test (c == 47) p
  where
    by_test : (b : Bool) → cond b (is_relative part) (is_relative (c ∷ part)) ≡ true → cond b (is_relative (joined_path part name)) (is_relative (c ∷ joined_path part name)) ≡ true
    by_test true q = relative_joined part name q n
    by_test false q = relative_joined (c ∷ part) name q n

pub is_file_path-from : (path : List ℕ) → IsUtf8 path → is_path path ≡ true → is_file_path path ≡ true
is_file_path-from path utf8 form = and_from (is_utf8 path) (is_path path) (is_utf8-from_IsUtf8 path utf8) form

slash_utf8 : IsUtf8 (47 ∷ [])
slash_utf8 = IsUtf8-from_ascii (47 ∷ []) (search rules)

-- a put keeps the rule of drafts
pub is_put-joined_path : (target name : List ℕ) (file : FileBytes) → file.name ≡ joined_path target name → is_file_path target ≡ true → IsUtf8 name → is_relative name ≡ true → is_put target file ≡ true
is_put-joined_path target name file is path utf8 form =
    let target_utf8 : IsUtf8 target = IsUtf8-from_is_utf8 target (first_true (is_utf8 target) (is_path target) path) in
    let whole_utf8 : IsUtf8 (joined_path target name) = IsUtf8-append target (47 ∷ name) target_utf8 (IsUtf8-append (47 ∷ []) name slash_utf8 utf8) in
    let good : is_file_path (joined_path target name) ≡ true = is_file_path-from (joined_path target name) whole_utf8 (path_joined target name (second_true (is_utf8 target) (is_path target) path) form) in
    and_from (is_file_path file.name) (is_some (name_below target file.name)) (ap is_file_path is ∙ good) (ap (λ (p : List ℕ). is_some (name_below target p)) is ∙ ap is_some (below_joined target name))

pub puts-push : (target : List ℕ) (draft : List FileBytes) (file : FileBytes) → list_all (is_put target) draft ≡ true → is_put target file ≡ true → list_all (is_put target) (draft ++ file ∷ []) ≡ true
puts-push target draft file good one = list_all-append (is_put target) draft (file ∷ []) ∙ and_from (list_all (is_put target) draft) (is_put target file && true) good (and_from (is_put target file) true one refl)

relative_below : (part name : List ℕ) → is_relative (joined_path part name) ≡ true → is_relative name ≡ true
relative_below part name whole = second_true (is_relative part) (is_relative name) (sym (ap (list_all is_entry_name) (names-joined_path part name) ∙ list_all-append is_entry_name (path_names part) (path_names name)) ∙ whole)

path_below : (part name : List ℕ) → is_path (joined_path part name) ≡ true → is_relative name ≡ true
path_below [] name whole = whole
path_below (c ∷ part) name whole = by_test (c == 47) whole
  where
    by_test : (b : Bool) → cond b (is_relative (joined_path part name)) (is_relative (c ∷ joined_path part name)) ≡ true → is_relative name ≡ true
    by_test true q = relative_below part name q
    by_test false q = relative_below (c ∷ part) name q

utf8_below : (part name : List ℕ) → IsUtf8 (joined_path part name) → IsUtf8 name
utf8_below part name utf8 =
    let at : get_or (joined_path part name) (length part) 0 ≡ 47 = get_or-append_seam part 47 name 0 in
    let ascii : get_or (joined_path part name) (length part) 0 < 128 = omega arith in
    let inside : length part < length (joined_path part name) = omega (arith, length-append part (47 ∷ name)) in
    let cut : IsUtf8 (drop (length part + 1) (joined_path part name)) = IsUtf8-drop (joined_path part name) (length part + 1) utf8 (IsCharBoundary-after_ascii (joined_path part name) (length part) utf8 inside ascii) in
    let P : List ℕ → Type 0 = IsUtf8 in
    subst P (drop-append-add part (47 ∷ name) 1) cut

-- the name of a file below a part
pub good_name_below : (part path name : List ℕ) → IsUtf8 part → is_path part ≡ true → is_file_path path ≡ true → name_below part path ≡ Some name → (is_utf8 name && is_relative name) ≡ true
good_name_below part path name utf8 form good is =
    let whole : path ≡ joined_path part name = joined_below part path name is in
    let P : List ℕ → Type 0 = λ p. is_file_path p ≡ true in
    let joined_good : is_file_path (joined_path part name) ≡ true = subst P whole good in
    and_from (is_utf8 name) (is_relative name)
    (is_utf8-from_IsUtf8 name (utf8_below part name (IsUtf8-from_is_utf8 (joined_path part name) (first_true (is_utf8 (joined_path part name)) (is_path (joined_path part name)) joined_good))))
    (path_below part name (second_true (is_utf8 (joined_path part name)) (is_path (joined_path part name)) joined_good))

pub puts_either : (b : Bool) (target : List ℕ) (draft now : List FileBytes) (file : FileBytes) → now ≡ cond b (draft ++ file ∷ []) draft → list_all (is_put target) draft ≡ true → is_put target file ≡ true → list_all (is_put target) now ≡ true
puts_either true target draft now file is good one = ap (list_all (is_put target)) is ∙ puts-push target draft file good one
puts_either false target draft now file is good one = ap (list_all (is_put target)) is ∙ good

has_name : (file : FileBytes) → is_file_name file.name ≡ true → HasName file
has_name file good = record {
  utf8 = IsUtf8-from_is_utf8 file.name (first_true (is_utf8 file.name) (is_relative file.name) good);
  form = second_true (is_utf8 file.name) (is_relative file.name) good;
}

-- the test of names
pub All-HasName : (files : List FileBytes) → list_all (λ f. is_file_name f.name) files ≡ true → All HasName files
All-HasName [] good k d inside = absurd (omega arith)
All-HasName (file ∷ files) good zero d inside = has_name file (first_true (is_file_name file.name) (list_all (λ f. is_file_name f.name) files) good)
All-HasName (file ∷ files) good (suc k) d inside = All-HasName files (second_true (is_file_name file.name) (list_all (λ f. is_file_name f.name) files) good) k d (omega arith)

pub HasName-all : (files : List FileBytes) → All HasName files → list_all (λ f. is_file_name f.name) files ≡ true
HasName-all [] names = refl
HasName-all (file ∷ files) names =
    let name : HasName file = names 0 file (omega arith) in
    let good : is_file_name file.name ≡ true = and_from (is_utf8 file.name) (is_relative file.name) (is_utf8-from_IsUtf8 file.name name.utf8) name.form in
    and_from (is_file_name file.name) (list_all (λ f. is_file_name f.name) files) good (HasName-all files (λ k d inside. names (suc k) d (omega arith)))
