-- Looking a file up by its name: in a list of files of different names, the order doesn't matter.
use Rattle.std.proofs.Common.{◌≡◌, ◌≢◌, ℕ, Bool, true, false, cond, List, [], ◌∷◌, ◌++◌, map, refl, ap, sym, ◌∙◌, subst, inl, inr, arith, eqb}
use Rattle.std.specs.Prelude.{Option, Some, IsSome, Contains, if◌then◌else◌}
use Rattle.std.specs.Ordering.{is_gt}
use Rattle.std.specs.declared.cmp.Ordering.{Ordering}
use Rattle.std.proofs.lemmas.Bool.{cases_Bool, eq-eqb}
use Rattle.std.proofs.lemmas.List.Elements.{Contains-append_left, Contains-append_right}
use Rattle.mt_fault.specs.declared.file.FileBytes.{FileBytes}
use Rattle.mt_defs.specs.Folder.{names_agree, folder_of}
use Rattle.mt_defs.specs.Sorting.{placed_by, sorted_by}
use Rattle.mt_defs.proofs.NameLemmas.{name_is, same_name}

-- ---- names

pub other_name : (a b : List ℕ) → a ≢ b → names_agree a b ≡ false
other_name a b differ =
    elim (cases_Bool (names_agree a b)) [
      | inl same ↦ absurd (differ (name_is a b same))
      | inr other ↦ other
    ]

-- the last byte of a name
abbrev pub last_of : List ℕ → ℕ
last_of [] = 0
last_of (x ∷ []) = x
last_of (x ∷ y ∷ rest) = last_of (y ∷ rest)

pub last_append : (stem : List ℕ) (y : ℕ) (ending : List ℕ) → last_of (stem ++ y ∷ ending) ≡ last_of (y ∷ ending)
last_append [] y ending = refl
last_append (x ∷ []) y ending = refl
last_append (x ∷ z ∷ stem) y ending = last_append (z ∷ stem) y ending

-- names that end differently are different
pub other_ends : (a b : List ℕ) (m n : ℕ) → last_of a ≡ m → last_of b ≡ n → eqb m n ≡ false → names_agree a b ≡ false
other_ends a b m n at_a at_b differ = other_name a b (λ same.
    let bad : true ≡ false = sym (eq-eqb m n (sym at_a ∙ ap last_of same ∙ at_b)) ∙ differ in
    cc)

-- ---- one file among others

-- no file of these has this one's name
abbrev pub Apart : FileBytes → List FileBytes → Type 0
Apart file [] = Unit {0}
Apart file (other ∷ files) = (names_agree file.name other.name ≡ false) × Apart file files

-- all names are different
abbrev pub AreApart : List FileBytes → Type 0
AreApart [] = Unit {0}
AreApart (file ∷ files) = Apart file files × AreApart files

pub found_here : (file : FileBytes) (files : List FileBytes) → folder_of (file ∷ files) file.name ≡ Some file.bytes
found_here file files = ap (λ b. if b then Some file.bytes else folder_of files file.name) (same_name file.name file.name refl)

pub found_later : (file : FileBytes) (files : List FileBytes) (name : List ℕ) (found : Option (List ℕ)) → names_agree file.name name ≡ false → folder_of files name ≡ found → folder_of (file ∷ files) name ≡ found
found_later file files name found other there = ap (λ b. if b then Some file.bytes else folder_of files name) other ∙ there

turned : {A : Type 0} (p q : Bool) (x y z : A) → (p ≡ true → q ≡ true → ⊥) → (if q then y else (if p then x else z)) ≡ (if p then x else (if q then y else z))
turned true true x y z one = absurd (one refl refl)
turned true false x y z one = refl
turned false q x y z one = refl

module _ (R : FileBytes → FileBytes → Ordering) where
  placed_found : (file : FileBytes) (files : List FileBytes) (name : List ℕ) → Apart file files → folder_of (placed_by R file files) name ≡ folder_of (file ∷ files) name
  placed_found file [] name apart = refl
  placed_found file (other ∷ files) name apart =
      elim (is_gt (R file other)) as (λ b. folder_of (cond b (other ∷ placed_by R file files) (file ∷ other ∷ files)) name ≡ folder_of (file ∷ other ∷ files) name) [
        | true ↦
            ap (λ rest. if names_agree other.name name then Some other.bytes else rest) (placed_found file files name apart.1)
            ∙ turned (names_agree file.name name) (names_agree other.name name) (Some file.bytes) (Some other.bytes) (folder_of files name) (λ p q.
            let both : names_agree file.name other.name ≡ true = same_name file.name other.name (name_is file.name name p ∙ sym (name_is other.name name q)) in
            let bad : true ≡ false = sym both ∙ apart.0 in
            cc)
        | false ↦ refl
      ]

  apart_placed : (file other : FileBytes) (files : List FileBytes) → names_agree file.name other.name ≡ false → Apart file files → Apart file (placed_by R other files)
  apart_placed file other [] differ apart = (differ, tt)
  apart_placed file other (next ∷ files) differ apart =
      elim (is_gt (R other next)) as (λ b. Apart file (cond b (next ∷ placed_by R other files) (other ∷ next ∷ files))) [
        | true ↦ (apart.0, apart_placed file other files differ apart.1)
        | false ↦ (differ, apart)
      ]

  apart_sorted : (file : FileBytes) (files : List FileBytes) → Apart file files → Apart file (sorted_by R files)
  apart_sorted file [] apart = tt
  apart_sorted file (other ∷ files) apart = apart_placed file other (sorted_by R files) apart.0 (apart_sorted file files apart.1)

  sorted_found : (files : List FileBytes) (name : List ℕ) → AreApart files → folder_of (sorted_by R files) name ≡ folder_of files name
  sorted_found [] name apart = refl
  sorted_found (file ∷ files) name apart =
      placed_found file (sorted_by R files) name (apart_sorted file files apart.0)
      ∙ ap (λ rest. if names_agree file.name name then Some file.bytes else rest) (sorted_found files name apart.1)

  -- sorting files of different names changes no folder
  pub sorted_folder : (files : List FileBytes) → AreApart files → folder_of (sorted_by R files) ≡ folder_of files
  sorted_folder files apart i name = sorted_found files name apart i

-- a name that is found is one of the files'
pub found_is_listed : (files : List FileBytes) (name : List ℕ) → IsSome (folder_of files name) → Contains (map (λ file. file.name) files) name
found_is_listed [] name found = cc
found_is_listed (file ∷ files) name found =
    elim (cases_Bool (names_agree file.name name)) [
      | inl same ↦ Contains-append_left (file.name ∷ []) (map (λ file. file.name) files) name (0, omega arith, name_is file.name name same)
      | inr other ↦ Contains-append_right (file.name ∷ []) (map (λ file. file.name) files) name (found_is_listed files name (subst IsSome (ap (λ b. if b then Some file.bytes else folder_of files name) other) found))
    ]
