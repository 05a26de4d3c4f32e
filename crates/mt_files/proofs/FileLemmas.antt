-- Files by their names, and the files of a partition.
use Rattle.std.proofs.Common.{◌≡◌, ℕ, zero, suc, ◌+◌, ◌<◌, ◌≤◌, false, List, [], ◌∷◌, length, drop, refl, ap, sym, ◌∙◌, arith, get_or, inl, inr}
use Rattle.std.specs.Prelude.{Option, Some, None, if◌then◌else◌}
use Rattle.std.proofs.lemmas.Bool.{cases_Bool}
use Rattle.mt_fault.specs.declared.file.FileBytes.{FileBytes}
use Rattle.mt_defs.specs.Folder.{folder_of, names_agree}
use Rattle.mt_defs.proofs.NameLemmas.{name_is, same_name}

-- ---- names

pub other_name : (a b : List ℕ) → (a ≡ b → ⊥) → names_agree a b ≡ false
other_name a b differ =
    elim (cases_Bool (names_agree a b)) [
      | inl same ↦ absurd (differ (name_is a b same))
      | inr other ↦ other
    ]

-- ---- looking a file up

pub found_here : (files : List FileBytes) (name : List ℕ) (i : ℕ) (d : FileBytes) → i < length files → (get_or files i d).name ≡ name → folder_of (drop i files) name ≡ Some (get_or files i d).bytes
found_here [] name i d inside is = absurd (omega (arith, inside))
found_here (file ∷ files) name zero d inside is = ap (λ b. if b then Some file.bytes else folder_of files name) (same_name file.name name is)
found_here (file ∷ files) name (suc i) d inside is = found_here files name i d (omega (arith, inside)) is

pub found_later : (files : List FileBytes) (name : List ℕ) (i : ℕ) (d : FileBytes) → i < length files → ((get_or files i d).name ≡ name → ⊥) → folder_of (drop i files) name ≡ folder_of (drop (suc i) files) name
found_later [] name i d inside other = absurd (omega (arith, inside))
found_later (file ∷ files) name zero d inside other = ap (λ b. if b then Some file.bytes else folder_of files name) (other_name file.name name other)
found_later (file ∷ files) name (suc i) d inside other = found_later files name i d (omega (arith, inside)) other

pub found_nowhere : (files : List FileBytes) (name : List ℕ) (i : ℕ) → length files ≤ i → folder_of (drop i files) name ≡ None
found_nowhere [] name zero long = refl
found_nowhere [] name (suc i) long = refl
found_nowhere (file ∷ files) name zero long = absurd (omega (arith, long))
found_nowhere (file ∷ files) name (suc i) long = found_nowhere files name i (omega (arith, long))

-- ---- as loops ask for it

pub file_found : (files : List FileBytes) (name : List ℕ) (i : ℕ) (file : FileBytes) (whole : Option (List ℕ)) → folder_of (drop i files) name ≡ whole → i < length files → file ≡ get_or files i file → file.name ≡ name → whole ≡ Some file.bytes
file_found files name i file whole ahead inside at is =
    sym ahead ∙ found_here files name i file inside (ap (λ (f : FileBytes). f.name) (sym at) ∙ is) ∙ ap (λ (f : FileBytes). Some f.bytes) (sym at)

pub file_passed : (files : List FileBytes) (name : List ℕ) (i : ℕ) (file : FileBytes) (whole : Option (List ℕ)) → folder_of (drop i files) name ≡ whole → i < length files → file ≡ get_or files i file → (file.name ≡ name → ⊥)
    → folder_of (drop (i + 1) files) name ≡ whole
file_passed files name i file whole ahead inside at other =
    ap (λ k. folder_of (drop k files) name) (let e : i + 1 ≡ suc i = omega arith in e)
    ∙ sym (found_later files name i file inside (λ is. other (ap (λ (f : FileBytes). f.name) at ∙ is))) ∙ ahead
