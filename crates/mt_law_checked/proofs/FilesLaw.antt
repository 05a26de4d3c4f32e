-- The names of the folder of a list of files.
use Rattle.std.proofs.Common.{◌≡◌, ℕ, zero, suc, Bool, List, [], ◌∷◌, map, ap, ◌∙◌, arith, inl, inr, Option, Some}
use Rattle.std.specs.Prelude.{Contains, IsSome, is_some, if◌then◌else◌}
use Rattle.std.proofs.lemmas.Bool.{cases_Bool}
use Rattle.mt_fault.specs.declared.file.FileBytes.{FileBytes}
use Rattle.mt_defs.specs.Folder.{folder_of, names_agree}
use Rattle.mt_defs.proofs.NameLemmas.{same_name}
use Rattle.mt_law_written.proofs.LookupLemmas.{found_is_listed}
use Rattle.mt_law_checked.specs.Listed.{HasFilesAt}

abbrev names_of : List FileBytes → List (List ℕ)
names_of files = map (λ file. file.name) files

abbrev held_by : FileBytes → List FileBytes → List ℕ → Bool → Option (List ℕ)
held_by file files name same = if same then Some file.bytes else folder_of files name

listed_is_found : (files : List FileBytes) (name : List ℕ) → Contains (names_of files) name → IsSome (folder_of files name)
listed_is_found [] name (i, inside, at) = absurd (omega (arith, inside))
listed_is_found (file ∷ files) name (zero, inside, at) = ap (λ (same : Bool). is_some (held_by file files name same)) (same_name file.name name at)
listed_is_found (file ∷ files) name (suc i, inside, at) =
    elim (cases_Bool (names_agree file.name name)) [
      | inl same ↦ ap (λ (same : Bool). is_some (held_by file files name same)) same
      | inr other ↦ ap (λ (same : Bool). is_some (held_by file files name same)) other ∙ listed_is_found files name (i, omega (arith, inside), at)
    ]

pub have_names : (files : List FileBytes) → HasFilesAt (folder_of files) (names_of files)
have_names files name = (found_is_listed files name, listed_is_found files name)
