-- Files of some names of a listed part, one more at a time.
use Rattle.std.proofs.Common.{◌≡◌, ℕ, ◌+◌, ◌<◌, List, [], ◌∷◌, ◌++◌, length, take, refl, ap, sym, ◌∙◌, get_or}
use Rattle.std.specs.Prelude.{Option, Some, None, IfSome}
use Rattle.std.specs.List.{cons_option}
use Rattle.std.proofs.lemmas.List.{append-nil, append_assoc}
use Rattle.mt_fault.specs.declared.file.FileBytes.{FileBytes}
use Rattle.mt_shelf.specs.declared.file.Entry.{Entry}
use Rattle.mt_shelf.specs.Files.{Files, entries_below}
use Rattle.mt_files.specs.Listings.{size_in}
use Rattle.mt_files.specs.NamedFiles.{file_named, files_named, part_folder}
use Rattle.mt_files.proofs.ListingLemmas.{known_absence}
use Rattle.mt_files.proofs.NamedLemmas.{named_more}

none_more : (name : List ℕ) (files : List FileBytes) (found : Option (List ℕ)) → None ≡ found → files ≡ files ++ cons_option (file_named (λ _. found) name) []
none_more name files None is = sym (append-nil files)
none_more name files (Some bytes) is = cc

-- a file that isn't listed isn't there
pub nothing_known : (part name : List ℕ) (listing : List Entry) (files : List FileBytes) (stored : Option Files) → IfSome stored (λ s. listing ≡ entries_below part s) → size_in listing name ≡ None
    → IfSome stored (λ s. files ≡ files ++ cons_option (file_named (part_folder part s) name) [])
nothing_known part name listing files stored is none = by stored (known_absence part name listing stored is none)
  where
    by : (stored : Option Files) → IfSome stored (λ s. None ≡ part_folder part s name) → IfSome stored (λ s. files ≡ files ++ cons_option (file_named (part_folder part s) name) [])
    by None absent = tt
    by (Some s) absent = none_more name files (part_folder part s name) absent

-- one file more
pub known_more : (part : List ℕ) (stored now : Option Files) (names : List (List ℕ)) (i : ℕ) (name d : List ℕ) (initial files new : List FileBytes) → i < length names → name ≡ get_or names i d → now ≡ stored
    → IfSome stored (λ s. files ≡ initial ++ files_named (part_folder part s) (take i names)) → IfSome now (λ s. new ≡ files ++ cons_option (file_named (part_folder part s) name) [])
    → IfSome stored (λ s. new ≡ initial ++ files_named (part_folder part s) (take (i + 1) names))
known_more part None now names i name d initial files new inside at same before more = tt
known_more part (Some s) None names i name d initial files new inside at same before more = cc
known_more part (Some s) (Some t) names i name d initial files new inside at same before more =
    let one : t ≡ s = cc in
    let here = file_named (part_folder part s) name in
    more ∙ ap (λ (u : Files). files ++ cons_option (file_named (part_folder part u) name) []) one
    ∙ ap (λ (fs : List FileBytes). fs ++ cons_option here []) before
    ∙ append_assoc initial (files_named (part_folder part s) (take i names)) (cons_option here [])
    ∙ ap (λ (fs : List FileBytes). initial ++ fs) (sym (named_more (part_folder part s) names i name d inside at))
