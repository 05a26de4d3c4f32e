-- The names that a listing shows of the files below a part.
use Rattle.std.proofs.Common.{◌≡◌, ℕ, zero, suc, Bool, List, [], ◌∷◌, length, ap, sym, ◌∙◌, subst, refl, arith, inl, inr, Option, Some, None}
use Rattle.std.specs.Prelude.{Contains, IsSome, is_some, if◌then◌else◌}
use Rattle.std.specs.Option.{option_map}
use Rattle.std.proofs.lemmas.Bool.{cases_Bool}
use Rattle.std.proofs.lemmas.List.Elements.{Contains-append_left, Contains-append_right}
use Rattle.mt_shelf.specs.declared.file.Entry.{Entry}
use Rattle.mt_shelf.specs.Files.{Files, entries_below}
use Rattle.mt_defs.specs.Folder.{names_agree}
use Rattle.mt_defs.proofs.NameLemmas.{name_is, same_name}
use Rattle.mt_files.specs.Listings.{size_in}
use Rattle.mt_files.proofs.ListingLemmas.{size_of_file}
use Rattle.mt_law_checked.specs.Listed.{HasFilesAt}
use Rattle.mt_command.specs.Parts.{folder_at, listed_names}

abbrev size_by : Entry → List Entry → List ℕ → Bool → Option ℕ
size_by entry entries name same = if same then Some entry.size else size_in entries name

-- a name that has a size is listed
sized_is_listed : (entries : List Entry) (name : List ℕ) → IsSome (size_in entries name) → Contains (listed_names entries) name
sized_is_listed [] name found = cc
sized_is_listed (entry ∷ entries) name found =
    elim (cases_Bool (names_agree entry.name name)) [
      | inl same ↦ Contains-append_left (entry.name ∷ []) (listed_names entries) name (0, omega arith, name_is entry.name name same)
      | inr other ↦ Contains-append_right (entry.name ∷ []) (listed_names entries) name (sized_is_listed entries name (subst IsSome (ap (size_by entry entries name) other) found))
    ]

-- and the other way round
listed_is_sized : (entries : List Entry) (name : List ℕ) → Contains (listed_names entries) name → IsSome (size_in entries name)
listed_is_sized [] name (i, inside, at) = absurd (omega (arith, inside))
listed_is_sized (entry ∷ entries) name (zero, inside, at) = ap (λ (same : Bool). is_some (size_by entry entries name same)) (same_name entry.name name at)
listed_is_sized (entry ∷ entries) name (suc i, inside, at) =
    elim (cases_Bool (names_agree entry.name name)) [
      | inl same ↦ ap (λ (same : Bool). is_some (size_by entry entries name same)) same
      | inr other ↦ ap (λ (same : Bool). is_some (size_by entry entries name same)) other ∙ listed_is_sized entries name (i, omega (arith, inside), at)
    ]

sized : (bytes : Option (List ℕ)) → is_some (option_map length bytes) ≡ is_some bytes
sized None = refl
sized (Some bytes) = refl

pub is_sized : (part : List ℕ) (files : Files) (name : List ℕ) → is_some (size_in (entries_below part files) name) ≡ is_some (folder_at part files name)
is_sized part files name = ap is_some (size_of_file part name files) ∙ sized (folder_at part files name)

-- a listing has the names at which the part's folder has a file
pub listed_below : (part : List ℕ) (files : Files) → HasFilesAt (folder_at part files) (listed_names (entries_below part files))
listed_below part files name = (
  λ found. sized_is_listed (entries_below part files) name (is_sized part files name ∙ found),
  λ listed. sym (is_sized part files name) ∙ listed_is_sized (entries_below part files) name listed,
)
