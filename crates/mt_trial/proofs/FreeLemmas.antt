-- A part is free where no file is at or below it; it stays free where another part is published.
use Rattle.std.proofs.Common.{◌≡◌, Bool, false, ℕ, List, [], ◌∷◌, map, refl, ap, ◌∙◌}
use Rattle.std.specs.FinMap.{entries, entries-insert, insert, put}
use Rattle.std.specs.FinMap.Entries.{by_order}
use Rattle.std.specs.List.{list_any}
use Rattle.std.specs.Ordering.{nat_cmp}
use Rattle.std.specs.Cmp.Lexicographic.{slice_cmp}
use Rattle.std.specs.declared.cmp.Ordering.{Ordering}
use Rattle.std.specs.declared.cmp.Ordering.TheVariants.{Less, Equal, Greater}
use Rattle.std.proofs.lemmas.Cmp.{nat_list_cmp_total}
use Rattle.mt_facts.proofs.Truth.{left_false, right_false}
use Rattle.std.proofs.lemmas.Bool.{or_from}
use Rattle.mt_shelf.specs.Files.{Draft, Files, gained_files, stands}
use Rattle.mt_shelf.specs.Held.{files_in}
use Rattle.mt_shelf.specs.KeptPaths.{entries-empty}
use Rattle.mt_shelf.specs.Paths.{is_at_or_below, joined_path}

-- ---- keys

abbrev any_key : (List ℕ → Bool) → List (List ℕ × List ℕ) → Bool
any_key test files = list_any test (map (λ file. file.0) files)

none_put : (test : List ℕ → Bool) (path bytes : List ℕ) (files : List (List ℕ × List ℕ)) → test path ≡ false → any_key test files ≡ false → any_key test (put (slice_cmp nat_cmp) path bytes files) ≡ false
none_put test path bytes [] fails none = or_from (test path) false fails refl
none_put test path bytes (file ∷ files) fails none = by (slice_cmp nat_cmp path file.0) (none_put test path bytes files fails (right_false (test file.0) (any_key test files) none))
  where
    here : test file.0 ≡ false
    here = left_false (test file.0) (any_key test files) none

    by : (o : Ordering) → any_key test (put (slice_cmp nat_cmp) path bytes files) ≡ false → any_key test (by_order o ((path, bytes) ∷ file ∷ files) ((file.0, bytes) ∷ files) (file ∷ put (slice_cmp nat_cmp) path bytes files)) ≡ false
    by Less rest = or_from (test path) (any_key test (file ∷ files)) fails none
    by Equal rest = none
    by Greater rest = or_from (test file.0) (any_key test (put (slice_cmp nat_cmp) path bytes files)) here rest

-- ---- a part

pub free_gained : (part target : List ℕ) (draft : Draft) (files : Files) → ((name : List ℕ) → is_at_or_below part (joined_path target name) ≡ false) → stands part files ≡ false → stands part (gained_files target draft files) ≡ false
free_gained part target [] files apart free = free
free_gained part target (file ∷ draft) files apart free =
    free_gained part target draft (insert files (joined_path target file.0) file.1) apart
    (ap (any_key (is_at_or_below part)) (entries-insert nat_list_cmp_total files (joined_path target file.0) file.1) ∙ none_put (is_at_or_below part) (joined_path target file.0) file.1 (entries files) (apart file.0) free)

pub none_stands : (part : List ℕ) → stands part (files_in []) ≡ false
none_stands part = ap (any_key (is_at_or_below part)) entries-empty
